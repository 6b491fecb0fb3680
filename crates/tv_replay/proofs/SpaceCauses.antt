-- No line feed stands in the lines of errors for which an index isn't measured.
use Rattle.std.proofs.Common.{◌≡◌, ◌⊎◌, inl, inr, ℕ, ◌==◌, ◌&&◌, Bool, true, not, if◌then◌else◌, List, [], ◌∷◌, ◌++◌, codes, map, refl, sym, ap, subst, ◌∙◌, Option, None, Some, string_bytes}
use Rattle.std.specs.List.{list_all}
use Rattle.std.specs.Fmt.{decimal}
use Rattle.hex.specs.Hex.{encode_lower}
use Rattle.tv_base.specs.Causes.{OpenReadCause}
use Rattle.tv_base.specs.declared.error.TantivyError.{TantivyError}
use Rattle.tv_base.specs.declared.error.TantivyError.TheVariants as errors
use Rattle.tv_base.specs.declared.open_errors.OpenReadError.{OpenReadError}
use Rattle.tv_base.specs.declared.open_errors.OpenReadError.TheVariants as read
use Rattle.tv_device.specs.declared.directory.Directory.{Ghosts}
use Rattle.tv_formats.specs.declared.segment.DeleteMeta.{DeleteMeta}
use Rattle.tv_formats.specs.declared.segment.LiveSegment.{LiveSegment}
use Rattle.tv_formats.specs.declared.segment.SegmentComponent.{SegmentComponent}
use Rattle.tv_formats.specs.declared.segment.SegmentComponent.TheVariants as components
use Rattle.tv_formats.specs.Files.{has_no_feed}
use Rattle.tv_formats.specs.Names.{list_name, meta_name}
use Rattle.tv_formats.specs.Segments.{all_required, delete_opstamp, extension, name_of, required_components, required_names}
use Rattle.tv_formats.proofs.NoFeeds.{no_feed_append, no_feed_id}
use Rattle.tv_index.specs.Standing.{MetaCause}
use Rattle.tv_managed.specs.Reading.{NamesFile}
use Rattle.tv_managed.specs.Wrapping.{ListCause}
use Rattle.tv_replay.specs.ErrorLines.{error_line, fault_line, read_line}
use Rattle.tv_space.specs.Measuring.{BodyCause, MeasureCause}
use Rattle.tv_replay.proofs.Runs.{corrupt_no_feed, decimal_no_feed, device_no_feed, fault_no_feed, format_no_feed, io_no_feed}

-- ---- the names of files of segments

dotted_no_feed : (id rest : List ℕ) → has_no_feed rest ≡ true → has_no_feed ((encode_lower id ++ codes ".") ++ rest) ≡ true
dotted_no_feed id rest h = no_feed_append (encode_lower id ++ codes ".") rest (no_feed_append (encode_lower id) (codes ".") (no_feed_id id) refl) h

name_no_feed : (id : List ℕ) (deletes : Option DeleteMeta) (c : SegmentComponent) → has_no_feed (name_of id deletes c) ≡ true
name_no_feed id deletes components.Delete =
    no_feed_append (encode_lower id ++ codes "." ++ decimal (delete_opstamp deletes)) (codes ".del") (dotted_no_feed id (decimal (delete_opstamp deletes)) (decimal_no_feed (delete_opstamp deletes))) refl
name_no_feed id deletes components.Postings = dotted_no_feed id (codes "idx") refl
name_no_feed id deletes components.Positions = dotted_no_feed id (codes "pos") refl
name_no_feed id deletes components.FastFields = dotted_no_feed id (codes "fast") refl
name_no_feed id deletes components.FieldNorms = dotted_no_feed id (codes "fieldnorm") refl
name_no_feed id deletes components.Terms = dotted_no_feed id (codes "term") refl
name_no_feed id deletes components.Store = dotted_no_feed id (codes "store") refl

-- none of these names has a line feed
abbrev NoneFeeds : List (List ℕ) → Type 0
NoneFeeds [] = Unit {0}
NoneFeeds (name ∷ names) = (has_no_feed name ≡ true) × NoneFeeds names

none_more : (names others : List (List ℕ)) → NoneFeeds names → NoneFeeds others → NoneFeeds (names ++ others)
none_more [] others h k = k
none_more (n ∷ names) others h k = (h.0, none_more names others h.1 k)

none_among : (front : List (List ℕ)) (name : List ℕ) (rest : List (List ℕ)) → NoneFeeds (front ++ name ∷ rest) → has_no_feed name ≡ true
none_among [] name rest h = h.0
none_among (n ∷ front) name rest h = none_among front name rest h.1

none_named : (id : List ℕ) (deletes : Option DeleteMeta) (cs : List SegmentComponent) → NoneFeeds (map (name_of id deletes) cs)
none_named id deletes [] = tt
none_named id deletes (c ∷ cs) = (name_no_feed id deletes c, none_named id deletes cs)

none_required : (entries : List (List ℕ × LiveSegment)) → NoneFeeds (all_required entries)
none_required [] = tt
none_required (e ∷ entries) = none_more (required_names e.0 e.1) (all_required entries) (none_named e.0 e.1.deletes (required_components e.1)) (none_required entries)

-- ---- the lines of errors

file_no_feed : (name : List ℕ) (why : OpenReadError) → has_no_feed name ≡ true → NamesFile name why → has_no_feed (read_line why) ≡ true
file_no_feed name (read.FileDoesNotExist path) h is = no_feed_append (codes "error missing ") (string_bytes path) refl (rw is h)
file_no_feed name (read.IoError fault path) h is = fault_no_feed fault.kind (string_bytes path) (rw is h)
file_no_feed name (read.IncompatibleIndex why) h is = format_no_feed why
file_no_feed name read.Memory h is = refl

meta_no_feed : (absent refused quiet : Type 0) (why : OpenReadError) → OpenReadCause meta_name absent refused quiet why → has_no_feed (read_line why) ≡ true
meta_no_feed absent refused quiet (read.FileDoesNotExist path) h = no_feed_append (codes "error missing ") (string_bytes path) refl (rw h.0 refl)
meta_no_feed absent refused quiet (read.IoError fault path) h = device_no_feed fault.kind (string_bytes path) h.1
meta_no_feed absent refused quiet (read.IncompatibleIndex why) h = absurd h
meta_no_feed absent refused quiet read.Memory h = refl

list_no_feed : (damaged refused quiet : Type 0) (e : TantivyError) → ListCause damaged refused quiet e → has_no_feed (error_line e) ≡ true
list_no_feed damaged refused quiet (errors.DataCorruption why) h = corrupt_no_feed why.filepath list_name h.0 refl
list_no_feed damaged refused quiet (errors.IoError fault) h = io_no_feed fault.kind
list_no_feed damaged refused quiet errors.Memory h = refl
list_no_feed damaged refused quiet other h = absurd h

loaded_no_feed : (tells : Type 0) (expected was : Option (List ℕ)) (refused quiet : Type 0) (e : TantivyError) → MetaCause tells expected was refused quiet e → has_no_feed (error_line e) ≡ true
loaded_no_feed tells expected was refused quiet (errors.OpenReadError why) h = meta_no_feed _ _ _ why h
loaded_no_feed tells expected was refused quiet (errors.DataCorruption why) h = corrupt_no_feed why.filepath meta_name h.1 refl
loaded_no_feed tells expected was refused quiet (errors.SchemaError text) h = refl
loaded_no_feed tells expected was refused quiet (errors.IoError fault) h = io_no_feed fault.kind
loaded_no_feed tells expected was refused quiet errors.Memory h = refl
loaded_no_feed tells expected was refused quiet other h = absurd h

module _ {D W C : Type 0} (g : Ghosts D W C) (old new : D) (schema : List ℕ) where
  body_no_feed : (e : TantivyError) → BodyCause g old new schema e → has_no_feed (error_line e) ≡ true
  body_no_feed (errors.OpenReadError why) h =
      let none = subst NoneFeeds h.unread.names_are (none_required h.commit.segments) in
      file_no_feed h.unread.name why (none_among h.unread.front h.unread.name h.unread.rest none) h.unread.unread.path
  body_no_feed (errors.IoError fault) h = io_no_feed fault.kind
  body_no_feed errors.Memory h = refl
  body_no_feed other h = absurd h

  -- no line feed stands in the line of an error for which a directory isn't measured
  pub measure_no_feed : (e : TantivyError) → MeasureCause g old new schema e → has_no_feed (error_line e) ≡ true
  measure_no_feed e (inl h) = list_no_feed _ _ _ e h
  measure_no_feed e (inr (listed, inl h)) = loaded_no_feed _ (Some schema) _ _ _ e h
  measure_no_feed e (inr (listed, inr h)) = body_no_feed e h
