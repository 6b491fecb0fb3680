-- An index: what it keeps, how it is opened or made, and what its calls leave alone.
use Rattle.std.specs.Prelude.{◌≡◌, ◌≢◌, ◌⊎◌, ℕ, Bool, true, ◌||◌, List, [], ◌∷◌, map, Option, Some, None, string_bytes}
use Rattle.std.specs.BTreeSet.{insert_key}
use Rattle.hex.specs.Hex.{encode_lower}
use Rattle.tv_base.specs.Causes.{IsDevice}
use Rattle.tv_base.specs.declared.error.TantivyError.{TantivyError}
use Rattle.tv_base.specs.declared.error.TantivyError.TheVariants as errors
use Rattle.tv_base.specs.declared.executor.Executor.{Executor}
use Rattle.tv_base.specs.declared.executor.Executor.TheVariants.{SingleThread}
use Rattle.tv_device.specs.Ram.{ram_reads}
use Rattle.tv_device.specs.View.{View, OnlyReads}
use Rattle.tv_device.specs.Watch.{noted}
use Rattle.tv_device.specs.declared.directory.Directory.{Ghosts}
use Rattle.tv_device.specs.declared.ram_directory.RamDirectory.{RamDirectory}
use Rattle.tv_managed.specs.Frames.{KeepsNames}
use Rattle.tv_managed.specs.Managed.{KeepsOtherFiles}
use Rattle.tv_managed.specs.Names.{ManagedNames}
use Rattle.tv_managed.specs.Reading.{ReadsSuch}
use Rattle.tv_managed.specs.Wrapping.{ListCause, ListRefusal}
use Rattle.tv_formats.specs.Collections.{no_collections}
use Rattle.tv_formats.specs.Commits.{Commit, IndexForm, Settings}
use Rattle.tv_formats.specs.Files.{Reads, Rose, Same}
use Rattle.tv_formats.specs.Listing.{IsListFile, Listing}
use Rattle.tv_formats.specs.Meaning.{Means}
use Rattle.tv_formats.specs.Names.{byte_cmp, meta_name}
use Rattle.tv_formats.specs.Segments.{is_named}
use Rattle.tv_index.specs.NewForms.{OpensForm, form_with, new_text}
use Rattle.tv_index.specs.Opening.{HasList, HasNoList, IsRefusedBytes}
use Rattle.tv_index.specs.Saving.{FrameNotes, FrameNotesUnless, IsUnrefused}
use Rattle.tv_index.specs.Standing.{LoadsMeta, MetaCause}
use Rattle.tv_metas.specs.Tracked.{KeptMetas, Share, TrackAll, has_id}
use Rattle.tv_metas.specs.TrackedMetas.{tracked_commit, tracked_settings}
use Rattle.tv_metas.specs.declared.tracked_meta.IndexMeta.{IndexMeta}
use Rattle.tv_metas.specs.declared.index_meta.UntrackedIndexMeta.{UntrackedIndexMeta}
use Rattle.tv_metas.specs.declared.index_settings.IndexSettings.{IndexSettings}

-- an index: its directory with the managed names and the unfinished collections, its settings, the text of
-- its schema, the segments that its inventory keeps, and who runs its searches
pub record IndexState (D : Type 0) : Type 0 where
  pub directory : D × ManagedNames
  pub settings : IndexSettings
  pub schema : List ℕ
  pub kept : KeptMetas
  pub executor : Executor

-- an index shows this commit's settings and schema, keeps no segment so far, and is searched by the caller
pub record Shows {D : Type 0} (meta : UntrackedIndexMeta) (index : IndexState D) : Type 0 where
  pub settings : index.settings ≡ meta.index_settings
  pub schema : index.schema ≡ meta.schema
  pub kept : index.kept ≡ []
  pub executor : index.executor ≡ SingleThread

-- The index that stands in a directory is open, with the schema that its `meta.json` spells. Nothing was
-- changed, and no collection was begun.
pub record OpensStanding {D W C : Type 0} (g : Ghosts D W C) (before : D)
    (index : IndexState D) : Type 0 where
  pub meta : UntrackedIndexMeta
  pub loads : LoadsMeta g before None meta
  pub shows : Shows meta index
  pub lists : g.told.content → Listing (g.view before).reads index.directory.1.managed
  pub collections : index.directory.1.collections ≡ no_collections
  pub quiet : (g.view index.directory.0).faults ≡ (g.view before).faults
  pub frame : OnlyReads g.told (g.view before) (g.view index.directory.0)

-- Why the index that stands isn't opened, in this order: its list is no list; there is no `meta.json`, or it
-- means no commit. Each is so, and none before it. A device may refuse a call, and memory may be wanted, at
-- any time.
abbrev pub StandingCause : (tells : Type 0) → Reads → (refused quiet : Type 0) → TantivyError → Type 0
StandingCause tells reads refused quiet (errors.DataCorruption why) =
    ListCause ((tells → HasNoList reads) × quiet) refused quiet (errors.DataCorruption why)
    ⊎ ((tells → HasList reads)
    × MetaCause tells None (reads meta_name) refused quiet (errors.DataCorruption why))
StandingCause tells reads refused quiet (errors.OpenReadError why) =
    (tells → HasList reads) × MetaCause tells None (reads meta_name) refused quiet (errors.OpenReadError why)
StandingCause tells reads refused quiet (errors.IoError fault) = IsDevice fault × refused
StandingCause tells reads refused quiet errors.Memory = quiet
StandingCause tells reads refused quiet other = ⊥

-- The index isn't open, and the directory comes back. Nothing was changed.
pub record NotStanding {D W C : Type 0} (g : Ghosts D W C) (before now : D)
    (error : TantivyError) : Type 0 where
  pub cause : StandingCause g.told.content (g.view before).reads
      (Rose (g.view before).faults (g.view now).faults) ((g.view now).faults ≡ (g.view before).faults) error
  pub frame : OnlyReads g.told (g.view before) (g.view now)

-- The index that stood in a directory is open, or a new one of this form.
pub record OpensIndexOf {D W C : Type 0} (g : Ghosts D W C) (before : D) (form : IndexForm)
    (index : IndexState D) : Type 0 where
  pub meta : UntrackedIndexMeta
  pub opens : OpensForm g before form index.directory meta
  pub shows : Shows meta index

-- A new index of this form stands in the directory: `meta.json` was replaced by its first commit, of which a
-- notice stands, and no other file but the list was changed. No collection was begun.
pub record CreatesIndex {D W C : Type 0} (g : Ghosts D W C) (before : D) (settings : IndexSettings)
    (schema : List ℕ) (index : IndexState D) : Type 0 where
  pub settings_is : index.settings ≡ settings
  pub schema_is : index.schema ≡ schema
  pub kept : index.kept ≡ []
  pub executor : index.executor ≡ SingleThread
  pub saved : g.told.content
      → (g.view index.directory.0).reads meta_name ≡ Some (new_text (form_with settings schema))
  pub others : g.told.content
      → KeepsOtherFiles (g.view before).reads (g.view index.directory.0).reads meta_name
  pub listed : g.told.content → (names : List (List ℕ)) × Listing (g.view before).reads names
      × (index.directory.1.managed ≡ insert_key byte_cmp names meta_name)
  pub lists : g.told.content → Listing (g.view index.directory.0).reads index.directory.1.managed
  pub collections : index.directory.1.collections ≡ no_collections
  pub quiet : (g.view index.directory.0).faults ≡ (g.view before).faults
  pub notes : (g.view index.directory.0).watched ≡ noted meta_name (g.view before).watched
  pub frame : FrameNotes g.told (g.view before) (g.view index.directory.0)

-- A new index of this form in memory: no name is managed but `meta.json`, which has its first commit, and the
-- list lists it; there is no other file. No collection was begun.
pub record IsNewInRam {C : Type 0} (settings : IndexSettings) (schema : List ℕ)
    (index : IndexState (RamDirectory C)) : Type 0 where
  pub settings_is : index.settings ≡ settings
  pub schema_is : index.schema ≡ schema
  pub kept : index.kept ≡ []
  pub executor : index.executor ≡ SingleThread
  pub managed : index.directory.1.managed ≡ meta_name ∷ []
  pub collections : index.directory.1.collections ≡ no_collections
  pub saved : ram_reads index.directory.0 meta_name ≡ Some (new_text (form_with settings schema))
  pub lists : Listing (ram_reads index.directory.0) index.directory.1.managed
  pub others : (n : List ℕ) → n ≢ meta_name → (IsListFile n → ⊥) → ram_reads index.directory.0 n ≡ None

-- It doesn't stand, and the directory comes back. `meta.json` has the text of the first commit, or what it
-- had; after want of memory what it had. Where the list was refused, nothing was changed. A notice may have
-- come where the device refused a call.
pub record NotCreated {D W C : Type 0} (g : Ghosts D W C) (before : D) (form : IndexForm) (now : D)
    (error : TantivyError) : Type 0 where
  pub either : g.told.content → ((g.view now).reads meta_name ≡ Some (new_text form))
      ⊎ ((g.view now).reads meta_name ≡ (g.view before).reads meta_name)
  pub memory : g.told.content → error ≡ errors.Memory
      → (g.view now).reads meta_name ≡ (g.view before).reads meta_name
  pub others : g.told.content → KeepsOtherFiles (g.view before).reads (g.view now).reads meta_name
  pub unchanged : g.told.content → IsRefusedBytes error → Same (g.view before).reads (g.view now).reads
  pub cause : ListRefusal g.told (g.view before) (g.view now) error
  pub frame : FrameNotesUnless g.told (IsUnrefused error) (g.view before) (g.view now)

-- The managed names, the unfinished collections, the settings, the schema and the executor stay, and of the
-- directory below what such a call keeps.
pub record KeepsForm {D W : Type 0} (keeps : View W → View W → Type 0) (view : D → View W)
    (old new : IndexState D) : Type 0 where
  pub directory : KeepsNames keeps view old.directory new.directory
  pub settings : new.settings ≡ old.settings
  pub schema : new.schema ≡ old.schema
  pub executor : new.executor ≡ old.executor

-- The managed names, the unfinished collections, the settings, the schema, the executor and the segments that
-- are kept stay, and of the directory below what such a call keeps.
pub record KeepsIndex {D W : Type 0} (keeps : View W → View W → Type 0) (view : D → View W)
    (old new : IndexState D) : Type 0 where
  pub form : KeepsForm keeps view old new
  pub kept : new.kept ≡ old.kept

-- The settings, the schema, the executor and the segments that are kept stay, and of the directory below what
-- such a call keeps; names may become managed.
pub record KeepsBeside {D W : Type 0} (keeps : View W → View W → Type 0) (view : D → View W)
    (old new : IndexState D) : Type 0 where
  pub below : keeps (view old.directory.0) (view new.directory.0)
  pub settings : new.settings ≡ old.settings
  pub schema : new.schema ≡ old.schema
  pub executor : new.executor ≡ old.executor
  pub kept : new.kept ≡ old.kept

-- The commit that `meta.json` means under the index's schema, with a share of each of its segments, which
-- were taken in.
pub record LoadsCommit {D W C : Type 0} (g : Ghosts D W C) (old new : IndexState D)
    (meta : IndexMeta) : Type 0 where
  pub schema : meta.schema ≡ old.schema
  pub means : g.told.content → ReadsSuch ((g.view old.directory.0).reads meta_name)
      (λ bytes. Means (tracked_settings meta) old.schema bytes (tracked_commit meta))
  pub tracks : TrackAll meta.segments.items old.kept new.kept

-- what is read means a commit under this schema, of which this is true
abbrev pub MeansSuch : (schema : List ℕ) → Option (List ℕ) → (Commit → Type 0) → Type 0
MeansSuch schema read P =
    ReadsSuch read (λ bytes. (settings : Settings) × (commit : Commit)
    × Means settings schema bytes commit × P commit)

-- The segments of the commit that `meta.json` means under the index's schema, each with a share, which were
-- taken in.
pub record LoadsShares {D W C : Type 0} (g : Ghosts D W C) (old new : IndexState D)
    (shares : List Share) : Type 0 where
  pub means : g.told.content → MeansSuch old.schema ((g.view old.directory.0).reads meta_name)
      (λ commit. commit.segments ≡ map (λ s. s.1) shares)
  pub tracks : TrackAll shares old.kept new.kept

-- a segment that is kept has this id, or a managed name begins with it
abbrev pub is_id_used : {D : Type 0} → IndexState D → List ℕ → Bool
is_id_used index id = has_id index.kept id || is_named index.directory.1.managed id

-- Why there is no new segment of this id: the id is in use, and the text is its digits; or memory was wanted.
abbrev pub NewSegmentCause : {D : Type 0} → IndexState D → List ℕ → TantivyError → Type 0
NewSegmentCause index id (errors.IdInUse text) =
    (is_id_used index id ≡ true) × (string_bytes text ≡ encode_lower id)
NewSegmentCause index id errors.Memory = Unit {0}
NewSegmentCause index id other = ⊥
