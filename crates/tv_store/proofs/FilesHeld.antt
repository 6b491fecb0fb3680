-- What is held after an action on a file.
use Rattle.std.proofs.Common.{◌≡◌, ◌≢◌, ℕ, ◌+◌, ◌≤◌, Bool, true, false, true≢false, ⊎_elim, cond, List, [], ◌∷◌, ◌++◌, length, length-append, codes, Option, Some, None, option_map, is_some, Bor, refl, sym, ap, subst, ◌∙◌, arith}
use Rattle.std.specs.Prelude.{IsSome}
use Rattle.std.specs.Map.{remove_entry, set_value}
use Rattle.std.specs.BTreeMap.{is_at, insert_entry}
use Rattle.std.specs.BTreeSet.{insert_key}
use Rattle.tv_formats.specs.Names.{byte_cmp, has, meta_name, at}
use Rattle.tv_formats.specs.Footer.{sealed}
use Rattle.tv_formats.specs.Files.{Reads, KeepsOthers, Sets}
use Rattle.tv_formats.specs.Listing.{IsListFile, Listing}
use Rattle.tv_machine.specs.State.{Catalog, State, StepResult, FileState, SealedFile, Open, Left, file_at, with_file}
use Rattle.tv_machine.specs.Lines.{given}
use Rattle.tv_machine.specs.FileEvents.{sealed_as, written_to, wrote}
use Rattle.tv_formats.specs.Collections.{Collections, held}
use Rattle.tv_machine.specs.Living.{living}
use Rattle.tv_machine.specs.SoundStates.{IsWhole}
use Rattle.tv_machine.specs.Index.{IsFileOf}
use Rattle.std.specs.Cmp.{eq_by_cmp_equiv}
use Rattle.std.proofs.lemmas.Map.{lookup-set_value}
use Rattle.std.specs.Cmp.Lexicographic.{nat_list_cmp_total}
use Rattle.tv_formats.proofs.Entries.{at_itself, text_at, lookup_put, has_kept}
use Rattle.tv_machine.proofs.SoundStates.{put_some}
use Rattle.tv_device.specs.View.{Kept as KeptView}
use Rattle.tv_device.specs.declared.directory.Directory.{Ghosts}
use Rattle.tv_formats.specs.Meaning.{Means}
use Rattle.tv_formats.specs.Commits.{IndexForm}
use Rattle.tv_store.proofs.Listings.{listing_beside, undotted_isnt_list}
use Rattle.tv_catalog.specs.Kept.{KeptState}
use Rattle.tv_store.specs.Kept.{FilesState, kept_of, FileHolds, is_left, Holds}
use Rattle.tv_catalog.specs.Actions.{of_body}
use Rattle.tv_store.specs.FileCalls.{OpensFile, FindsFile}
use Rattle.tv_store.specs.Performing.{FilesHold, Performed, Short}
use Rattle.tv_catalog.specs.declared.action.Action.TheVariants as actions
use Rattle.tv_catalog.specs.declared.action.Reply.TheVariants as replies
use Rattle.tv_store.specs.Stays.{KeepsManaged}
use Rattle.tv_store.proofs.Changed.{opened_anew, sealed_now, wrote_more}
use Rattle.tv_store.proofs.Holding.{same_holds}
use Rattle.tv_catalog.proofs.SharedLaws.{all_put, all_left, all_found, has_body}
use Rattle.tv_store.proofs.OpenFiles.{all_set}
use Rattle.tv_store.proofs.Removals.{at_removed}

-- ---- steps of files

-- what was written to a file of the state is what was written to it here
pub written_is : (file : Option FileState) (read written : Option (List ℕ)) → FileHolds file read written → written_to file ≡ written
written_is None read written h = sym h.1
written_is (Some (SealedFile bytes)) read written h = sym h.1
written_is (Some (Open body)) read written h = sym h.1
written_is (Some Left) read written h = sym h.1

-- the step of an open file, by what was written to it here
pub body_step : (s : State) (name : List ℕ) (step : List ℕ → StepResult State) (reads : Reads) (kept : KeptState) (written : Option (List ℕ)) → Holds reads kept s → IsFileOf name → at kept.open_files name ≡ written
    → given s (written_to (file_at s name)) (codes "not-open") step ≡ given s written (codes "not-open") step
body_step s name step reads kept written h fits e =
    ap (λ (o : Option (List ℕ)). given s o (codes "not-open") step) (written_is (file_at s name) (reads name) (at kept.open_files name) (h.files name fits) ∙ e)

-- ---- what is held

apart : (name n : List ℕ) → is_at (byte_cmp name) n ≡ false → n ≢ name
apart name n missed e = true≢false (sym (at_itself name) ∙ ap (λ (m : List ℕ). is_at (byte_cmp name) m) (sym e) ∙ missed)

-- a file that is put over an old one
chosen : (b : Bool) (file : FileState) (old : Option FileState) (read written : Option (List ℕ)) → (b ≡ true → FileHolds (Some file) read written) → (b ≡ false → FileHolds old read written) → FileHolds (cond b (Some file) old) read written
chosen true file old read written here there = here refl
chosen false file old read written here there = there refl

-- a file that is put is not left, and neither was the one in its place
left_put : (b left : Bool) (file : FileState) (old : Option FileState) → (b ≡ true → left ≡ false) → is_left (Some file) ≡ false → left ≡ is_left old → left ≡ is_left (cond b (Some file) old)
left_put true left file old here now was = here refl ∙ sym now
left_put false left file old here now was = was

-- what is held where one file changed
changed : {O : Type 0} (c : Catalog) (reads reads2 : Reads) (old new : FilesState O) (s : State) (name : List ℕ) (file : FileState) (managed : List (List ℕ))
    → IsFileOf name → ((n : List ℕ) → n ≢ name → (IsListFile n → ⊥) → reads2 n ≡ reads n) → new.managed ≡ managed → Listing reads2 managed → has managed meta_name ≡ true
    → FileHolds (Some file) (reads2 name) (at new.open_files name) → ((n : List ℕ) → is_at (byte_cmp name) n ≡ false → at new.open_files n ≡ at old.open_files n)
    → new.left ≡ old.left → new.form ≡ old.form → new.collections ≡ old.collections → is_left (file_at s name) ≡ false → is_left (Some file) ≡ false
    → Holds reads (kept_of c old) s → Holds reads2 (kept_of c new) (record (with_file s name file) { managed = managed })
changed c reads reads2 old new s name file managed fits others names listing listed here rest left made still was now h = record {
  catalog = h.catalog;
  managed = names;
  collections = still ∙ h.collections;
  segments = h.segments;
  names = λ n is.
      put_some {P = IsFileOf n} (is_at (byte_cmp name) n) file (file_at s n) (λ e. subst IsFileOf (text_at name n e) fits) (h.names n)
      (subst (λ (o : Option FileState). is_some o ≡ true) (lookup_put s.files name n file) is);
  files = λ n it.
      subst (λ (o : Option FileState). FileHolds o (reads2 n) (at new.open_files n)) (sym (lookup_put s.files name n file))
      (chosen (is_at (byte_cmp name) n) file (file_at s n) (reads2 n) (at new.open_files n)
      (λ e. subst (λ (m : List ℕ). FileHolds (Some file) (reads2 m) (at new.open_files m)) (text_at name n e) here)
      (λ e.
      subst (λ (r : Option (List ℕ)). FileHolds (file_at s n) r (at new.open_files n)) (sym (others n (apart name n e) (undotted_isnt_list n it.0)))
      (subst (λ (w : Option (List ℕ)). FileHolds (file_at s n) (reads n) w) (sym (rest n e)) (h.files n it))));
  left = λ n it.
      let stays : has new.left n ≡ is_left (file_at s n) = ap (λ (names : List (List ℕ)). has names n) left ∙ h.left n it in
      subst (λ (o : Option FileState). has new.left n ≡ is_left o) (sym (lookup_put s.files name n file))
      (left_put (is_at (byte_cmp name) n) (has new.left n) file (file_at s n) (λ e. stays ∙ ap (λ (m : List ℕ). is_left (file_at s m)) (sym (text_at name n e)) ∙ was) now stays);
  meta = (h.meta.0, others meta_name (λ e. fits.1 (sym e)) (undotted_isnt_list meta_name refl) ∙ h.meta.1, subst (λ (f : IndexForm). Means f.settings f.schema h.meta.0 s.catalog.commit) (sym made) h.meta.2);
  listing = listing;
  listed = listed;
}

-- a name that reads is that of a file, and one that doesn't is no file's
is_there : (file : Option FileState) (read written : Option (List ℕ)) → FileHolds file read written → IsSome read → is_some file ≡ true
is_there None read written h some = absurd (true≢false (sym some ∙ ap is_some h.0))
is_there (Some file) read written h some = refl

isnt_there : (file : Option FileState) (read written : Option (List ℕ)) → FileHolds file read written → read ≡ None → is_some file ≡ false
isnt_there None read written h none = refl
isnt_there (Some (SealedFile bytes)) read written h none = absurd cc
isnt_there (Some (Open body)) read written h none = let some : is_some read ≡ true = h.0 in absurd (true≢false (sym some ∙ ap is_some none))
isnt_there (Some Left) read written h none = let some : is_some read ≡ true = h.0 in absurd (true≢false (sym some ∙ ap is_some none))

absent_isnt_left : (file : Option FileState) → is_some file ≡ false → is_left file ≡ false
absent_isnt_left None e = refl
absent_isnt_left (Some file) e = absurd (true≢false e)

-- a file that was written to isn't left
open_isnt_left : (file : Option FileState) (read written : Option (List ℕ)) (body : List ℕ) → FileHolds file read written → written ≡ Some body → is_left file ≡ false
open_isnt_left None read written body h e = refl
open_isnt_left (Some (SealedFile bytes)) read written body h e = refl
open_isnt_left (Some (Open text)) read written body h e = refl
open_isnt_left (Some Left) read written body h e = let k : None ≡ Some body = sym h.1 ∙ e in absurd cc

-- what there is has a value
pub some_body : (o : Option (List ℕ)) → IsSome o → (body : List ℕ) × (o ≡ Some body)
some_body None there = absurd (true≢false (sym there))
some_body (Some body) there = (body, refl)

-- a file of a segment, by its name
module _ {O W C : Type 0} (g : Ghosts O W C) (old new : FilesState O) (s : State) (name : List ℕ) (fits : IsFileOf name) (watched : (g.view new.outside).watched ≡ (g.view old.outside).watched) (deletes : List Bool) (h : FilesHold g old s) where
  -- that is there, since no collection holds a file of a live segment
  pub name_taken : g.told.content → IsWhole s → has (living s.catalog) name ≡ true → new.form ≡ old.form → new.collections ≡ old.collections → FindsFile g old new name
      → Performed g (actions.Make name) old new (s, deletes) replies.Taken
  name_taken tells whole needed made still finds =
      let reads : IsSome ((g.view old.outside).reads name) =
      ⊎_elim (λ some. some) (λ holds. absurd (true≢false (sym needed ∙ whole.collecting.spared name (ap (λ (c : Collections). has (held c) name) (sym h.collections) ∙ holds)))) (finds.there tells) in
      let there : is_some (file_at s name) ≡ true = is_there (file_at s name) ((g.view old.outside).reads name) (at old.open_files name) (h.files name fits) reads in
      let kept : kept_of s.catalog new ≡ kept_of s.catalog old = rw (made, still, finds.names tells, finds.open_files, finds.left) refl in
      record {
        reply_is = rw there refl;
        held = same_holds (g.view old.outside).reads (g.view new.outside).reads (kept_of s.catalog old) (kept_of s.catalog new) s (finds.same tells) kept h;
        same = λ some stays. record { reads = finds.same tells; watched = watched };
        saves = λ commit e. absurd cc;
      }

  -- that was made
  pub file_made : g.told.content → new.form ≡ old.form → new.collections ≡ old.collections → OpensFile g old new name → Performed g (actions.Make name) old new (s, deletes) replies.Done
  file_made tells made still opens =
      let makes = opens.makes tells in
      let gone : is_some (file_at s name) ≡ false = isnt_there (file_at s name) ((g.view old.outside).reads name) (at old.open_files name) (h.files name fits) makes.absent in
      let names : new.managed ≡ insert_key byte_cmp s.managed name = opens.names ∙ ap (λ (m : List (List ℕ)). insert_key byte_cmp m name) h.managed in
      let looks : (n : List ℕ) → at new.open_files n ≡ cond (is_at (byte_cmp name) n) (Some []) (at old.open_files n) =
      λ n. ap (λ (es : List (List ℕ × List ℕ)). at es n) opens.open_files ∙ lookup_put old.open_files name n [] in
      record {
        reply_is = rw gone refl;
        held = changed s.catalog (g.view old.outside).reads (g.view new.outside).reads old new s name (Open []) (insert_key byte_cmp s.managed name) fits makes.others names
            (subst (Listing (g.view new.outside).reads) names (opens.list tells (subst (Listing (g.view old.outside).reads) (sym h.managed) h.listing)))
            (has_kept s.managed name meta_name h.listed)
            (ap is_some makes.empty, looks name ∙ ap (λ (b : Bool). cond b (Some []) (at old.open_files name)) (at_itself name))
            (λ n e. looks n ∙ ap (λ (b : Bool). cond b (Some []) (at old.open_files n)) e) opens.left made still (absent_isnt_left (file_at s name) gone) refl h;
        same = λ some stays. absurd (opened_anew s name gone stays);
        saves = λ commit e. absurd cc;
      }

  -- that is open with this body
  module _ (body : List ℕ) (is_open : at old.open_files name ≡ Some body) where
    body_is : written_to (file_at s name) ≡ Some body
    body_is = written_is (file_at s name) ((g.view old.outside).reads name) (at old.open_files name) (h.files name fits) ∙ is_open

    by_body : (P : State → Type 0) (told : List ℕ → StepResult State) → P (told body).1 → P (of_body s (written_to (file_at s name)) told)
    by_body P told here = subst (λ (o : Option (List ℕ)). P (of_body s o told)) (sym body_is) here

    isnt_left : is_left (file_at s name) ≡ false
    isnt_left = open_isnt_left (file_at s name) ((g.view old.outside).reads name) (at old.open_files name) body (h.files name fits) is_open

    -- to which bytes were added
    pub bytes_added : (bytes : Bor (List ℕ)) → KeepsOthers (g.view old.outside).reads (g.view new.outside).reads name → IsSome ((g.view new.outside).reads name) → KeepsManaged (KeptView g.told) g.view old new
        → new.open_files ≡ set_value (is_at (byte_cmp name)) old.open_files (body ++ bytes.now)
        → Performed g (actions.Append name bytes) old new (s, deletes) replies.Done
    bytes_added bytes others there frame puts =
        let text = bytes.now in
        let looks : (n : List ℕ) → at new.open_files n ≡ cond (is_at (byte_cmp name) n) (Some (body ++ text)) (at old.open_files n) =
        λ n. ap (λ (es : List (List ℕ × List ℕ)). at es n) puts ∙
        lookup-set_value (eq_by_cmp_equiv nat_list_cmp_total) (is_at (byte_cmp name)) (λ x y same. ap (λ (k : List ℕ). is_at (byte_cmp k) y) (text_at name x same)) n (body ++ text) old.open_files (ap is_some is_open) in
        record {
          reply_is = refl;
          held = by_body (FilesHold g new) (wrote s name text)
              (changed s.catalog (g.view old.outside).reads (g.view new.outside).reads old new s name (Open (body ++ text)) s.managed fits (λ n isnt _. others n isnt) (frame.names ∙ h.managed)
              (listing_beside (g.view old.outside).reads (g.view new.outside).reads name s.managed fits others h.listing) h.listed
              (there, looks name ∙ ap (λ (b : Bool). cond b (Some (body ++ text)) (at old.open_files name)) (at_itself name))
              (λ n e. looks n ∙ ap (λ (b : Bool). cond b (Some (body ++ text)) (at old.open_files n)) e) frame.left frame.form frame.collections isnt_left refl h);
          same = λ some stays. absurd (by_body (λ t. t ≢ s) (wrote s name text) (wrote_more s name text body body_is some) stays);
          saves = λ commit e. absurd cc;
        }

    -- that was sealed
    pub file_sealed : Sets (g.view old.outside).reads (g.view new.outside).reads name (Some (sealed body)) → KeepsManaged (KeptView g.told) g.view old new
        → new.open_files ≡ remove_entry (is_at (byte_cmp name)) old.open_files → at new.open_files name ≡ None
        → Performed g (actions.Seal name) old new (s, deletes) replies.Done
    file_sealed sets frame cut closed = record {
      reply_is = refl;
      held = by_body (FilesHold g new) (sealed_as s name)
          (changed s.catalog (g.view old.outside).reads (g.view new.outside).reads old new s name (SealedFile (sealed body)) s.managed fits (λ n isnt _. sets.others n isnt) (frame.names ∙ h.managed)
          (listing_beside (g.view old.outside).reads (g.view new.outside).reads name s.managed fits sets.others h.listing) h.listed
          (sets.changed, closed) (λ n e. ap (λ (es : List (List ℕ × List ℕ)). at es n) cut ∙ at_removed old.open_files name n e) frame.left frame.form frame.collections isnt_left refl h);
      same = λ some stays. absurd (by_body (λ t. t ≢ s) (sealed_as s name) (sealed_now s name body body_is) stays);
      saves = λ commit e. absurd cc;
    }

-- ---- how many bytes are open

longer : (bound n : ℕ) (es : List (List ℕ × List ℕ)) → Short bound es → Short (bound + n) es
longer bound n [] h = tt
longer bound n (e ∷ es) h = (omega (arith, h.0), longer bound n es h.1)

-- so are files that stay
pub short_same : (bound n : ℕ) (es new : List (List ℕ × List ℕ)) → new ≡ es → Short bound es → Short (bound + n) new
short_same bound n es new same h = subst (Short (bound + n)) (sym same) (longer bound n es h)

-- those after one was opened
pub short_opened : (bound : ℕ) (es new : List (List ℕ × List ℕ)) (name : List ℕ) → new ≡ insert_entry byte_cmp es name [] → Short bound es → Short bound new
short_opened bound es new name opens h = subst (Short bound) (sym opens) (all_put (λ e. length e.1 ≤ bound) es name [] (omega arith) h)

-- those after one was closed
pub short_closed : (bound : ℕ) (es new : List (List ℕ × List ℕ)) (name : List ℕ) → new ≡ remove_entry (is_at (byte_cmp name)) es → Short bound es → Short bound new
short_closed bound es new name cut h = subst (Short bound) (sym cut) (all_left (λ e. length e.1 ≤ bound) es (is_at (byte_cmp name)) h)

-- and those of one to which bytes were written, with these bytes
pub short_written : (bound len : ℕ) (bytes : List ℕ) (es new : List (List ℕ × List ℕ)) (name : List ℕ) → Some len ≡ option_map length (at es name)
    → ((body : List ℕ) → at es name ≡ Some body → new ≡ set_value (is_at (byte_cmp name)) es (body ++ bytes)) → Short bound es → Short (bound + length bytes) new
short_written bound len bytes es new name has_len puts h =
    let it = has_body (at es name) len has_len in
    let body : List ℕ = it.0 in
    let short : length body ≤ bound = all_found (λ e. length e.1 ≤ bound) es name body h it.1 in
    let fits : length (body ++ bytes) ≤ bound + length bytes = omega (arith, length-append body bytes) in
    subst (Short (bound + length bytes)) (sym (puts body it.1))
    (all_set (λ e. length e.1 ≤ bound + length bytes) es name (body ++ bytes) fits (short_same bound (length bytes) es es refl h))
