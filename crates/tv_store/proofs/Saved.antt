-- What a save does: the files that a commit requires are asked for, and its text is saved.
use Rattle.std.proofs.Common.{ℕ, ◌≡◌, ◌≢◌, ◌+◌, ◌⊎◌, inl, inr, Bool, true, false, true≢false, cond, not, ◌||◌, List, [], ◌∷◌, Option, Some, None, is_some, Ok, Err, Vec, Global, refl, sym, ap, subst, ◌∙◌, arith}
use Rattle.std.specs.Prelude.{IsSome}
use Rattle.std.specs.BTreeSet.{insert_key}
use Rattle.tv_base.specs.declared.error.TantivyError.{TantivyError}
use Rattle.tv_base.specs.declared.error.TantivyError.TheVariants as errors
use Rattle.tv_base.specs.declared.open_errors.OpenWriteError.TheVariants as write
use Rattle.tv_device.specs.View.{OnlyReads}
use Rattle.tv_device.specs.Watch.{noted}
use Rattle.tv_device.specs.declared.directory.Directory.{Ghosts}
use Rattle.tv_formats.proofs.Entries.{insert_present, is_itself}
use Rattle.tv_formats.proofs.ListTexts.{listing_sorted}
use Rattle.tv_formats.proofs.ReadPrinted.{printed_means}
use Rattle.tv_formats.specs.Collections.{Collections}
use Rattle.tv_formats.specs.Commits.{Commit, IndexForm}
use Rattle.tv_formats.specs.Files.{Rose}
use Rattle.tv_formats.specs.Listing.{Listing}
use Rattle.tv_formats.specs.Meaning.{Means}
use Rattle.tv_formats.specs.Names.{at, byte_cmp, has, is, meta_name}
use Rattle.tv_index.specs.Saving.{FrameNotes, SavesMeta}
use Rattle.tv_index.specs.SavingLaws.{notes_later}
use Rattle.tv_machine.specs.CommitEvents.{is_sealed}
use Rattle.tv_machine.specs.Index.{IsFileOf}
use Rattle.tv_machine.specs.State.{Catalog, FileState, Left, Open, SealedFile, State, file_at}
use Rattle.tv_managed.specs.Managed.{KeepsOtherFiles}
use Rattle.tv_managed.specs.Names.{ManagedNames}
use Rattle.tv_store.proofs.Asking.{kept_by_files}
use Rattle.tv_store.proofs.FilesHeld.{short_same}
use Rattle.tv_store.proofs.Holding.{dotted_others, same_holds}
use Rattle.tv_store.proofs.Listings.{undotted_isnt_list}
use Rattle.tv_store.proofs.KeptLocks.{keeps_same}
use Rattle.tv_store.proofs.Performing.{asks_only, no_lock}
use Rattle.tv_catalog.specs.Actions.{after, first_open, unless_open, with_commit}
use Rattle.tv_store.specs.Applying.{LeavesCommit, SavesPrinted}
use Rattle.tv_store.specs.FileCalls.{Asked, KeepsOpenFiles}
use Rattle.tv_store.specs.Kept.{FileHolds, FilesState, is_left, kept_of, names_below}
use Rattle.tv_store.specs.Performing.{FilesHold, KeepsBy, Performs, Short}
use Rattle.tv_catalog.specs.Plans.{SavesNext}
use Rattle.tv_store.specs.Stays.{KeepsDotted, KeepsFiles}
use Rattle.tv_store.specs.StoreCauses.{EventCause}
use Rattle.tv_catalog.specs.declared.action.Action.TheVariants as actions
use Rattle.tv_catalog.specs.declared.action.Reply.TheVariants as replies

-- ---- which files are sealed

-- a file that reads, isn't open and wasn't left is there
is_there : (bytes : List ℕ) (read written : Option (List ℕ)) (left : Bool) → read ≡ Some bytes → written ≡ None → left ≡ false → (read ≡ None) ⊎ IsSome written ⊎ (left ≡ true) → ⊥
is_there bytes read written left reads none stays (inl gone) = true≢false (sym (ap is_some reads) ∙ ap is_some gone)
is_there bytes read written left reads none stays (inr (inl some)) = let opened : is_some written ≡ true = some in true≢false (sym opened ∙ ap is_some none)
is_there bytes read written left reads none stays (inr (inr gone)) = true≢false (sym gone ∙ stays)

-- what is answered of a file is whether it is sealed
sealed_is : (file : Option FileState) (read written : Option (List ℕ)) (left found : Bool) → FileHolds file read written → left ≡ is_left file → Asked read written left found → found ≡ is_sealed file
sealed_is None read written left true h stays asked = let some : is_some read ≡ true = (asked.yes refl).0 in absurd (true≢false (sym some ∙ ap is_some h.0))
sealed_is None read written left false h stays asked = refl
sealed_is (Some (SealedFile bytes)) read written left true h stays asked = refl
sealed_is (Some (SealedFile bytes)) read written left false h stays asked = absurd (is_there bytes read written left h.0 h.1 stays (asked.no refl))
sealed_is (Some (Open body)) read written left true h stays asked = absurd (true≢false (sym (ap is_some h.1) ∙ ap is_some (asked.yes refl).1))
sealed_is (Some (Open body)) read written left false h stays asked = refl
sealed_is (Some Left) read written left true h stays asked = absurd (true≢false (sym stays ∙ (asked.yes refl).2))
sealed_is (Some Left) read written left false h stays asked = refl

-- the first of some names that isn't sealed, where the first of them is, or isn't
pub sealed_first : (s : State) (name : List ℕ) (names rest : List (List ℕ)) → names ≡ name ∷ rest → is_sealed (file_at s name) ≡ true → first_open s rest ≡ first_open s names
sealed_first s name names rest first sealed = sym (ap (first_open s) first ∙ ap (λ (b : Bool). cond (not b) (Some name) (first_open s rest)) sealed)

pub open_first : (s : State) (name : List ℕ) (names rest : List (List ℕ)) → names ≡ name ∷ rest → is_sealed (file_at s name) ≡ false → Some name ≡ first_open s names
open_first s name names rest first sealed = sym (ap (first_open s) first ∙ ap (λ (b : Bool). cond (not b) (Some name) (first_open s rest)) sealed)

-- a name is among some that begin with it, and so is one that is among the others
either : (b c : Bool) → c ≡ true → (b || c) ≡ true
either true c e = refl
either false c e = e

pub has_behind : (name n : List ℕ) (names rest : List (List ℕ)) → names ≡ name ∷ rest → has rest n ≡ true → has names n ≡ true
has_behind name n names rest first there = ap (λ (ns : List (List ℕ)). has ns n) first ∙ either (is name n) (has rest n) there

pub has_first : (name : List ℕ) (names rest : List (List ℕ)) → names ≡ name ∷ rest → has names name ≡ true
has_first name names rest first = ap (λ (ns : List (List ℕ)). has ns name) first ∙ ap (λ (b : Bool). b || has rest name) (is_itself name)

module _ {O W C : Type 0} (g : Ghosts O W C) (old mid : FilesState O) (asks : KeepsFiles (OnlyReads g.told) g.view old mid) (s : State) (tells : g.told.content) (h : FilesHold g old s) where
  -- what is held is held still where it was only asked
  pub still_held : FilesHold g mid s
  still_held = same_holds (g.view old.outside).reads (g.view mid.outside).reads (kept_of s.catalog old) (kept_of s.catalog mid) s (asks.managed.below.content tells) (kept_by_files s.catalog asks) h

  pub sealed_so : (name : List ℕ) (found : Bool) → IsFileOf name → Asked ((g.view mid.outside).reads name) (at mid.open_files name) (has mid.left name) found → found ≡ is_sealed (file_at s name)
  sealed_so name found file asked = sealed_is (file_at s name) ((g.view mid.outside).reads name) (at mid.open_files name) (has mid.left name) found (still_held.files name file) (still_held.left name file) asked

-- ---- where nothing is saved

module _ {O W C : Type 0} (g : Ghosts O W C) (commit : Commit) (text : Vec ℕ Global) (required : Vec (List ℕ) Global) (old new : FilesState O) (asks : KeepsFiles (OnlyReads g.told) g.view old new) where
  -- one of them isn't sealed
  pub unsealed : (name : List ℕ) → has required.items name ≡ true → (g.told.content → (s : State) → FilesHold g old s → Some name ≡ first_open s required.items)
      → (g.view new.outside).faults ≡ (g.view old.outside).faults → Performs g (actions.Save commit text required) old new (Ok (replies.Unsealed name))
  unsealed name among found quiet =
      asks_only g (actions.Save commit text required) old new (Ok (replies.Unsealed name)) (inr (name, among, refl)) (λ tells s h whole suits. (ap (unless_open commit) (found tells s h), refl, λ saved e. absurd cc))
      (record { quiet = quiet; free = λ locks takes. absurd takes; fits = λ never. never; cause = tt }) asks (inl refl) refl

  -- one can't be asked for
  pub unasked : (error : TantivyError) → EventCause (Rose (g.view old.outside).faults (g.view new.outside).faults) ((g.view new.outside).faults ≡ (g.view old.outside).faults) ⊥ error
      → Performs g (actions.Save commit text required) old new (Err error)
  unasked error cause =
      asks_only g (actions.Save commit text required) old new (Err error) tt (λ tells s h whole suits. tt) (record { quiet = tt; free = λ locks takes. tt; fits = tt; cause = no_lock _ _ _ _ error cause }) asks (inl refl) refl

-- ---- what a save leaves

-- after an error stands what was read, or a text that means the commit
left_so : (error : TantivyError) (refused quiet : Type 0) (before now : Option (List ℕ)) (text : List ℕ) (form : IndexForm) (commit : Commit)
    → EventCause refused quiet ⊥ error → (error ≡ errors.Memory → now ≡ before) → (now ≡ Some text) ⊎ (now ≡ before)
    → Means form.settings form.schema text commit → LeavesCommit refused before now form commit
left_so errors.Memory refused quiet before now text form commit cause memory either means = inl (memory refl)
left_so error refused quiet before now text form commit cause memory (inr same) means = inl same
left_so (errors.IoError fault) refused quiet before now text form commit cause memory (inl is) means = inr (cause.1, (text, is, means))
left_so (errors.OpenWriteError (write.IoError fault path)) refused quiet before now text form commit cause memory (inl is) means =
    inr (cause.1, (text, is, means))
left_so (errors.OpenWriteError other) refused quiet before now text form commit cause memory (inl is) means = absurd cause
left_so errors.Exhausted refused quiet before now text form commit cause memory (inl is) means = absurd cause.1
left_so other refused quiet before now text form commit cause memory (inl is) means = absurd cause

goes_up : (n : ℕ) → n + 1 ≢ n
goes_up n same = omega (arith, same)

-- all files that the commit requires are sealed
module _ {O W C : Type 0} (g : Ghosts O W C) (commit : Commit) (text : Vec ℕ Global) (required : Vec (List ℕ) Global) (old mid new : FilesState O) (catalog : Catalog)
    (given : SavesNext (kept_of catalog old) commit text.items required.items) (asks : KeepsFiles (OnlyReads g.told) g.view old mid) (still : (g.view mid.outside).faults ≡ (g.view old.outside).faults)
    (sealed : g.told.content → (s : State) → FilesHold g old s → None ≡ first_open s required.items) (bytes : List ℕ) (bytes_are : bytes ≡ text.items)
    (others : g.told.content → KeepsOtherFiles (g.view mid.outside).reads (g.view new.outside).reads meta_name) (frame : KeepsOpenFiles g.told g.view mid new) where
  form : new.form ≡ old.form
  form = frame.form ∙ asks.managed.form

  notes : FrameNotes g.told (g.view old.outside) (g.view new.outside)
  notes = notes_later asks.managed.below frame.below

  locked : new.locked ≡ old.locked
  locked = frame.locked ∙ asks.managed.locked

  kept : KeepsBy g.told (actions.Save commit text required) old.locked new.locked (g.view old.outside) (g.view new.outside)
  kept = record {
    goes_on = notes.frame.tells_none.deletes_none.goes_on;
    deletes_none = λ none. notes.frame.tells_none.deletes_none;
    heard = notes.frame.tells_none.heard;
    room = notes.frame.tells_none.room;
    locks = λ tells. keeps_same old.locked new.locked _ _ (sym locked) (notes.frame.locks tells);
    watched = notes.watched;
  }

  dotted : g.told.content → KeepsDotted (g.view old.outside).reads (g.view new.outside).reads
  dotted tells n dot other =
      dotted_others (g.view mid.outside).reads (g.view new.outside).reads meta_name refl (others tells) n dot other ∙ asks.managed.below.content tells n

  lens : (bound : ℕ) → Short bound old.open_files → Short (bound + 0) new.open_files
  lens bound short = short_same bound 0 old.open_files new.open_files (frame.open_files ∙ asks.open_files) short

  -- its text means it
  means : (s : State) → FilesHold g old s → Means old.form.settings old.form.schema bytes commit
  means s h =
      subst (λ (t : List ℕ). Means old.form.settings old.form.schema t commit) (sym (bytes_are ∙ given.prints.text_is))
      (printed_means old.form.settings old.form.schema h.meta.2.tree commit given.prints.sound given.prints.blocksize h.meta.2.schema_is)

  -- the commit that an error may leave is the one that is saved
  becomes : g.told.content → (s : State) → FilesHold g old s → commit ≡ (after s (actions.Save commit text required) (unless_open commit (first_open s required.items))).catalog.commit
  becomes tells s h = ap (λ (o : Option (List ℕ)). (after s (actions.Save commit text required) (unless_open commit o)).catalog.commit) (sealed tells s h)

  -- the save failed
  pub unsaved : (error : TantivyError)
      → (g.told.content → ((g.view new.outside).reads meta_name ≡ Some bytes) ⊎ ((g.view new.outside).reads meta_name ≡ (g.view mid.outside).reads meta_name))
      → (g.told.content → error ≡ errors.Memory → (g.view new.outside).reads meta_name ≡ (g.view mid.outside).reads meta_name)
      → EventCause (Rose (g.view mid.outside).faults (g.view new.outside).faults) ((g.view new.outside).faults ≡ (g.view mid.outside).faults) ⊥ error
      → Performs g (actions.Save commit text required) old new (Err error)
  unsaved error leaves memory why =
      let before = (g.view old.outside).reads meta_name in
      let now = (g.view new.outside).reads meta_name in
      let refused = Rose (g.view old.outside).faults (g.view new.outside).faults in
      let quiet = (g.view new.outside).faults ≡ (g.view old.outside).faults in
      let cause : EventCause refused quiet ⊥ error =
      subst (λ (n : ℕ). EventCause (Rose n (g.view new.outside).faults) ((g.view new.outside).faults ≡ n) ⊥ error) still why in
      let either_is : g.told.content → (now ≡ Some bytes) ⊎ (now ≡ before) =
      λ tells. subst (λ (r : Option (List ℕ)). (now ≡ Some bytes) ⊎ (now ≡ r)) (asks.managed.below.content tells meta_name) (leaves tells) in
      let memory_is : g.told.content → error ≡ errors.Memory → now ≡ before = λ tells is. memory tells is ∙ asks.managed.below.content tells meta_name in
      record {
        gives = tt;
        performed = tt;
        alone = λ only. absurd only;
        meta = record {
          unsaved = λ none. absurd none;
          failed = λ tells s h whole suits deletes.
              subst (λ (c : Commit). LeavesCommit refused before now old.form c) (becomes tells s h)
              (left_so error refused quiet before now bytes old.form commit cause (memory_is tells) (either_is tells) (means s h));
          memory = memory_is;
          spared = λ tells. tt;
        };
        dotted = dotted;
        lens = lens;
        numbers = tt;
        faults = record { quiet = tt; free = λ locks takes. tt; fits = tt; cause = no_lock _ refused quiet _ error cause };
        form = form;
        frame = kept;
        keeps = tt;
        stays = locked;
      }

  module _ (done : SavesMeta g (names_below mid) (names_below new) bytes) where
    -- the state after it is held
    held_so : g.told.content → (s : State) → FilesHold g old s → FilesHold g new (record s { catalog = with_commit s.catalog commit })
    held_so tells s h =
        let now : FilesHold g mid s = still_held g old mid asks s tells h in
        let names : new.managed ≡ s.managed =
        ap (λ (n : ManagedNames). n.managed) done.names ∙ ap (λ (ns : List (List ℕ)). insert_key byte_cmp ns meta_name) now.managed
        ∙ insert_present s.managed meta_name now.listed (listing_sorted (g.view mid.outside).reads s.managed now.listing) in
        record {
          catalog = refl;
          managed = names;
          collections = frame.collections ∙ now.collections;
          segments = h.segments;
          names = h.names;
          files = λ n file.
              subst (λ (read : Option (List ℕ)). FileHolds (file_at s n) read (at new.open_files n)) (sym (others tells n file.1 (undotted_isnt_list n file.0)))
              (subst (λ (es : List (List ℕ × List ℕ)). FileHolds (file_at s n) ((g.view mid.outside).reads n) (at es n)) (sym frame.open_files) (now.files n file));
          left = λ n file. ap (λ (ns : List (List ℕ)). has ns n) frame.left ∙ now.left n file;
          meta = (bytes, done.saved tells, subst (λ (f : IndexForm). Means f.settings f.schema bytes commit) (sym form) (means s h));
          listing = subst (Listing (g.view new.outside).reads) names (done.list tells (subst (Listing (g.view mid.outside).reads) (sym now.managed) now.listing));
          listed = h.listed;
        }

    -- it is printed, and a notice of it stands
    printed_so : g.told.content → SavesPrinted old.form (g.view old.outside) (g.view new.outside) commit
    printed_so tells = record {
      text = done.saved tells ∙ ap (λ (t : List ℕ). Some t) (bytes_are ∙ given.prints.text_is);
      notice = done.notes ∙ ap (noted meta_name) asks.managed.below.kept.watched;
    }

    -- the commit was saved
    pub saved : (g.view new.outside).faults ≡ (g.view mid.outside).faults → Performs g (actions.Save commit text required) old new (Ok (replies.Saved commit))
    saved quiet = record {
      gives = inl refl;
      performed = (
        [],
        inl (omega (arith, notes.frame.tells_none.deletes_none.refusals)),
        λ tells s h whole suits. record {
          reply_is = ap (unless_open commit) (sealed tells s h);
          held = held_so tells s h;
          same = λ some stays. absurd (goes_up s.catalog.next (ap (λ (x : State). x.catalog.next) stays));
          saves = λ other e. let one : commit ≡ other = cc in subst (SavesPrinted old.form (g.view old.outside) (g.view new.outside)) one (printed_so tells);
        },
      );
      alone = λ only. absurd only;
      meta = record { unsaved = λ none. absurd none; failed = λ tells s h whole suits deletes. tt; memory = λ tells. tt; spared = λ tells none. absurd none };
      dotted = dotted;
      lens = lens;
      numbers = omega (arith, ap (λ (k : Collections). k.next) (frame.collections ∙ asks.managed.collections));
      faults = record { quiet = quiet ∙ still; free = λ locks takes. absurd takes; fits = λ spent. spent; cause = tt };
      form = form;
      frame = kept;
      keeps = locked;
      stays = tt;
    }
