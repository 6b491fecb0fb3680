-- Files that a crash can't hurt, while a commit is saved.
use Rattle.std.proofs.Common.{◌≡◌, ◌||◌, [], ◌∷◌, ℕ, Bool, true, false, cond, not, List, Option, None, Some, Result, Ok, Err, refl, sym, ap, subst, ◌∙◌, inl, inr, ⊎_elim}
use Rattle.std.proofs.lemmas.Result.{IfErr-weaker, IfOk-weaker}
use Rattle.std.specs.Prelude.{IsErr, IfErr}
use Rattle.tv_base.specs.declared.error.TantivyError.{TantivyError}
use Rattle.tv_crashes.specs.Stored.{HasOneState, IsSafe, Requires, StateMeans, sealed_bytes, stored_of}
use Rattle.tv_crashes.proofs.StoredImages.{fewer_safe, safe_or}
use Rattle.tv_device.specs.Images.{StandsNow}
use Rattle.tv_device.specs.declared.directory.Directory.{Ghosts}
use Rattle.tv_formats.proofs.Entries.{is_text}
use Rattle.tv_formats.proofs.DiskLaws.{goes_on_run, weaker}
use Rattle.tv_formats.proofs.Required.{required_by_one}
use Rattle.tv_formats.proofs.ReadPrinted.{printed_means}
use Rattle.tv_formats.proofs.Results.{no_answer}
use Rattle.tv_formats.specs.Commits.{Commit, IndexForm}
use Rattle.tv_formats.specs.Disk.{DiskState, Possible, Sealed, Throughout, possible_now}
use Rattle.tv_formats.specs.Listed.{ListsEachFile}
use Rattle.tv_formats.specs.Meaning.{Means}
use Rattle.tv_formats.specs.Names.{has, is, meta_name}
use Rattle.tv_formats.specs.Segments.{all_required}
use Rattle.tv_index.specs.Crashes.{IsOldOrListed, IsOldOrSaved, as_it_stands}
use Rattle.tv_machine.specs.CommitEvents.{is_sealed}
use Rattle.tv_machine.specs.Index.{IsFileOf}
use Rattle.tv_machine.specs.State.{FileState, Left, Open, SealedFile, State, file_at}
use Rattle.tv_managed.specs.Crashes.{Gains, IsGiven, IsNewList}
use Rattle.tv_catalog.specs.Actions.{after, first_open, reply_in}
use Rattle.tv_catalog.specs.Committing.{PrintsNext}
use Rattle.tv_store.specs.Durable.{IsDurable, LeavesStored}
use Rattle.tv_store.specs.FileCalls.{SavesSafely}
use Rattle.tv_store.specs.Kept.{FilesState, kept_of, names_below}
use Rattle.tv_store.specs.Performing.{FilesHold}
use Rattle.tv_catalog.specs.declared.action.Action.{Action}
use Rattle.tv_catalog.specs.declared.action.Action.TheVariants as actions
use Rattle.tv_catalog.specs.declared.action.Reply.{Reply}
use Rattle.tv_catalog.specs.declared.action.Reply.TheVariants as replies
use Rattle.tv_store.proofs.Durable.{is_file, one_state, safe_of}
use Rattle.tv_crashes.proofs.StoredSound.{sealed_file}
use Rattle.tv_store.proofs.Listings.{undotted_isnt_list}

-- a file that is sealed has bytes
sealed_with : (file : Option FileState) → is_sealed file ≡ true → (bytes : List ℕ) × (file ≡ Some (SealedFile bytes))
sealed_with None e = absurd cc
sealed_with (Some (SealedFile bytes)) e = (bytes, refl)
sealed_with (Some (Open body)) e = absurd cc
sealed_with (Some Left) e = absurd cc

none_open : (s : State) (names : List (List ℕ)) (n : List ℕ) → first_open s names ≡ None → has names n ≡ true → is_sealed (file_at s n) ≡ true
none_open s [] n e h = absurd cc
none_open s (x ∷ names) n e h =
    elim (is_sealed (file_at s x)) as (λ b. is_sealed (file_at s x) ≡ b → cond (not b) (Some x) (first_open s names) ≡ None → is_sealed (file_at s n) ≡ true) [
      | true ↦ λ t k.
          elim (is x n) as (λ b. is x n ≡ b → (b || has names n) ≡ true → is_sealed (file_at s n) ≡ true) [
            | true ↦ λ same r. subst (λ (m : List ℕ). is_sealed (file_at s m) ≡ true) (is_text x n same) t
            | false ↦ λ other r. none_open s names n k r
          ] refl h
      | false ↦ λ t k. absurd cc
    ] refl e

-- where none of the files isn't sealed that a commit requires, each is
pub all_sealed : (s : State) (required : List (List ℕ)) (commit : Commit) → required ≡ all_required commit.segments → None ≡ first_open s required → (n : List ℕ) → has (all_required commit.segments) n ≡ true → is_sealed (file_at s n) ≡ true
all_sealed s required commit are none n needs = none_open s required n (sym none) (ap (λ (names : List (List ℕ)). has names n) are ∙ needs)

-- the text that is saved means the commit
pub save_means : {O W C : Type 0} (g : Ghosts O W C) (old mid : FilesState O) (s : State) (commit : Commit) (text bytes : List ℕ) → FilesHold g old s → PrintsNext (kept_of s.catalog old) commit text → mid.form ≡ old.form → bytes ≡ text
    → Means mid.form.settings mid.form.schema bytes commit
save_means g old mid s commit text bytes h prints made same =
    subst (λ (f : IndexForm). Means f.settings f.schema bytes commit) (sym made)
    (subst (λ (t : List ℕ). Means old.form.settings old.form.schema t commit) (sym (same ∙ prints.text_is))
    (printed_means old.form.settings old.form.schema h.meta.2.tree commit prints.sound prints.blocksize h.meta.2.schema_is))

-- an action was performed behind one that only asked
pub later_stored : {O W C : Type 0} (g : Ghosts O W C) (action : Action) (old mid new : FilesState O) (s : State) (result : Result Reply TantivyError) → mid.form ≡ old.form
    → Throughout (IsSafe (stored_of old.form s) (stored_of old.form s)) (g.disk old.outside) (g.disk mid.outside) → LeavesStored g action mid new s result → LeavesStored g action old new s result
later_stored g action old mid new s result made first second = record {
  moments = λ deletes.
      goes_on_run _ (fewer_safe _ _) (weaker first (λ p safe. safe_or safe))
      (subst (λ (f : IndexForm). Throughout (IsSafe (stored_of f s) (stored_of f (after s action (reply_in s action deletes)))) (g.disk mid.outside) (g.disk new.outside)) made (second.moments deletes));
  durable = second.durable;
  spared = IfOk-weaker result _ _ (λ reply still none.
      goes_on_run _ (fewer_safe _ _) first (subst (λ (f : IndexForm). Throughout (IsSafe (stored_of f s) (stored_of f s)) (g.disk mid.outside) (g.disk new.outside)) made (still none))) second.spared;
  memory = IfErr-weaker result _ _ (λ error wanted is.
      goes_on_run _ (fewer_safe _ _) first (subst (λ (f : IndexForm). Throughout (IsSafe (stored_of f s) (stored_of f s)) (g.disk mid.outside) (g.disk new.outside)) made (wanted is))) second.memory;
}

module _ {O W C : Type 0} (g : Ghosts O W C) (files : FilesState O) (s : State) (stands : StandsNow (g.view files.outside) (g.disk files.outside)) (h : FilesHold g files s) (d : IsDurable g files s)
    (commit : Commit) (new : FilesState O) (text : List ℕ) (means : Means files.form.settings files.form.schema text commit)
    (sealed : (n : List ℕ) → has (all_required commit.segments) n ≡ true → is_sealed (file_at s n) ≡ true)
    (live : (n : List ℕ) → has (all_required commit.segments) n ≡ true → has (all_required s.catalog.live) n ≡ true) where
  -- the state with this commit
  abbrev Made : State
  Made = record s { catalog = record s.catalog { commit = commit } }

  old_means : StateMeans ((g.disk files.outside).now meta_name) (stored_of files.form s)
  old_means = ⊎_elim (λ of. of.0) (λ of. of.0) (d.stored.each ((g.disk files.outside).now meta_name) (stands.possible meta_name))

  -- a required file, of the commit before or of this one, stands sealed
  record Stands (n : List ℕ) : Type 0 where
    bytes : List ℕ
    there : file_at s n ≡ Some (SealedFile bytes)
    now : (g.disk files.outside).now n ≡ Sealed bytes

  made_stands : (n : List ℕ) → Requires (stored_of files.form Made) n → Stands n
  made_stands n needs =
      let required : has (all_required commit.segments) n ≡ true = ap (λ (names : List (List ℕ)). has names n) (sym (required_by_one commit)) ∙ needs in
      let it = sealed_with (file_at s n) (sealed n required) in
      record { bytes = it.0; there = it.1; now = d.sealed n it.0 (live n required) it.1 }

  -- each name stands as it stood, but `meta.json` and the list
  module _ {possible : Possible} {extra : List ℕ → DiskState → Type 0} (gains : Gains extra (as_it_stands (g.disk files.outside)) possible) (other : (n : List ℕ) (t : DiskState) → IsFileOf n → extra n t → ⊥) where
    still : (n bytes : List ℕ) → IsFileOf n → (g.disk files.outside).now n ≡ Sealed bytes → (t : DiskState) → possible n t → t ≡ Sealed bytes
    still n bytes file now t is = ⊎_elim (λ stood. stood ∙ now) (λ more. absurd (other n t file more)) (gains.each n t is)

    old_one : HasOneState possible (stored_of files.form s)
    old_one = record {
      each = λ n needs.
          let here = (one_state g files s stands h d).each n needs in
          (here.0, here.1, still n here.0 (is_file g files s stands h d n here.0 (sealed_file (file_at s n) here.0 here.1)) (here.2 ((g.disk files.outside).now n) (stands.possible n)));
    }

    made_one : HasOneState possible (stored_of files.form Made)
    made_one = record {
      each = λ n needs.
          let here = made_stands n needs in
          (here.bytes, ap sealed_bytes here.there, still n here.bytes (is_file g files s stands h d n here.bytes here.there) here.now);
    }

  isnt_given : (n : List ℕ) (t : DiskState) → IsFileOf n → IsGiven (names_below files).1 meta_name (Sealed text) n t → ⊥
  isnt_given n t file given = ⊎_elim (λ it. file.1 it.0) (λ list. undotted_isnt_list n file.0 list.0.0) given

  isnt_new : (n : List ℕ) (t : DiskState) → IsFileOf n → IsNewList (names_below files).1 meta_name n t → ⊥
  isnt_new n t file list = undotted_isnt_list n file.0 list.0.0

  within_safe : {possible : Possible} → ListsEachFile possible → ((n : List ℕ) (t : DiskState) → possible n t → possible_now (g.disk files.outside) n t) → IsSafe (stored_of files.form s) (stored_of files.form s) possible
  within_safe lists within = safe_of g files s stands h d lists (λ n needs t is. within n t is)

  -- at each moment of the save
  each_moment : (possible : Possible) → ListsEachFile possible → IsOldOrSaved (g.disk files.outside) (names_below files).1 meta_name text possible → IsSafe (stored_of files.form s) (stored_of files.form Made) possible
  each_moment possible lists (inl within) = safe_or (within_safe lists within.each)
  each_moment possible lists (inr gains) = record {
    listed = lists;
    stored = record {
      each = λ meta is. ⊎_elim
          (λ stood. inl (subst (λ t. StateMeans t (stored_of files.form s)) (sym stood) old_means, old_one gains isnt_given))
          (λ given. ⊎_elim
          (λ it. inr (subst (λ t. StateMeans t (stored_of files.form Made)) (sym it.1) means, made_one gains isnt_given))
          (λ list. absurd (undotted_isnt_list meta_name refl list.0.0)) given)
          (gains.each meta_name meta is);
    };
  }

  -- and where memory is wanted
  each_wanted : (possible : Possible) → ListsEachFile possible → IsOldOrListed (g.disk files.outside) (names_below files).1 meta_name possible → IsSafe (stored_of files.form s) (stored_of files.form s) possible
  each_wanted possible lists (inl within) = within_safe lists within.each
  each_wanted possible lists (inr gains) = record {
    listed = lists;
    stored = record {
      each = λ meta is. ⊎_elim
          (λ stood. inl (subst (λ t. StateMeans t (stored_of files.form s)) (sym stood) old_means, old_one gains isnt_new))
          (λ list. absurd (undotted_isnt_list meta_name refl list.0.0))
          (gains.each meta_name meta is);
    };
  }

  module _ {A : Type 0} (saving : Result A TantivyError) (safe : SavesSafely g files new text saving) where
    saving_run : Throughout (IsSafe (stored_of files.form s) (stored_of files.form Made)) (g.disk files.outside) (g.disk new.outside)
    saving_run =
        let lists = (safe.tracks d.tracked).moments in
        record { later = lists.later; past = lists.past; each = λ x from to. each_moment _ (lists.each x from to) (safe.states.moments.each x from to) }

    wanting_run : Throughout (IsOldOrListed (g.disk files.outside) (names_below files).1 meta_name) (g.disk files.outside) (g.disk new.outside)
        → Throughout (IsSafe (stored_of files.form s) (stored_of files.form s)) (g.disk files.outside) (g.disk new.outside)
    wanting_run states =
        let lists = (safe.tracks d.tracked).moments in
        record { later = lists.later; past = lists.past; each = λ x from to. each_wanted _ (lists.each x from to) (states.each x from to) }

  -- it wasn't saved
  pub unsaved_stored : {A : Type 0} (words : _) (required : _) (becomes : (deletes : List Bool) → reply_in s (actions.Save commit words required) deletes ≡ replies.Saved commit) (error : TantivyError) (result : Result Reply TantivyError) → IsErr result → IfErr result (λ e. e ≡ error) → SavesSafely {A = A} g files new text (Err error)
      → LeavesStored g (actions.Save commit words required) files new s result
  unsaved_stored {A} words required becomes error result failed same safe = record {
    moments = λ deletes.
        subst (λ (r : Reply). Throughout (IsSafe (stored_of files.form s) (stored_of files.form (after s (actions.Save commit words required) r))) (g.disk files.outside) (g.disk new.outside)) (sym (becomes deletes)) (saving_run {A = A} (Err error) safe);
    durable = no_answer result _ failed;
    spared = no_answer result _ failed;
    memory = IfErr-weaker result _ _ (λ e is wanted. wanting_run {A = A} (Err error) safe (safe.states.memory (sym is ∙ wanted))) same;
  }

  -- it was
  pub saved_stored : {A : Type 0} (words : _) (required : _) (becomes : (deletes : List Bool) → reply_in s (actions.Save commit words required) deletes ≡ replies.Saved commit) (answer : A) → new.form ≡ files.form → SavesSafely g files new text (Ok answer) → LeavesStored g (actions.Save commit words required) files new s (Ok (replies.Saved commit))
  saved_stored words required becomes answer made safe =
      let settled = safe.states.kept in
      let stays : (n : List ℕ) → IsFileOf n → (g.disk new.outside).now n ≡ (g.disk files.outside).now n = λ n file. safe.states.now.each n (λ moved. ⊎_elim file.1 (λ list. undotted_isnt_list n file.0 list.0) moved) in
      let tracks = safe.tracks d.tracked in
      record {
        moments = λ deletes.
            subst (λ (r : Reply). Throughout (IsSafe (stored_of files.form s) (stored_of files.form (after s (actions.Save commit words required) r))) (g.disk files.outside) (g.disk new.outside)) (sym (becomes deletes)) (saving_run (Ok answer) safe);
        durable = record {
          tracked = tracks.tracked;
          listed = safe.listed d.listed;
          stored = record {
            each = λ meta is.
                inl (
                  subst (λ t. StateMeans t (stored_of new.form Made)) (sym (settled.0.each meta_name meta is ∙ settled.1)) (subst (λ (f : IndexForm). Means f.settings f.schema text commit) (sym made) means),
                  record {
                    each = λ n needs.
                        let here = made_stands n needs in
                        (here.bytes, ap sealed_bytes here.there, λ t now. settled.0.each n t now ∙ stays n (is_file g files s stands h d n here.bytes here.there) ∙ here.now);
                  },
                );
          };
          sealed = λ n bytes needed there.
              stays n (is_file g files s stands h d n bytes there) ∙ d.sealed n bytes needed there;
        };
        spared = λ none. absurd none;
        memory = tt;
      }
