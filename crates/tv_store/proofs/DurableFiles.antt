-- Files that a crash can't hurt, after an action on one of them, and after files were left.
use Rattle.std.proofs.Common.{◌≡◌, ◌++◌, ℕ, Bool, true, false, true≢false, cond, List, [], Option, None, Some, Result, Ok, Err, refl, sym, ap, subst, ◌∙◌, ⊎_elim}
use Rattle.std.specs.Prelude.{IfOk, IsErr, option_map}
use Rattle.std.specs.BTreeMap.{is_at}
use Rattle.tv_base.specs.declared.error.TantivyError.{TantivyError}
use Rattle.tv_crashes.specs.Stored.{IsSafe, Requires, sealed_bytes, stored_of}
use Rattle.tv_device.specs.Images.{KeepsDisk, StandsNow}
use Rattle.tv_device.specs.declared.directory.Directory.{Ghosts}
use Rattle.tv_formats.proofs.DiskLaws.{at_end, fewer_listed, fewer_within, started, within_step}
use Rattle.tv_formats.proofs.Entries.{at_itself, lookup_put, text_at}
use Rattle.tv_formats.proofs.Results.{no_answer, on_ok}
use Rattle.tv_formats.specs.Collections.{Collections, no_collections}
use Rattle.tv_formats.specs.Disk.{Absent, MayAdd, Sealed, Throughout, Unsealed, Within, possible_now}
use Rattle.tv_formats.specs.Footer.{sealed}
use Rattle.tv_formats.specs.Listing.{IsListFile}
use Rattle.tv_formats.specs.Names.{byte_cmp, has}
use Rattle.tv_machine.proofs.CollectionStates.{at_left}
use Rattle.tv_machine.proofs.WholeStates.{at_all_left}
use Rattle.tv_machine.specs.CollectionEvents.{left, with_left}
use Rattle.tv_machine.specs.FileEvents.{opened, sealed_as, written_to, wrote}
use Rattle.tv_machine.specs.Index.{IsFileOf}
use Rattle.tv_machine.specs.ReopenEvents.{all_left}
use Rattle.tv_machine.specs.State.{FileState, Left, Open, SealedFile, State, file_at}
use Rattle.tv_managed.specs.Crashes.{Gains, IsFree, IsGiven, IsTracked, LeavesSafely, SettlesStates}
use Rattle.tv_managed.specs.Names.{ManagedNames}
use Rattle.tv_managed.specs.TrackLaws.{listed_read, track_read}
use Rattle.tv_catalog.specs.Actions.{after, of_body}
use Rattle.tv_store.specs.Durable.{IsDurable, LeavesStored}
use Rattle.tv_store.specs.FileStates.{OpensStates, SealsAs}
use Rattle.tv_store.specs.Kept.{FileHolds, FilesState, names_below}
use Rattle.tv_store.specs.Performing.{FilesHold}
use Rattle.tv_catalog.specs.declared.action.Action.{Action}
use Rattle.tv_catalog.specs.declared.action.Action.TheVariants as actions
use Rattle.tv_catalog.specs.declared.action.Reply.{Reply}
use Rattle.tv_catalog.specs.declared.action.Reply.TheVariants as replies
use Rattle.tv_store.proofs.Durable.{KeepsSealed, durable_so, is_there, isnt_list, keeps_all, leaves_stored, one_state, safe_run, safe_still, stores_on}
use Rattle.tv_store.proofs.Listings.{undotted_isnt_list}

-- ---- which files are sealed

-- a file that doesn't read isn't
pub unread_bytes : (file : Option FileState) (read written : Option (List ℕ)) → FileHolds file read written → read ≡ None → sealed_bytes file ≡ None
unread_bytes None read written h none = refl
unread_bytes (Some (SealedFile bytes)) read written h none = absurd (cc (h.0, none))
unread_bytes (Some (Open body)) read written h none = refl
unread_bytes (Some Left) read written h none = refl

-- nor one that is open
open_bytes : (file : Option FileState) (body : List ℕ) → written_to file ≡ Some body → sealed_bytes file ≡ None
open_bytes None body e = refl
open_bytes (Some (SealedFile bytes)) body e = absurd (cc e)
open_bytes (Some (Open own)) body e = refl
open_bytes (Some Left) body e = refl

put_bytes : (b : Bool) (file : FileState) (old : Option FileState) → sealed_bytes (Some file) ≡ None → (b ≡ true → sealed_bytes old ≡ None) → sealed_bytes (cond b (Some file) old) ≡ sealed_bytes old
put_bytes true file old none here = none ∙ sym (here refl)
put_bytes false file old none here = refl

-- one that isn't sealed is put in the place of one that isn't
put_keeps : (s : State) (name : List ℕ) (file : FileState) (n : List ℕ) → sealed_bytes (Some file) ≡ None → sealed_bytes (file_at s name) ≡ None
    → sealed_bytes (cond (is_at (byte_cmp name) n) (Some file) (file_at s n)) ≡ sealed_bytes (file_at s n)
put_keeps s name file n none was = put_bytes (is_at (byte_cmp name) n) file (file_at s n) none (λ here. subst (λ (m : List ℕ). sealed_bytes (file_at s m) ≡ None) (text_at name n here) was)

-- a file was made
opened_keeps : (s : State) (name : List ℕ) → sealed_bytes (file_at s name) ≡ None → KeepsSealed s (opened s name).1
opened_keeps s name was = record { catalog = refl; bytes = λ n needed. ap sealed_bytes (lookup_put s.files name n (Open [])) ∙ put_keeps s name (Open []) n refl was }

-- bytes were added to one
pub wrote_keeps : (s : State) (name bytes : List ℕ) (o : Option (List ℕ)) → written_to (file_at s name) ≡ o → KeepsSealed s (of_body s o (wrote s name bytes))
wrote_keeps s name bytes None is = keeps_all s
wrote_keeps s name bytes (Some body) is = record {
  catalog = refl;
  bytes = λ n needed. ap sealed_bytes (lookup_put s.files name n (Open (body ++ bytes))) ∙ put_keeps s name (Open (body ++ bytes)) n refl (open_bytes (file_at s name) body is);
}

beside : (b : Bool) (file : FileState) (old : Option FileState) → (b ≡ true → ⊥) → sealed_bytes (cond b (Some file) old) ≡ sealed_bytes old
beside true file old other = absurd (other refl)
beside false file old other = refl

-- what is sealed was sealed before, or was put
sealed_put : {P : Type 0} (b : Bool) (text bytes : List ℕ) (old : Option FileState) → (b ≡ true → text ≡ bytes → P) → (b ≡ false → old ≡ Some (SealedFile bytes) → P) → cond b (Some (SealedFile text)) old ≡ Some (SealedFile bytes) → P
sealed_put true text bytes old here there e = here refl (cc e)
sealed_put false text bytes old here there e = there refl e

left_bytes : (b : Bool) (file : Option FileState) → sealed_bytes (option_map (λ f. cond b (left f) f) file) ≡ sealed_bytes file
left_bytes b None = refl
left_bytes false (Some file) = refl
left_bytes true (Some (SealedFile bytes)) = refl
left_bytes true (Some (Open body)) = refl
left_bytes true (Some Left) = refl

-- files were left
left_keeps : (s : State) (names : List (List ℕ)) → KeepsSealed s (record s { files = with_left names s.files })
left_keeps s names = record { catalog = refl; bytes = λ n needed. ap sealed_bytes (at_left names s.files n) ∙ left_bytes (has names n) (file_at s n) }

all_left_keeps : (s : State) → KeepsSealed s (record s { files = all_left s.files; collections = no_collections })
all_left_keeps s = record { catalog = refl; bytes = λ n needed. ap sealed_bytes (at_all_left s.files n) ∙ left_bytes true (file_at s n) }

-- ---- actions

module _ {O W C : Type 0} (g : Ghosts O W C) (files : FilesState O) (s : State) (stands : StandsNow (g.view files.outside) (g.disk files.outside)) (h : FilesHold g files s) (d : IsDurable g files s) where
  -- what is living and sealed isn't the list
  living_isnt_list : (n : List ℕ) → IsFileOf n → IsListFile n → ⊥
  living_isnt_list n file = undotted_isnt_list n file.0

  -- an action that asks the device for nothing
  unasked : (action : Action) (collections : Collections) (open_files : List (List ℕ × List ℕ)) (others : List (List ℕ)) (result : Result Reply TantivyError)
      → IsTracked g (files.outside, record { managed = files.managed; collections = collections }) → IfOk result (λ reply. KeepsSealed s (after s action reply))
      → LeavesStored g action files (record files { collections = collections; open_files = open_files; left = others }) s result
  unasked action collections open_files others result tracked keeps =
      let disk = g.disk files.outside in
      let new : FilesState O = record files { collections = collections; open_files = open_files; left = others } in
      stores_on g files s stands h d action new result (Within (possible_now disk)) refl
      (record { tracked = tracked; moments = started _ fewer_listed disk d.tracked.forgets_none }) (on_ok result d.listed)
      (started _ (fewer_within (possible_now disk)) disk (record { each = λ n t is. is })) (λ p within n needs t is. within.each n t is) (λ n bytes needed file now. now) keeps

  -- open files are left
  pub left_stored : (names : _) (new : FilesState O) → new ≡ record files { open_files = new.open_files; left = new.left } → LeavesStored g (actions.Leave names) files new s (Ok replies.Done)
  left_stored names new others =
      subst (λ v. LeavesStored g (actions.Leave names) files v s (Ok replies.Done)) (sym others) (unasked (actions.Leave names) files.collections new.open_files new.left (Ok replies.Done) d.tracked (left_keeps s names.items))

  pub unleft_stored : (names : _) (new : FilesState O) (result : Result Reply TantivyError) → IsErr result → new ≡ record files { open_files = new.open_files; left = new.left } → LeavesStored g (actions.Leave names) files new s result
  unleft_stored names new result failed others =
      subst (λ v. LeavesStored g (actions.Leave names) files v s result) (sym others) (unasked (actions.Leave names) files.collections new.open_files new.left result d.tracked (no_answer result _ failed))

  -- a collection begins, or was to
  pub begun_stored : {A E : Type 0} (living_names : _) (new : FilesState O) (settling : Result A E) (result : Result Reply TantivyError) → new.form ≡ files.form
      → LeavesSafely g (SettlesStates (g.disk files.outside) (g.disk new.outside) settling) (names_below files) (names_below new)
      → IfOk result (λ reply. reply ≡ replies.Done) → LeavesStored g (actions.Begin living_names) files new s result
  begun_stored living_names new settling result made safe done =
      stores_on g files s stands h d (actions.Begin living_names) new result (Within (possible_now (g.disk files.outside))) made (safe.tracks d.tracked) (on_ok result (safe.listed d.listed))
      safe.states.moments (λ p within n needs t is. within.each n t is) (λ n bytes needed file now. safe.states.now n ∙ now) (begun result done) where
        begun : (r : Result Reply TantivyError) → IfOk r (λ reply. reply ≡ replies.Done) → IfOk r (λ reply. KeepsSealed s (after s (actions.Begin living_names) reply))
        begun (Ok reply) is = subst (λ (x : Reply). KeepsSealed s (after s (actions.Begin living_names) x)) (sym is) (record { catalog = refl; bytes = λ n needed. refl })
        begun (Err error) is = tt

  -- a file is made, or was to be
  pub made_stored : (name : List ℕ) (new : FilesState O) (result : Result Reply TantivyError) → IsFileOf name → new.form ≡ files.form
      → LeavesSafely g (OpensStates (g.disk files.outside) (g.disk new.outside) (names_below files).1 name) (names_below files) (names_below new)
      → IfOk result (λ reply. KeepsSealed s (after s (actions.Make name) reply)) → LeavesStored g (actions.Make name) files new s result
  made_stored name new result fits made safe keeps =
      let disk = g.disk files.outside in
      let names = (names_below files).1 in
      stores_on g files s stands h d (actions.Make name) new result (Gains (λ n t. IsFree disk names name × IsGiven names name Unsealed n t) (possible_now disk)) made (safe.tracks d.tracked) (on_ok result (safe.listed d.listed)) safe.states.moments
      (λ p gains n needs t is. ⊎_elim (λ was. was)
      (λ made. absurd (⊎_elim (λ it. is_there g files s stands h d n needs (subst (λ (m : List ℕ). disk.now m ≡ Absent) (sym it.0) made.0.0)) (λ list. isnt_list g files s stands h d n needs list.0.0) made.1)) (gains.each n t is))
      (λ n bytes needed file now. safe.states.now.each n (λ moved. ⊎_elim (λ is. let e : Absent ≡ Sealed bytes = sym (subst (λ (m : List ℕ). disk.now m ≡ Absent) (sym is) moved.0.0) ∙ now in absurd cc) (λ list. living_isnt_list n file list.0) moved.1) ∙ now)
      keeps

  -- what was made wasn't there
  pub made_keeps : (name : List ℕ) → IsFileOf name → (g.view files.outside).reads name ≡ None → KeepsSealed s (after s (actions.Make name) replies.Done)
  made_keeps name fits absent = opened_keeps s name (unread_bytes (file_at s name) ((g.view files.outside).reads name) _ (h.files name fits) absent)

  -- bytes are added to a file, or were to be
  pub added_stored : (name : List ℕ) (bytes : _) (new : FilesState O) (result : Result Reply TantivyError) → new.form ≡ files.form
      → LeavesSafely g (KeepsDisk (g.disk files.outside) (g.disk new.outside)) (names_below files) (names_below new)
      → IfOk result (λ reply. KeepsSealed s (after s (actions.Append name bytes) reply)) → LeavesStored g (actions.Append name bytes) files new s result
  added_stored name bytes new result made safe keeps =
      stores_on g files s stands h d (actions.Append name bytes) new result (Within (possible_now (g.disk files.outside))) made (safe.tracks d.tracked) (on_ok result (safe.listed d.listed))
      (within_step safe.states.time safe.states.states.possible.no_more) (λ p within n needs t is. within.each n t is) (λ n text needed file now. safe.states.states.now n ∙ now) keeps

  -- ---- the end of open files, and of collections

  -- no collection is unfinished any more
  forgotten : IsTracked g (files.outside, record { managed = files.managed; collections = no_collections })
  forgotten = record { forgets_none = d.tracked.forgets_none; covers = d.tracked.covers; listed = λ n managed free. d.listed n managed; gone = λ n undotted done. absurd (cc done) }

  pub reopened_stored : (new : FilesState O) → new.form ≡ files.form → (names_below new).1 ≡ record { managed = files.managed; collections = no_collections } → KeepsDisk (g.disk files.outside) (g.disk new.outside)
      → LeavesStored g actions.Reopen files new s (Ok replies.Done)
  reopened_stored new made names keeps =
      let begun : O × ManagedNames = (files.outside, record { managed = files.managed; collections = no_collections }) in
      let tracks = track_read g {old = begun} {new = names_below new} names keeps forgotten in
      stores_on g files s stands h d actions.Reopen new (Ok replies.Done) (Within (possible_now (g.disk files.outside))) made (record { tracked = tracks.tracked; moments = tracks.moments })
      (listed_read g begun (names_below new) names keeps d.listed) (within_step keeps.time keeps.states.possible.no_more) (λ p within n needs t is. within.each n t is)
      (λ n bytes needed file now. keeps.states.now n ∙ now) (all_left_keeps s)

  pub unopened_stored : (new : FilesState O) (result : Result Reply TantivyError) → IsErr result → new ≡ record files { collections = new.collections; open_files = new.open_files; left = new.left } → LeavesStored g actions.Reopen files new s result
  unopened_stored new result failed others = leaves_stored g files s stands h d actions.Reopen new result (safe_still g files s stands h d (ap (λ v. g.disk v.outside) others)) (no_answer result _ failed)

  -- ---- a file is sealed

  module _ (name body : List ℕ) (new : FilesState O) (fits : IsFileOf name) (is_open : written_to (file_at s name) ≡ Some body) where
    -- it isn't required
    isnt_required : (n : List ℕ) → Requires (stored_of files.form s) n → n ≡ name → ⊥
    isnt_required n needs same =
        let here = (one_state g files s stands h d).each n needs in
        let e : None ≡ Some here.0 = sym (open_bytes (file_at s name) body is_open) ∙ ap (λ (m : List ℕ). sealed_bytes (file_at s m)) (sym same) ∙ here.1 in
        absurd cc

    sealing_run : {A E : Type 0} (sealing : Result A E) → LeavesSafely g (SealsAs (g.disk files.outside) (g.disk new.outside) name body sealing) (names_below files) (names_below new)
        → Throughout (IsSafe (stored_of files.form s) (stored_of files.form s)) (g.disk files.outside) (g.disk new.outside)
    sealing_run sealing safe =
        safe_run g files s stands h d {states = λ p. MayAdd (possible_now (g.disk files.outside)) p name (Sealed (sealed body))} (safe.tracks d.tracked).moments safe.states.moments
        (λ p adds n needs t is. ⊎_elim (λ was. was) (λ it. absurd (⊎_elim (λ meta. fits.1 (sym it.0 ∙ meta)) (λ required. isnt_required n required it.0) needs)) (adds.each n t is))

    -- it wasn't
    pub unsealed_stored : {A E : Type 0} (sealing : Result A E) (result : Result Reply TantivyError) → IsErr result → LeavesSafely g (SealsAs (g.disk files.outside) (g.disk new.outside) name body sealing) (names_below files) (names_below new)
        → LeavesStored g (actions.Seal name) files new s result
    unsealed_stored sealing result failed safe = leaves_stored g files s stands h d (actions.Seal name) new result (sealing_run sealing safe) (no_answer result _ failed)

    -- it was
    pub sealed_stored : {A E : Type 0} (answer : A) → new.form ≡ files.form → LeavesSafely g (SealsAs {E = E} (g.disk files.outside) (g.disk new.outside) name body (Ok answer)) (names_below files) (names_below new)
        → LeavesStored g (actions.Seal name) files new s (Ok replies.Done)
    sealed_stored answer made safe =
        let run = sealing_run (Ok answer) safe in
        let file = SealedFile (sealed body) in
        let t = (sealed_as s name body).1 in
        leaves_stored g files s stands h d (actions.Seal name) new (Ok replies.Done) run
        (subst (λ (o : Option (List ℕ)). IsDurable g new (of_body s o (sealed_as s name))) (sym is_open)
        (durable_so g files s stands h d new t made refl (safe.tracks d.tracked).tracked (safe.listed d.listed) (at_end run)
        (λ n needs. ap sealed_bytes (lookup_put s.files name n file) ∙ beside (is_at (byte_cmp name) n) file (file_at s n) (λ here. isnt_required n needs (sym (text_at name n here))))
        (λ n bytes needed there.
        sealed_put (is_at (byte_cmp name) n) (sealed body) bytes (file_at s n)
        (λ here same. ap (g.disk new.outside).now (sym (text_at name n here)) ∙ safe.states.ok ∙ ap Sealed same)
        (λ missed was. safe.states.now.each n (λ same. true≢false (sym (at_itself name) ∙ ap (is_at (byte_cmp name)) (sym same) ∙ missed)) ∙ d.sealed n bytes needed was)
        (sym (lookup_put s.files name n file) ∙ there))))
