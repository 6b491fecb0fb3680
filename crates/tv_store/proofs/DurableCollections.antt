-- Files that a crash can't hurt, after the steps of a collection.
use Rattle.std.proofs.Common.{◌≡◌, ◌∷◌, [], ◌<◌, ℕ, Bool, true, false, true≢false, cond, not, length, List, Option, None, Some, Result, refl, sym, ap, ◌∙◌, inl, inr, ⊎_elim, arith}
use Rattle.std.specs.Prelude.{IfOk, OnOk}
use Rattle.std.specs.Option.{IsSomeAnd}
use Rattle.tv_base.specs.declared.error.TantivyError.{TantivyError}
use Rattle.tv_crashes.specs.Stored.{sealed_bytes}
use Rattle.tv_device.specs.Images.{StandsNow}
use Rattle.tv_device.specs.declared.directory.Directory.{Ghosts}
use Rattle.tv_formats.proofs.CollectedNames.{at_without, done_within}
use Rattle.tv_formats.proofs.Entries.{is_itself}
use Rattle.tv_formats.proofs.Results.{on_ok}
use Rattle.tv_formats.specs.Collections.{Collection, Collections, collection_at, done_of}
use Rattle.tv_formats.specs.Disk.{Absent, MayAdd, OnlyTouches, possible_now}
use Rattle.tv_formats.specs.Names.{has}
use Rattle.tv_machine.proofs.WholeStates.{tried_spared}
use Rattle.tv_machine.specs.CollectionEvents.{files_without, having_deleted, without_files}
use Rattle.tv_machine.specs.Living.{living}
use Rattle.tv_machine.specs.SoundStates.{IsWhole}
use Rattle.tv_machine.specs.State.{State, file_at}
use Rattle.tv_managed.specs.Collecting.{NextName, taken_by}
use Rattle.tv_managed.specs.Crashes.{AnyOrList, EndsSafely, StepsSafely}
use Rattle.tv_managed.specs.Names.{ManagedNames}
use Rattle.tv_catalog.specs.Actions.{after, after_end}
use Rattle.tv_catalog.specs.Kept.{HasUntried}
use Rattle.tv_store.specs.Durable.{IsDurable, LeavesStored}
use Rattle.tv_store.specs.FileStates.{CollectsSafely}
use Rattle.tv_store.specs.Kept.{FilesState, names_below}
use Rattle.tv_store.specs.Performing.{FilesHold}
use Rattle.tv_catalog.specs.declared.action.Action.TheVariants as actions
use Rattle.tv_catalog.specs.declared.action.Reply.{Reply}
use Rattle.tv_store.proofs.Durable.{KeepsSealed, Needs, given_ok, is_living, isnt_list, keeps_all, stores_on}
use Rattle.tv_store.proofs.Listings.{undotted_isnt_list}
use Rattle.tv_store.proofs.Removals.{living_spared}

-- files that nothing needs are gone
gone_bytes : (s : State) (gone : List (List ℕ)) (n : List ℕ) → has gone n ≡ false → sealed_bytes (file_at (record s { files = files_without gone s.files }) n) ≡ sealed_bytes (file_at s n)
gone_bytes s gone n spared = ap sealed_bytes (at_without gone s.files n ∙ ap (λ (b : Bool). cond (not b) (file_at s n) None) spared)

-- a collection tried a name that it had left
pub tried_keeps : (s : State) (number : ℕ) (c : Collection) (name : List ℕ) (left : List (List ℕ)) (done : Bool) → IsWhole s → collection_at s.collections number ≡ Some c → c.untried ≡ name ∷ left → KeepsSealed s (having_deleted s number c name left done).1
tried_keeps s number c name left true whole there first = record { catalog = refl; bytes = λ n needed. gone_bytes s (name ∷ []) n (tried_spared s number c name left n there first whole.collecting needed) }
tried_keeps s number c name left false whole there first = record { catalog = refl; bytes = λ n needed. refl }

-- the next name of a collection that has one
pub next_name : (collections : Collections) (number : ℕ) → HasUntried collections number → NextName collections number
next_name collections number some = found (collection_at collections number) refl some where
  first : (c : Collection) (names : List (List ℕ)) → collection_at collections number ≡ Some c → c.untried ≡ names → 0 < length names → NextName collections number
  first c [] there are h = absurd (omega (arith, h))
  first c (name ∷ left) there are h = record { collection = c; name = name; left = left; there = there; first = are }

  found : (o : Option Collection) → collection_at collections number ≡ o → IsSomeAnd o (λ c. 0 < length c.untried) → NextName collections number
  found None there h = absurd h
  found (Some c) there h = first c c.untried there refl h

-- a collection ended
pub ended_keeps : (s : State) (number : ℕ) (o : Option Collection) → KeepsSealed s (after_end s number o)
ended_keeps s number None = keeps_all s
ended_keeps s number (Some c) = record { catalog = refl; bytes = λ n needed. refl }

-- files were deleted at once
pub deleted_keeps : (s : State) (gone : List (List ℕ)) → ((n : List ℕ) → has (living s.catalog) n ≡ true → has gone n ≡ false) → KeepsSealed s (without_files s gone)
deleted_keeps s gone spared = record { catalog = refl; bytes = λ n needed. gone_bytes s gone n (spared n needed) }

-- what is living isn't deleted
pub done_spares : (names : List (List ℕ)) (living_names : List (List ℕ)) (managed : ManagedNames) (outcomes : List Bool) (deleted : List (List ℕ)) (n : List ℕ) → names ≡ taken_by living_names managed → deleted ≡ done_of names outcomes → has living_names n ≡ true
    → has deleted n ≡ false
done_spares names living_names managed outcomes deleted n are done needed =
    elim (has deleted n) as (λ b. has deleted n ≡ b → b ≡ false) [
      | true ↦ λ gone.
          let there : has names n ≡ true = done_within names outcomes n (ap (λ (ns : List (List ℕ)). has ns n) (sym done) ∙ gone) in
          absurd (true≢false (sym there ∙ ap (λ (ns : List (List ℕ)). has ns n) are ∙ living_spared living_names managed n needed))
      | false ↦ λ free. refl
    ] refl

module _ {O W C : Type 0} (g : Ghosts O W C) (files : FilesState O) (s : State) (stands : StandsNow (g.view files.outside) (g.disk files.outside)) (h : FilesHold g files s) (d : IsDurable g files s) where
  -- what is stored is living
  needs_living : (n : List ℕ) → Needs g files s stands h d n → has (living s.catalog) n ≡ true
  needs_living n (inl same) = ap (has (living s.catalog)) same
  needs_living n (inr needs) = is_living g files s stands h d n needs

  -- a name is tried, or was to be
  pub tried_stored : {A : Type 0} (whole : IsWhole s) (number : ℕ) (new : FilesState O) (says_done : A → Bool) (trying : Result A TantivyError) (result : Result Reply TantivyError) → NextName files.collections number → new.form ≡ files.form
      → StepsSafely says_done g number (names_below files) (names_below new) trying → IfOk result (λ reply. KeepsSealed s (after s (actions.Try number) reply)) → LeavesStored g (actions.Try number) files new s result
  tried_stored whole number new says_done trying result next made steps keeps =
      let safe = steps next in
      let there : collection_at s.collections number ≡ Some next.collection = ap (λ (k : Collections). collection_at k number) (sym h.collections) ∙ next.there in
      let apart : (n : List ℕ) → has (living s.catalog) n ≡ true → n ≡ next.name → ⊥ =
      λ n needed same.
      let spared : has (next.name ∷ []) n ≡ false = tried_spared s number next.collection next.name next.left n there next.first whole.collecting needed in
      let itself : has (next.name ∷ []) next.name ≡ true = rw (is_itself next.name) refl in
      true≢false (sym itself ∙ ap (has (next.name ∷ [])) (sym same) ∙ spared) in
      stores_on g files s stands h d (actions.Try number) new result (λ p. MayAdd (possible_now (g.disk files.outside)) p next.name Absent) made (safe.tracks d.tracked) (on_ok result (safe.listed d.listed)) safe.states.moments
      (λ p adds n needs t is. ⊎_elim (λ was. was) (λ it. absurd (apart n (needs_living n needs) it.0)) (adds.each n t is))
      (λ n bytes needed file now. safe.states.now.each n (apart n needed) ∙ now) keeps

  -- a collection ends, or was to
  pub ended_stored : {A : Type 0} (number : ℕ) (c : Collection) (new : FilesState O) (ending : Result A TantivyError) (result : Result Reply TantivyError) → collection_at files.collections number ≡ Some c → new.form ≡ files.form
      → EndsSafely g number (names_below files) (names_below new) ending → ((P : Type 0) → OnOk ending P → OnOk result P) → IfOk result (λ reply. KeepsSealed s (after s (actions.End number) reply)) → LeavesStored g (actions.End number) files new s result
  ended_stored number c new ending result there made ends handed keeps =
      let safe = ends c there in
      stores_on g files s stands h d (actions.End number) new result _ made (safe.tracks d.tracked) (given_ok _ _ result d.listed (handed _ safe.listed)) safe.states.moments
      (λ p adds n needs t is. ⊎_elim (λ was. was) (λ it. absurd (isnt_list g files s stands h d n needs it.0)) (adds.each n t is))
      (λ n bytes needed file now. safe.states.now.each n (undotted_isnt_list n file.0) ∙ now) keeps

  -- files are deleted at once, or were to be
  pub collected_stored : {A : Type 0} (living_names : _) (names : List (List ℕ)) (new : FilesState O) (collecting : Result A TantivyError) (result : Result Reply TantivyError) → ((n : List ℕ) → has names n ≡ has (living s.catalog) n) → new.form ≡ files.form
      → CollectsSafely g names files new collecting → ((P : Type 0) → OnOk collecting P → OnOk result P) → IfOk result (λ reply. KeepsSealed s (after s (actions.Collect living_names) reply)) → LeavesStored g (actions.Collect living_names) files new s result
  collected_stored living_names names new collecting result are made collects handed keeps =
      let safe = collects.leaves in
      let apart : (n : List ℕ) → has (living s.catalog) n ≡ true → has collects.done n ≡ true → ⊥ = λ n needed gone. true≢false (sym gone ∙ collects.spares n (are n ∙ needed)) in
      stores_on g files s stands h d (actions.Collect living_names) new result (OnlyTouches (AnyOrList collects.done) (possible_now (g.disk files.outside))) made (safe.tracks d.tracked) (given_ok _ _ result d.listed (handed _ safe.listed)) safe.states.touches.moments
      (λ p touches n needs t is. touches.each n (λ it. ⊎_elim (apart n (needs_living n needs)) (isnt_list g files s stands h d n needs) it) t is)
      (λ n bytes needed file now. safe.states.touches.now.each n (λ it. ⊎_elim (apart n needed) (undotted_isnt_list n file.0) it) ∙ now) keeps
