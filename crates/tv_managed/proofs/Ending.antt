-- How the end of a collection keeps track, and what it saves.
use Rattle.std.proofs.Common.{◌≡◌, ℕ, Bool, true, false, true≢false, not, ◌||◌, ⊎_elim, ◌⊎◌, List, Option, Some, refl, sym, ap, subst, ◌∙◌, Result, Ok}
use Rattle.std.specs.Result.{IsErr}
use Rattle.std.proofs.lemmas.Result.{IfOk-from_err}
use Rattle.std.proofs.lemmas.Bool.{not-true, or_left, or_right}
use Rattle.tv_formats.specs.Names.{has}
use Rattle.tv_formats.specs.Listing.{Lists}
use Rattle.tv_formats.specs.Collections.{Collection, collection_at, without, without_collection}
use Rattle.tv_formats.proofs.CollectedNames.{has_without}
use Rattle.tv_formats.proofs.PlainNames.{both}
use Rattle.tv_device.specs.declared.directory.Directory.{Ghosts}
use Rattle.tv_managed.specs.Collecting.{ending}
use Rattle.tv_managed.specs.Crashes.{IsCovered, LacksDone, ShortensSafely, ShortensStates}
use Rattle.tv_managed.specs.Managed.{Covers}
use Rattle.tv_managed.specs.Names.{ManagedNames, done_names}
use Rattle.tv_managed.proofs.Collections.{among_done, fewer_done}
use Rattle.tv_managed.proofs.Saves.{covers_put}
use Rattle.tv_managed.proofs.Shortening.{lost_is_gone, was_there}
use Rattle.tv_managed.proofs.Tracking.{covered_done, track_names}
use Rattle.tv_managed.specs.TrackLaws.{track_then}

-- a name that isn't left is done by the collection
pub lacks_done : (names : ManagedNames) (number : ℕ) (d : Collection) → collection_at names.collections number ≡ Some d → LacksDone (without d.done names.managed) names
lacks_done names number d at n h lost = sym (among_done names.collections.unfinished number d n at) ∙ or_left (has d.done n) _ (lost_is_gone d.done names.managed n h lost)

-- what is left isn't done by the collection
left_free : (d : Collection) (names : List (List ℕ)) (n : List ℕ) → has (without d.done names) n ≡ true → has d.done n ≡ false
left_free d names n h = not-true (has d.done n) (both (not (has d.done n)) (has names n) (sym (has_without d.done names n) ∙ h)).0

still_free : (names : ManagedNames) (number : ℕ) (d : Collection) → collection_at names.collections number ≡ Some d → (n : List ℕ) → has (without d.done names.managed) n ≡ true
    → has (done_names (without_collection names.collections number)) n ≡ false → has (done_names names.collections) n ≡ false
still_free names number d at n h free = fewer_done names.collections.unfinished number d n at ∙ ap (λ b. b || has (done_names (without_collection names.collections number)) n) (left_free d names.managed n h) ∙ free

-- the collection is finished, and track is kept
pub end_safely : {A B E F D W C : Type 0} (g : Ghosts D W C) {x : A} (y : B) (number : ℕ) (d : Collection) {left : List (List ℕ)} {old mid : D × ManagedNames} {now : ManagedNames} → collection_at old.1.collections number ≡ Some d → mid.1 ≡ record old.1 { managed = without d.done old.1.managed } → now ≡ ending old.1 number d
    → ShortensSafely {E = E} g (ShortensStates g left old mid) old mid (Ok x) → ShortensSafely {E = F} g (ShortensStates g left old (mid.0, now)) old (mid.0, now) (Ok y)
end_safely g y number d {left} {old} {mid} {now} at cut is safe =
    let managed : now.managed ≡ mid.1.managed = ap (λ v. v.managed) is ∙ sym (ap (λ v. v.managed) cut) in
    record {
      tracks = λ was.
          let first = safe.tracks was in
          let there = subst (IsCovered _ (g.disk mid.0).now) cut first.tracked in
          let ended : IsCovered _ (g.disk mid.0).now (ending old.1 number d) = covered_done (still_free old.1 number d at) (λ n undotted h. there.gone n undotted (fewer_done old.1.collections.unfinished number d n at ∙ or_right (has d.done n) _ h)) there in
          track_then g first (track_names g (subst (IsCovered _ (g.disk mid.0).now) (sym is) ended) first.tracked);
      listed = λ was n h. safe.listed was n (ap (λ l. has l n) (sym managed) ∙ h);
      states = record {
        moments = safe.states.moments;
        now = record { each = safe.states.now.each };
        forgets = λ was n h lost. safe.states.forgets was n h (ap (λ l. has l n) (sym managed) ∙ lost);
      };
    }

-- it couldn't be
pub end_failed : {A B E F D W C : Type 0} (g : Ghosts D W C) {becomes : Type 0} {old new : D × ManagedNames} {inner : Result A E} (result : Result B F) → IsErr result → ShortensSafely g becomes old new inner → ShortensSafely g becomes old new result
end_failed g result failed safe = record { tracks = safe.tracks; listed = IfOk-from_err result _ failed; states = safe.states }

-- the list that reads has the names that it need have, as long as the collection isn't finished
pub covers_unfinished : (names : ManagedNames) (number : ℕ) (d : Collection) (now before : Option (List ℕ)) → collection_at names.collections number ≡ Some d → Lists now (without d.done names.managed) ⊎ (now ≡ before) → Covers before names → Covers now names
covers_unfinished names number d now before at either was = covers_put now before names (without d.done names.managed) (λ n h free. kept n (has (without d.done names.managed) n) refl h free) either was where
  kept : (n : List ℕ) (b : Bool) → has (without d.done names.managed) n ≡ b → has names.managed n ≡ true → has (done_names names.collections) n ≡ false → has (without d.done names.managed) n ≡ true
  kept n true e h free = e
  kept n false e h free = absurd (true≢false (sym (lacks_done names number d at n h e) ∙ free))

-- and when it is
pub covers_finished : (names : ManagedNames) (number : ℕ) (d : Collection) (now before : Option (List ℕ)) → collection_at names.collections number ≡ Some d → Lists now (without d.done names.managed) ⊎ (now ≡ before) → Covers before names → Covers now (ending names number d)
covers_finished names number d now before at either was =
    ⊎_elim (λ saved. (without d.done names.managed, saved, λ n h free. h))
    (λ kept. subst (λ r. Covers r (ending names number d)) (sym kept) (was.0, was.1, λ n h free. was.2 n (was_there d.done names.managed n h) (still_free names number d at n h free)))
    either
