-- What calls of a managed directory keep, one after the other, of what a crash may leave and of the list of
-- its files.
use Rattle.std.proofs.Common.{◌≡◌, ◌≤◌, ◌<◌, ⊎_elim, inl, inr, ℕ, true, List, sym, ap, subst, ◌∙◌, arith}
use Rattle.std.proofs.lemmas.Bool.{cases_lt}
use Rattle.tv_formats.specs.Disk.{DiskState, Absent, Possible, Disk, possible_now, Within, Elapses, Throughout}
use Rattle.tv_formats.specs.Listed.{IsAlwaysListed, ListsEachFile}
use Rattle.tv_formats.specs.Listing.{IsListFile}
use Rattle.tv_formats.specs.Names.{has, is_undotted}
use Rattle.tv_formats.proofs.DiskLaws.{at_end, fewer_listed, fewer_within, goes_on, goes_on_run, same_then, started, weaker}
use Rattle.tv_device.specs.Images.{KeepsDisk, SameStates}
use Rattle.tv_device.specs.declared.directory.Directory.{Ghosts}
use Rattle.tv_managed.specs.Crashes.{AreListed, IsCovered, IsTracked, KeepsTrack, LeavesSafely}
use Rattle.tv_managed.specs.Names.{ManagedNames, done_names}

-- two calls that only read
pub keeps_then : {old mid new : Disk} → KeepsDisk old mid → KeepsDisk mid new → KeepsDisk old new
keeps_then {old} {mid} {new} first second = record {
  states = record {
    now = λ n. second.states.now n ∙ first.states.now n;
    possible = same_then first.states.possible second.states.possible;
  };
  time = record {
    later = omega (arith, first.time.later, second.time.later);
    past =
        λ x le. same_then (first.time.past x le) (second.time.past x (omega (arith, le, first.time.later)));
    inside = λ x from to. ⊎_elim
        (λ (after : mid.moment < x). ⊎_elim (λ before. inl (same_then first.states.possible before))
        (λ behind. inr behind) (second.time.inside x after to))
        (λ (upto : x ≤ mid.moment). ⊎_elim
        (λ before. inl (same_then before (second.time.past x upto)))
        (λ behind. inl (same_then first.states.possible (same_then behind (second.time.past x upto))))
        (first.time.inside x from upto))
        (cases_lt mid.moment x);
  };
}

-- no state is possible besides, twice
pub within_then : {old mid new : Disk} → Throughout (Within (possible_now old)) old mid
    → Throughout (Within (possible_now mid)) mid new → Throughout (Within (possible_now old)) old new
within_then {old} {mid} first second =
    goes_on_run _ (fewer_within (possible_now old)) first
    (weaker second (λ p within. fewer_within (possible_now old) (possible_now mid) p within (at_end first)))

-- ---- the list

-- a name that is always listed is so still where no file of the list has a state that it hadn't
pub still_listed : (old new : Possible) (n : List ℕ)
    → ((file : List ℕ) → IsListFile file → (l : DiskState) → new file l → old file l)
    → IsAlwaysListed old n → IsAlwaysListed new n
still_listed old new n of_old on = (on.0, on.1, λ l is. on.2 l (of_old on.0 on.1 l is))

-- the managed names are listed still after a call that keeps them, and after which no state is possible
-- besides
pub listed_within : {D W C : Type 0} (g : Ghosts D W C) (old new : D × ManagedNames)
    → new.1.managed ≡ old.1.managed
    → Within (possible_now (g.disk old.0)) (possible_now (g.disk new.0)) → AreListed g old → AreListed g new
listed_within g old new names within was n h =
    still_listed (possible_now (g.disk old.0)) (possible_now (g.disk new.0)) n
    (λ file of_list. within.each file) (was n (ap (λ l. has l n) (sym names) ∙ h))

-- and after a call that only reads
pub listed_read : {D W C : Type 0} (g : Ghosts D W C) (old new : D × ManagedNames) → new.1 ≡ old.1
    → KeepsDisk (g.disk old.0) (g.disk new.0) → AreListed g old → AreListed g new
listed_read g old new names keeps =
    listed_within g old new (ap (λ v. v.managed) names) keeps.states.possible.no_more

-- ---- track

-- what unfinished collections have done is absent
abbrev pub AreGone : (now : List ℕ → DiskState) → ManagedNames → Type 0
AreGone now names =
    (n : List ℕ) → is_undotted n ≡ true → has (done_names names.collections) n ≡ true → now n ≡ Absent

-- fewer states are possible
pub covered_within : {old new : Possible} {before now : List ℕ → DiskState} {names : ManagedNames}
    → Within old new → AreGone now names → IsCovered old before names → IsCovered new now names
covered_within {old} {new} within gone was = record {
  forgets_none = fewer_listed old new within was.forgets_none;
  covers = λ n undotted s is there. was.covers n undotted s (within.each n s is) there;
  listed = λ n h free. still_listed old new n (λ file of_list. within.each file) (was.listed n h free);
  gone = gone;
}

-- one call
pub track_step : {D W C : Type 0} (g : Ghosts D W C) {old new : D × ManagedNames}
    → Elapses (g.disk old.0) (g.disk new.0) → IsTracked g old → IsTracked g new → KeepsTrack g old new
track_step g time was now = record {
  tracked = now;
  moments =
      goes_on ListsEachFile fewer_listed
      (started ListsEachFile fewer_listed _ was.forgets_none) time now.forgets_none;
}

-- one run, and another
pub track_then : {D W C : Type 0} (g : Ghosts D W C) {old mid new : D × ManagedNames} → KeepsTrack g old mid
    → KeepsTrack g mid new → KeepsTrack g old new
track_then g first second = record {
  tracked = second.tracked;
  moments = goes_on_run ListsEachFile fewer_listed first.moments second.moments;
}

-- a call after which no state is possible besides, and each name stands as it stood
pub track_within : {D W C : Type 0} (g : Ghosts D W C) {old new : D × ManagedNames} → new.1 ≡ old.1
    → Elapses (g.disk old.0) (g.disk new.0)
    → Within (possible_now (g.disk old.0)) (possible_now (g.disk new.0))
    → SameStates (g.disk old.0) (g.disk new.0)
    → IsTracked g old → KeepsTrack g old new
track_within g {new = new} names time within same was =
    track_step g time was (subst (IsCovered (possible_now (g.disk new.0)) (g.disk new.0).now) (sym names)
    (covered_within within (λ n u h. same n ∙ was.gone n u h) was))

-- a call that only reads
pub track_read : {D W C : Type 0} (g : Ghosts D W C) {old new : D × ManagedNames} → new.1 ≡ old.1
    → KeepsDisk (g.disk old.0) (g.disk new.0) → IsTracked g old → KeepsTrack g old new
track_read g names keeps was =
    track_within g names keeps.time keeps.states.possible.no_more keeps.states.now was

-- a call that only reads is safe
pub safe_read : {D W C : Type 0} (g : Ghosts D W C) {old new : D × ManagedNames} → new.1 ≡ old.1
    → KeepsDisk (g.disk old.0) (g.disk new.0)
    → LeavesSafely g (KeepsDisk (g.disk old.0) (g.disk new.0)) old new
safe_read g {old} {new} names keeps =
    record { tracks = track_read g names keeps; listed = listed_read g old new names keeps; states = keeps }
