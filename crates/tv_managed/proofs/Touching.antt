-- What each step leaves alone of the files on a disk.
use Rattle.std.proofs.Common.{◌≡◌, ◌≢◌, ⊎_elim, ℕ, Bool, true, false, List, refl, sym, ap, subst, ◌∙◌, inl, inr, arith, Result}
use Rattle.tv_formats.specs.Disk.{DiskState, IsThere, Possible, Disk, possible_now, Within, MayAdd, Elapses, Throughout}
use Rattle.tv_formats.specs.Names.{list_name}
use Rattle.tv_formats.proofs.DiskLaws.{HoldsOfFewer, at_end, goes_on, goes_on_run, same, started, weaker}
use Rattle.tv_base.specs.declared.io.IoError.{IoError}
use Rattle.tv_base.specs.declared.io.IoError.TheVariants as io
use Rattle.tv_base.specs.declared.open_errors.OpenWriteError.TheVariants as write
use Rattle.tv_device.specs.Images.{KeepsDisk, KeepsOtherStates, WritesState}
use Rattle.tv_device.specs.declared.directory.Directory.{Ghosts}
use Rattle.tv_device.specs.TouchLaws.{others_given}
use Rattle.tv_managed.specs.Crashes.{Gains, IsCovered, IsTracked, KeepsTrack}
use Rattle.tv_managed.specs.Names.{ManagedNames}
use Rattle.tv_managed.specs.TrackLaws.{covered_within, track_step}
use Rattle.tv_managed.proofs.Tracking.{covered_file, not_done}

-- nothing was done
pub keeps_same : (disk : Disk) → KeepsDisk disk disk
keeps_same disk = record {
  states = record { now = λ n. refl; possible = same (possible_now disk) };
  time = record { later = omega arith; past = λ x le. same (disk.possible x); inside = λ x from to. absurd (omega arith) };
}

-- ---- names that a call doesn't touch, whatever it answers

pub others_written : {A : Type 0} (lives : Bool) {old new : Disk} {name : List ℕ} {state : DiskState} {result : Result A IoError} → WritesState lives old new name state result → KeepsOtherStates old new name
others_written true {result = result} writes n ne = others_given result (writes.gives refl) n ne
others_written false writes n ne = (writes.gone refl).states.now n

pub time_written : {A : Type 0} (lives : Bool) {old new : Disk} {name : List ℕ} {state : DiskState} {result : Result A IoError} → WritesState lives old new name state result → Elapses old new
time_written true writes = (writes.gives refl).time
time_written false writes = (writes.gone refl).time

pub added_written : {A : Type 0} (lives : Bool) {old new : Disk} {name : List ℕ} {state : DiskState} {result : Result A IoError} → WritesState lives old new name state result → MayAdd (possible_now old) (possible_now new) name state
added_written true writes = (writes.gives refl).no_more
added_written false writes = record { each = λ n s is. inl ((writes.gone refl).states.possible.no_more.each n s is) }

-- a file that its writer's call finds is managed, and not done
pub covered_written : {A : Type 0} (lives : Bool) {old new : Disk} {names : ManagedNames} {name : List ℕ} {state : DiskState} {result : Result A IoError} → WritesState lives old new name state result → ((n : List ℕ) → possible_now old n (old.now n))
    → name ≢ list_name → IsCovered (possible_now old) old.now names → IsCovered (possible_now new) new.now names
covered_written true {old = old} {name = name} writes stands other was =
    covered_file (writes.gives refl).no_more other
    (λ undotted there. (was.covers name undotted (old.now name) (stands name) (writes.there refl), not_done name was undotted (writes.there refl)))
    (λ n undotted h. others_written true writes n (λ same. subst IsThere (ap old.now (sym same) ∙ was.gone n undotted h) (writes.there refl)) ∙ was.gone n undotted h)
    was
covered_written false writes stands other was = covered_within (writes.gone refl).states.possible.no_more (λ n undotted h. (writes.gone refl).states.now n ∙ was.gone n undotted h) was

-- the call keeps track
pub track_written : {A D W C : Type 0} (g : Ghosts D W C) (lives : Bool) {old : D × ManagedNames} {new : D} {name : List ℕ} {state : DiskState} {result : Result A IoError} → WritesState lives (g.disk old.0) (g.disk new) name state result
    → ((n : List ℕ) → possible_now (g.disk old.0) n ((g.disk old.0).now n)) → name ≢ list_name → IsTracked g old → KeepsTrack g old (new, old.1)
track_written g lives writes stands other was = track_step g (time_written lives writes) was (covered_written lives writes stands other was)

-- ---- states that are possible besides

fewer_gained : (extra : List ℕ → DiskState → Type 0) (possible : Possible) → HoldsOfFewer (Gains extra possible)
fewer_gained extra possible old new within was = record { each = λ n s is. was.each n s (within.each n s is) }

pub gained_same : (extra : List ℕ → DiskState → Type 0) (disk : Disk) → Throughout (Gains extra (possible_now disk)) disk disk
gained_same extra disk = started _ (fewer_gained extra _) disk (record { each = λ n s is. inl is })

-- one call
pub gained_step : {extra : List ℕ → DiskState → Type 0} {old new : Disk} → Elapses old new → Gains extra (possible_now old) (possible_now new) → Throughout (Gains extra (possible_now old)) old new
gained_step {extra} {old} time gains = goes_on _ (fewer_gained extra (possible_now old)) (gained_same extra old) time gains

pub gained_within : (extra : List ℕ → DiskState → Type 0) {old new : Disk} → Elapses old new → Within (possible_now old) (possible_now new) → Throughout (Gains extra (possible_now old)) old new
gained_within extra time within = gained_step time (record { each = λ n s is. inl (within.each n s is) })

pub gained_none : (extra : List ℕ → DiskState → Type 0) {old new : Disk} → KeepsDisk old new → Throughout (Gains extra (possible_now old)) old new
gained_none extra keeps = gained_within extra keeps.time keeps.states.possible.no_more

-- one run, and another
pub gained_then : {extra : List ℕ → DiskState → Type 0} {old mid new : Disk} → Throughout (Gains extra (possible_now old)) old mid → Throughout (Gains extra (possible_now mid)) mid new → Throughout (Gains extra (possible_now old)) old new
gained_then {extra} {old} first second = goes_on_run _ (fewer_gained extra (possible_now old)) first
    (weaker second (λ p gains. record { each = λ n s is. ⊎_elim (λ before. (at_end first).each n s before) (λ it. inr it) (gains.each n s is) }))

-- more states may be possible
pub gained_more : {extra more : List ℕ → DiskState → Type 0} {old new : Disk} → ((n : List ℕ) (s : DiskState) → extra n s → more n s) → Throughout (Gains extra (possible_now old)) old new → Throughout (Gains more (possible_now old)) old new
gained_more among run = weaker run (λ p gains. record { each = λ n s is. ⊎_elim (λ before. inl before) (λ it. inr (among n s it)) (gains.each n s is) })

-- one call gives a name one state more
abbrev pub OneState : List ℕ → DiskState → List ℕ → DiskState → Type 0
OneState name state n s = (n ≡ name) × (s ≡ state)

pub gained_one : {old new : Disk} {name : List ℕ} {state : DiskState} → Elapses old new → MayAdd (possible_now old) (possible_now new) name state → Throughout (Gains (OneState name state) (possible_now old)) old new
gained_one time adds = gained_step time (record { each = λ n s is. adds.each n s is })

pub gained_run : {old new : Disk} {name : List ℕ} {state : DiskState} → Throughout (λ possible. MayAdd (possible_now old) possible name state) old new → Throughout (Gains (OneState name state) (possible_now old)) old new
gained_run run = weaker run (λ p adds. record { each = λ n s is. adds.each n s is })

pub adds_run : {old new : Disk} {name : List ℕ} {state : DiskState} → Throughout (Gains (OneState name state) (possible_now old)) old new → Throughout (λ possible. MayAdd (possible_now old) possible name state) old new
adds_run run = weaker run (λ p gains. record { each = λ n s is. gains.each n s is })
