-- Where the name of a file isn't free, a call that makes its file leaves nothing more to a crash.
use Rattle.std.proofs.Common.{◌≡◌, ⊎_elim, true, true≢false, ℕ, List, Result, Ok, Err, sym, ap, subst, ◌∙◌}
use Rattle.std.specs.Prelude.{IfErr, is_some}
use Rattle.tv_base.specs.declared.open_errors.OpenWriteError.{OpenWriteError}
use Rattle.tv_base.specs.declared.open_errors.OpenWriteError.TheVariants as write
use Rattle.tv_formats.specs.Disk.{Disk, MayRead, possible_now, Throughout, Within}
use Rattle.tv_formats.proofs.DiskLaws.{weaker}
use Rattle.tv_device.specs.Images.{SameStates, StandsNow}
use Rattle.tv_device.specs.declared.directory.Directory.{Ghosts}
use Rattle.tv_managed.specs.Crashes.{CreatesStates, IsFree}
use Rattle.tv_managed.specs.Managed.{CreateFaults, is_taken}
use Rattle.tv_managed.specs.Names.{ManagedNames}

-- where the name isn't free, no state is possible besides, and each name stands as it stood
pub creates_none : {A : Type 0} {old new : Disk} (names : ManagedNames) (name : List ℕ)
    (result : Result A OpenWriteError) → (IsFree old names name → ⊥)
    → CreatesStates old new names name result
    → Throughout (Within (possible_now old)) old new × SameStates old new
creates_none names name result taken states = (
  weaker states.moments (λ p gains. record {
    each = λ n s is. ⊎_elim (λ before. before) (λ made. absurd (taken made.0)) (gains.each n s is);
  }),
  λ n. states.now.each n (λ made. taken made.0),
)

-- where the answer says that the name is taken, it isn't free
pub taken_isnt_free : {A D W C : Type 0} (g : Ghosts D W C) {old new : D × ManagedNames} (name : List ℕ)
    (result : Result A OpenWriteError) → g.told.content → StandsNow (g.view old.0) (g.disk old.0)
    → CreateFaults g old new name result
    → IfErr result (λ error. is_taken error ≡ true → IsFree (g.disk old.0) old.1 name → ⊥)
taken_isnt_free g name (Ok writer) tells stands faults = tt
taken_isnt_free g {old} name (Err (write.FileAlreadyExists path)) tells stands faults = λ taken free.
    true≢false (sym (faults.cause.1.0 tells)
    ∙ ap is_some (subst (λ s. MayRead s ((g.view old.0).reads name)) free.0 (stands.reads name)))
taken_isnt_free g name (Err (write.Leaving path)) tells stands faults = λ taken free.
    true≢false (sym faults.cause.1.0 ∙ free.1)
taken_isnt_free g name (Err (write.IoError fault path)) tells stands faults = λ taken.
    absurd (true≢false (sym taken))
taken_isnt_free g name (Err write.Memory) tells stands faults = λ taken. absurd (true≢false (sym taken))
