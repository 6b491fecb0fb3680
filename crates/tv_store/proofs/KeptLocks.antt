-- The locks that an event keeps.
use Rattle.std.proofs.Common.{◌≡◌, Bool, true, false, true≢false, sym, ◌∙◌}
use Rattle.tv_device.specs.Locks.{Locks, SameLocks}
use Rattle.tv_store.specs.Applying.{KeepsLocks}

-- each stands as it stood, and no reload was left unfinished or ended
pub keeps_same : (was now : Bool) (old new : Locks) → was ≡ now → SameLocks old new → KeepsLocks was now old new
keeps_same false false old new is same = same
keeps_same true true old new is same = same
keeps_same false true old new is same = absurd (true≢false (sym is))
keeps_same true false old new is same = absurd (true≢false is)

-- from there on each stands as it stood
pub keeps_then : (was mid now : Bool) (old next new : Locks) → mid ≡ now → KeepsLocks was mid old next → SameLocks next new → KeepsLocks was now old new
keeps_then false false false old next new is h same = λ n. same n ∙ h n
keeps_then true true true old next new is h same = λ n. same n ∙ h n
keeps_then false true true old next new is h same = record {
  was_free = h.was_free;
  is_held = same _ ∙ h.is_held;
  others = λ n other. same n ∙ h.others n other;
}
keeps_then true false false old next new is h same = record {
  is_free = same _ ∙ h.is_free;
  others = λ n other. same n ∙ h.others n other;
}
keeps_then was false true old next new is h same = absurd (true≢false (sym is))
keeps_then was true false old next new is h same = absurd (true≢false is)

-- each stood as it stood, up to there
pub then_keeps : (was now : Bool) (old next new : Locks) → SameLocks old next → KeepsLocks was now next new → KeepsLocks was now old new
then_keeps false false old next new same h = λ n. h n ∙ same n
then_keeps true true old next new same h = λ n. h n ∙ same n
then_keeps false true old next new same h = record { was_free = sym (same _) ∙ h.was_free; is_held = h.is_held; others = λ n other. h.others n other ∙ same n }
then_keeps true false old next new same h = record { is_free = h.is_free; others = λ n other. h.others n other ∙ same n }
