-- A lock that a store takes and frees again.
use Rattle.std.proofs.Common.{◌≡◌, ◌≢◌, ℕ, true, false, true≢false, List, refl, sym, ap, ◌∙◌}
use Rattle.std.specs.BTreeMap.{is_at}
use Rattle.tv_formats.specs.Names.{byte_cmp}
use Rattle.tv_formats.proofs.Entries.{at_itself, text_at}
use Rattle.tv_device.specs.Locks.{FreesLock, Locks, SameLocks, TakesLock}

-- whether a name is this one
same_or : {P : Type 0} (name n : List ℕ) → (n ≡ name → P) → (n ≢ name → P) → P
same_or {P} name n same other =
    elim (is_at (byte_cmp name) n) as (λ b. is_at (byte_cmp name) n ≡ b → P) [
      | true ↦ λ e. same (sym (text_at name n e))
      | false ↦ λ e. other (λ is. true≢false (sym (at_itself name) ∙ ap (λ (k : List ℕ). is_at (byte_cmp name) k) (sym is) ∙ e))
    ] refl

-- it was taken, and kept for a while
pub took_then : (start taken made : Locks) (name : List ℕ) → TakesLock start taken name → SameLocks taken made → TakesLock start made name
took_then start taken made name took same = record {
  was_free = took.was_free;
  is_held = same name ∙ took.is_held;
  others = λ n other. same n ∙ took.others n other;
}

-- and it was freed again
pub freed_after : (start taken made back : Locks) (name : List ℕ) → TakesLock start taken name → SameLocks taken made → FreesLock made back name → SameLocks start back
freed_after start taken made back name took same freed n =
    same_or name n
    (λ is. ap back is ∙ freed.is_free ∙ sym took.was_free ∙ ap start (sym is))
    (λ other. freed.others n other ∙ same n ∙ took.others n other)
