use Rattle.std.proofs.Common.{◌≡◌, map}
use Rattle.tv_base.proofs.inventory.Inventory.list.Given as goal

abbrev pub invariant-loop-e : goal.invariant-loop-e
invariant-loop-e g l = map (λ v. v.now) l.values.items ≡ map (λ e. e.value) (map (λ e. e.now) l.yielded)
