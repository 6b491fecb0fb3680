use Rattle.std.proofs.Common.{rules, Some, arith, refl, sym}
use Rattle.tv_base.specs.Entries.{one_fewer}
use Rattle.tv_base.proofs.KeyedLaws.{changed, lessened, looked, taken, twice, unchanged}
use Rattle.tv_base.proofs.inventory.count_less.Goals as goal

pub overflow_sub-entry : goal.overflow_sub-entry
overflow_sub-entry g c =
    let two = twice _ c.in-Some.entry.now
    (looked c.args.number c.args.entries.now.entries (Some c.in-Some.entry.now) c.requires c.in-Some.ensures.value)
    (sym c.if-has_last.ensures) in
    grind (arith, two)

pub returns-then-has_last : goal.returns-then-has_last
returns-then-has_last g c =
    taken c.args.number c.args.entries.now.entries _ c.requires (sym c.if-has_last.ensures) c.remove.ensures.entries

pub returns-in-Some : goal.returns-in-Some
returns-in-Some g c =
    lessened c.args.number c.args.entries.now.entries _ (sym c.if-has_last.ensures)
    (changed one_fewer (λ e. refl) c.args.number c.args.entries.now.entries _ c.requires c.in-Some.entry.now c.in-Some.ensures.value
    (c.get_mut.follows.holds (one_fewer c.in-Some.entry.now)).0)

pub returns-in_default : goal.returns-in_default
returns-in_default g c =
    lessened c.args.number c.args.entries.now.entries _ (sym c.if-has_last.ensures)
    (unchanged one_fewer (λ e. refl) c.args.number c.args.entries.now.entries _ c.requires c.in_default.ensures.value (search rules))
