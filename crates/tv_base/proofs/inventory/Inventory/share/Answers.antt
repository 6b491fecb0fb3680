use Rattle.std.proofs.Common.{refl}
use Rattle.tv_base.specs.Entries.{is_numbered, one_more}
use Rattle.tv_base.specs.Places.{change_at}
use Rattle.tv_base.proofs.KeyedLaws.{below_changed, entries_are, kept}
use Rattle.tv_base.proofs.inventory.Inventory.share.Goals as goal

pub invariant_of-self-2 : goal.invariant_of-self-2
invariant_of-self-2 g c =
    kept _ _ _ c.in_ok-count_more.ensures.ok (below_changed one_more (λ e. refl) (is_numbered c.t.inside.number) _ _ c.self.invariant.1)

pub returns-clause-ok : goal.returns-clause-ok
returns-clause-ok g c =
    rw (← c.t.view_is)
    (entries_are (change_at (is_numbered c.t.inside.number) one_more) _ c.self.inside.entries.entries _ c.args.self.now c.self.view_is c.in_ok-count_more.ensures.ok)
