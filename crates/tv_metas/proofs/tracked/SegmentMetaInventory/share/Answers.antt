use Rattle.std.proofs.Common.{rules, All, ap, sym, subst, ◌∙◌}
use Rattle.tv_base.specs.Entries.{released}
use Rattle.tv_metas.specs.Tracked.{IsShared, KeptMetas, Share}
use Rattle.tv_metas.proofs.KeptWithin.{undone, within_shared}
use Rattle.tv_metas.proofs.tracked.SegmentMetaInventory.share.Goals as goal

pub invariant_of-self-2 : goal.invariant_of-self-2
invariant_of-self-2 c =
    subst (λ (es : KeptMetas). All IsShared es) (sym (ap (λ state. state.entries) c.in_ok-ticket.ensures.ok)) (within_shared c.meta.inside.ticket c.self.inside.segments.entries c.self.invariant)

pub returns-clause-ok : goal.returns-clause-ok
returns-clause-ok c = record {
  same = search rules;
  entries = search rules;
  undone =
      ap (λ (share : Share). released share.0 c.share.new.self.entries) (sym c.meta.view_is)
      ∙ ap (λ state. released c.meta.inside.ticket state.entries) c.in_ok-ticket.ensures.ok
      ∙ undone c.meta.inside.ticket c.self.inside.segments.entries c.self.invariant ∙ c.self.view_is;
}
