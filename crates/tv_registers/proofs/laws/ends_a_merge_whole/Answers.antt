use Rattle.std.proofs.Common.{ap, sym, ◌∙◌}
use Rattle.tv_base.specs.Entries.{released, tracked}
use Rattle.tv_base.proofs.Tracked.{released_last}
use Rattle.tv_registers.specs.Merges.{MergesState}
use Rattle.tv_registers.proofs.laws.ends_a_merge_whole.Goals as goal

pub returns : goal.returns
returns c =
    let old = c.args.merges.now in
    let op = c.in_ok-op.op in
    let ids = c.args.segment_ids.items in
    ap (λ (m : MergesState). m.entries) c.release.ensures ∙ ap (λ (m : MergesState). released op.number m.entries) c.in_ok-op.ensures.ok
    ∙ ap (λ n. released op.number (tracked n ids old.entries)) (sym (ap (λ o. o.number) c.in_ok-op.ensures.merge))
    ∙ released_last op.number ids old.entries c.in_ok-op.ensures.fresh
