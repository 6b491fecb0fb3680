use Rattle.std.proofs.Common.{rules, drop, ◌+◌, arith}
use Rattle.std.proofs.lemmas.List.{drop_more}
use Rattle.tv_formats.proofs.Apart.{first, more}
use Rattle.tv_events.proofs.blob.are_apart_in_a_set.Goals as goal

pub loop-id-init : goal.loop-id-init
loop-id-init c = first _ (λ q. search rules) c.args.ids.now

pub loop-id-preserved : goal.loop-id-preserved
loop-id-preserved c =
    let e = c.in_ok-insert.ensures in
    let left = drop_more c.args.ids.now c.loop-id.id-index c.id-item.result c.loop-id-test.true in
    let step = more _ _ c.id-item.result e.updates.0 (grind (arith, e.added, c.if-not-branch.false)) (drop (c.loop-id.id-index + 1) c.args.ids.now) in
    grind (arith, c.loop-id.invariant, left, step, c.id-item.is)
