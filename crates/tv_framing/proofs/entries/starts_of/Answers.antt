use Rattle.std.proofs.Common.{◌∙◌, sym, arith}
use Rattle.tv_framing.proofs.Reading.{at_front, seen_more, so_far_more, stands_twice}
use Rattle.tv_framing.proofs.entries.starts_of.Goals as goal

pub returns-then-not-branch : goal.returns-then-not-branch
returns-then-not-branch c =
    stands_twice c.args.entries.now c.loop-entry.entry-index c.loop-entry.offset c.args.len c.loop-entry.starts.items c.entry-item.result c.loop-entry.invariant.0
    (at_front c.args.entries.now c.loop-entry.entry-index c.entry-item.result (omega arith) c.entry-item.is)
    (sym (c.loop-entry.invariant.1 c.entry-item.result.addr) ∙ grind (arith, c.in_ok-insert.ensures.added, c.if-not-branch.true))

pub loop-entry-preserved : goal.loop-entry-preserved
loop-entry-preserved c = (
  so_far_more c.args.entries.now c.loop-entry.entry-index c.loop-entry.offset c.args.len c.loop-entry.starts.items c.push.new.self.items c.entry-item.result c.loop-entry.invariant.0
      (at_front c.args.entries.now c.loop-entry.entry-index c.entry-item.result (omega arith) c.entry-item.is)
      (omega arith)
      (sym (c.loop-entry.invariant.1 c.entry-item.result.addr) ∙ grind (arith, c.in_ok-insert.ensures.added, c.if-not-branch.false))
      c.in_ok-push.ensures.items,
  seen_more c.loop-entry.seen c.insert.new.self c.loop-entry.starts.items c.push.new.self.items c.entry-item.result _ c.loop-entry.invariant.1 c.in_ok-insert.ensures.updates.0 c.in_ok-push.ensures.items,
)
