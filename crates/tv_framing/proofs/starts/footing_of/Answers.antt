use Rattle.std.proofs.Common.{◌++◌, ◌∙◌, ap, arith, append_assoc, drop, subst, sym, ◌+◌}
use Rattle.tv_framing.specs.Starts.{Ascend, listed_from}
use Rattle.tv_framing.proofs.Parts.{later_ascend, start_front}
use Rattle.tv_framing.proofs.starts.footing_of.Goals as goal

pub put_start-requires : goal.put_start-requires
put_start-requires c = (subst (λ l. Ascend c.loop-start.before l c.args.end) (start_front c.args.starts.now c.loop-start.start-index c.start-item.result (omega arith) c.start-item.is) c.loop-start.invariant.0).0

pub loop-start-preserved : goal.loop-start-preserved
loop-start-preserved c =
    let front = start_front c.args.starts.now c.loop-start.start-index c.start-item.result (omega arith) c.start-item.is in (
      later_ascend c.args.starts.now c.loop-start.start-index c.loop-start.before c.args.end c.start-item.result front c.loop-start.invariant.0,
      ap (λ l. l ++ listed_from c.start-item.result.offset (drop (c.loop-start.start-index + 1) c.args.starts.now)) c.in_ok-put_start.ensures ∙ simp append_assoc (ap (λ l. c.loop-start.bytes.items ++ listed_from c.loop-start.before l) (sym front) ∙ c.loop-start.invariant.1),
    )
