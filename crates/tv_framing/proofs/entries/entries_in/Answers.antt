use Rattle.std.proofs.Common.{◌∙◌, sym, arith}
use Rattle.tv_framing.proofs.Reading.{reads_all, reads_on, stops_short}
use Rattle.tv_framing.proofs.entries.entries_in.Goals as goal

pub returns-in-None-clause-found : goal.returns-in-None-clause-found
returns-in-None-clause-found c entries short fits whole =
    absurd (stops_short c.args.footing.now c.in-Some.count c.loop.counter c.loop.entries.items c.loop.cursor c.next_entry.new.cursor c.loop.invariant (omega arith) c.in-None.ensures.found entries short fits whole)

pub loop-preserved : goal.loop-preserved
loop-preserved c =
    reads_on c.args.footing.now c.in-Some.count c.loop.counter c.loop.entries.items c.push.new.self.items c.loop.cursor c.next_entry.new.cursor c.in-Some-next_entry.entry c.loop.invariant (omega arith)
    c.in-Some-next_entry.ensures.found c.in-Some-next_entry.ensures.only.1 c.in-Some-next_entry.ensures.only.0 c.in_ok-push-in-Some-next_entry.ensures.items

pub returns-then-is_at_end-clause-only : goal.returns-then-is_at_end-clause-only
returns-then-is_at_end-clause-only c = reads_all c.args.footing.now c.in-Some.count c.loop.counter c.loop.entries.items c.loop.cursor c.loop.invariant (omega arith) (sym c.is_at_end.ensures ∙ c.if-is_at_end.true)
