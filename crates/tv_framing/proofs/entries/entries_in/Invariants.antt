use Rattle.tv_framing.proofs.Reading.{IsReading}
use Rattle.tv_framing.proofs.entries.entries_in.Given as goal

abbrev pub invariant-loop : goal.invariant-loop
invariant-loop l = IsReading l.footing l.count l.counter l.entries.items l.cursor
