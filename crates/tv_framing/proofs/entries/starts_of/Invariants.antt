use Rattle.tv_framing.proofs.Reading.{HasSeen, IsSoFar}
use Rattle.tv_framing.proofs.entries.starts_of.Given as goal

abbrev pub invariant-loop-entry : goal.invariant-loop-entry
invariant-loop-entry l = IsSoFar l.entries l.entry-index l.offset l.len l.starts.items × HasSeen l.seen l.starts.items
