use Rattle.std.proofs.Common.{◌≡◌, ◌++◌, drop}
use Rattle.tv_framing.specs.Starts.{Ascend, footing_text, listed_from}
use Rattle.tv_framing.proofs.starts.footing_of.Given as goal

abbrev pub invariant-loop-start : goal.invariant-loop-start
invariant-loop-start l =
    Ascend l.before (drop l.start-index l.starts) l.fn.end
    × (l.bytes.items ++ listed_from l.before (drop l.start-index l.starts) ≡ footing_text l.starts)
