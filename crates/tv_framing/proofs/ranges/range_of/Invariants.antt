use Rattle.std.proofs.Common.{◌≡◌, ℕ, List, drop, length}
use Rattle.tv_framing.specs.Composite.{body_at}
use Rattle.tv_framing.specs.Starts.{Ascend, parts_of}
use Rattle.tv_framing.proofs.ranges.range_of.Given as goal

abbrev pub invariant-loop-i : goal.invariant-loop-i
invariant-loop-i l =
    ((from : ℕ) × Ascend from (drop l.i l.starts) l.end)
    × ((bytes : List ℕ) → length bytes ≡ l.end → body_at l.addr (parts_of bytes (drop l.i l.starts)) ≡ body_at l.addr (parts_of bytes l.starts))
