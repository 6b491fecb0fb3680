use Rattle.std.proofs.Common.{◌≡◌, take, sum_by}
use Rattle.tv_framing.specs.Usage.{bytes_of, capped}
use Rattle.tv_framing.proofs.field_usage.sum_of.Given as goal

abbrev pub invariant-loop-part : goal.invariant-loop-part
invariant-loop-part l = l.sum.0 ≡ capped (sum_by bytes_of (take l.part-index l.parts))
