use Rattle.std.proofs.Common.{length, map, string_bytes}
use Rattle.tv_framing.specs.NamedParts.{alone}
use Rattle.tv_framing.proofs.Reported.{IsReporting}
use Rattle.tv_framing.proofs.reports.usage_by_name.Given as goal

abbrev pub invariant-loop-i : goal.invariant-loop-i
invariant-loop-i l = IsReporting (map string_bytes l.names) l.starts (length l.names) l.i l.end (map alone l.parts.items)
