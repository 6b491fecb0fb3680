use Rattle.std.proofs.Common.{◌≡◌, take}
use Rattle.tv_catalog.proofs.SharedLaws.{words_len}
use Rattle.tv_catalog.proofs.plan_reports.names_len.Given as goal

abbrev pub invariant-loop-name : goal.invariant-loop-name
invariant-loop-name l = l.len ≡ words_len (take l.name-index l.names)
