use Rattle.std.proofs.Common.{◌≡◌, ◌||◌, ℕ, List, take}
use Rattle.std.specs.List.{list_any}
use Rattle.tv_formats.specs.Names.{has}
use Rattle.tv_directory.specs.Crashes.{changes}
use Rattle.tv_directory.proofs.bench_record.Record.add_names.Given as goal

abbrev pub invariant-loop-call : goal.invariant-loop-call
invariant-loop-call l = (n : List ℕ) → has l.names.keys n ≡ (has l.initial.names.keys n || list_any (changes n) (take l.call-index l.self.calls))
