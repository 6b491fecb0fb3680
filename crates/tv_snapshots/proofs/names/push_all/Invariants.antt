use Rattle.std.proofs.Common.{◌≡◌, ◌++◌, take}
use Rattle.std.specs.List.{flat_map}
use Rattle.tv_formats.specs.Segments.{segment_names}
use Rattle.tv_snapshots.proofs.names.push_all.Given as goal

abbrev pub invariant-loop-entry : goal.invariant-loop-entry
invariant-loop-entry l = l.names.items ≡ l.initial.names.items ++ flat_map segment_names (take l.entry-index l.segments)
