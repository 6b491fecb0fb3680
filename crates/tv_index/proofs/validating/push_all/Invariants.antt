use Rattle.std.proofs.Common.{◌≡◌, ◌++◌, map, take}
use Rattle.std.specs.List.{flat_map}
use Rattle.tv_formats.specs.Segments.{segment_names}
use Rattle.tv_metas.specs.Segments.{entry_of}
use Rattle.tv_index.proofs.validating.push_all.Given as goal

abbrev pub invariant-loop-segment : goal.invariant-loop-segment
invariant-loop-segment l = l.names.items ≡ l.initial.names.items ++ flat_map segment_names (map entry_of (take l.segment-index l.segments))
