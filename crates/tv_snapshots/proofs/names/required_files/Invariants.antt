use Rattle.std.proofs.Common.{◌≡◌}
use Rattle.std.specs.List.{flat_map}
use Rattle.tv_formats.specs.Segments.{required_names}
use Rattle.tv_snapshots.proofs.names.required_files.Given as goal

abbrev pub invariant-loop-id : goal.invariant-loop-id
invariant-loop-id l = l.names.items ≡ flat_map (λ e. required_names e.0.now e.1.now) l.yielded
