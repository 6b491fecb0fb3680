use Rattle.std.proofs.Common.{◌≡◌, ◌++◌, map}
use Rattle.tv_snapshots.proofs.FileNames.{required_in}
use Rattle.tv_snapshots.proofs.names.push_required.Given as goal

abbrev pub invariant-loop-component : goal.invariant-loop-component
invariant-loop-component l = l.names.items ≡ l.initial.names.items ++ required_in l.id l.segment (map (λ component. component.now) l.yielded)
