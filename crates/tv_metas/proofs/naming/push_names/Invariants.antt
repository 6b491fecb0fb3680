use Rattle.std.proofs.Common.{◌≡◌, ◌++◌, map}
use Rattle.tv_formats.specs.Segments.{name_of}
use Rattle.tv_metas.proofs.naming.push_names.Given as goal

abbrev pub invariant-loop-component : goal.invariant-loop-component
invariant-loop-component l = l.names.items ≡ l.initial.names.items ++ map (name_of l.id l.segment.deletes) (map (λ component. component.now) l.yielded)
