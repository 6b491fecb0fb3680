use Rattle.std.proofs.Common.{◌≡◌, map}
use Rattle.tv_metas.specs.Segments.{entry_of}
use Rattle.tv_metas.proofs.segments.metas_of.Given as goal

abbrev pub invariant-loop-id : goal.invariant-loop-id
invariant-loop-id l = map entry_of l.segments.items ≡ map (λ e. (e.0.now, e.1.now)) l.yielded
