use Rattle.std.specs.Prelude.{◌≡◌}
use Rattle.tv_publishing.specs.Lists.{IsPrefix}
use Rattle.tv_publishing.proofs.read_handle.ReadHandle.learn.Given as goal

abbrev pub invariant-loop : goal.invariant-loop
invariant-loop g l =
    (goal.iterator-loop g).can_next l.iterator' × (goal.iterator-loop g).is_finite l.iterator'
    × IsPrefix l.initial.self.known l.self.known × (l.self.read ≡ l.initial.self.read)
