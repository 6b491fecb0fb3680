use Rattle.std.proofs.Common.{◌≡◌, List, ℕ}
use Rattle.tv_formats.specs.Collections.{begun, collection_at}
use Rattle.tv_managed.specs.Collecting.{OnlyDeletes, standing}
use Rattle.tv_managed.specs.Crashes.{TriesSafely}
use Rattle.tv_managed.specs.Names.{ManagedNames}
use Rattle.tv_managed.proofs.Trying.{left_of}
use Rattle.tv_managed.proofs.managed_directory.ManagedDirectory.try_each.Given as goal

abbrev pub invariant-loop-self : goal.invariant-loop-self
invariant-loop-self g l = record {
  some : (before : ManagedNames) (names : List (List ℕ)) → l.initial.self.1 ≡ standing before (begun names) → l.number ≡ before.collections.next → TriesSafely g.D.Directory before names l.initial.self l.self;
  only : OnlyDeletes g.D.Directory l.initial.self l.self;
}

abbrev pub decreases-loop-self : goal.decreases-loop-self
decreases-loop-self g l = left_of (collection_at l.self.1.collections l.number)
