use Rattle.std.proofs.Common.{◌≡◌, ℕ, List}
use Rattle.std.specs.List.{list_any}
use Rattle.tv_formats.specs.Names.{has}
use Rattle.tv_formats.specs.Collections.{taken}
use Rattle.tv_managed.specs.Collecting.{texts_of}
use Rattle.tv_managed.proofs.collection.Collections.held.Given as goal

abbrev pub invariant-loop-collection : goal.invariant-loop-collection
invariant-loop-collection l = (n : List ℕ) → has (texts_of l.names.keys) n ≡ list_any (λ c. has (taken c.now) n) l.yielded
