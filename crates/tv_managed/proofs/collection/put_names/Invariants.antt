use Rattle.std.proofs.Common.{◌≡◌, ◌++◌, ℕ, List, take}
use Rattle.tv_formats.specs.Names.{has}
use Rattle.tv_managed.specs.Collecting.{names_of, texts_of}
use Rattle.tv_managed.proofs.collection.put_names.Given as goal

abbrev pub invariant-loop-name : goal.invariant-loop-name
invariant-loop-name l = (n : List ℕ) → has (texts_of l.set.keys) n ≡ has (texts_of l.initial.set.keys ++ names_of (take l.name-index l.names)) n
