use Rattle.std.proofs.Common.{◌≡◌, ◌++◌, map, string_bytes}
use Rattle.tv_formats.specs.Collections.{collectable}
use Rattle.tv_managed.specs.Collecting.{names_of, texts_of}
use Rattle.tv_managed.proofs.collecting.names_to_collect.Given as goal

abbrev pub invariant-loop-name : goal.invariant-loop-name
invariant-loop-name l = texts_of l.names.items ≡ collectable (names_of l.living.keys ++ texts_of l.held.keys) (map (λ name. string_bytes name.now) l.yielded)
