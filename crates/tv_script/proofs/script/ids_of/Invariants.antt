use Rattle.std.proofs.Common.{◌≡◌, ℕ, List, ◌++◌, map, drop, Some, Option}
use Rattle.tv_formats.specs.Framing.{◌>>=◌}
use Rattle.tv_script.specs.EventWords.{ids_in}
use Rattle.tv_script.proofs.script.ids_of.Given as goal

-- these ids, and what was read after them
abbrev with_front : List (List ℕ) → Option (List (List ℕ)) → Option (List (List ℕ))
with_front front read = read >>= λ ids. Some (front ++ ids)

abbrev pub invariant-loop-word : goal.invariant-loop-word
invariant-loop-word l = with_front l.ids.items (ids_in (map (λ w. w.now) (drop l.word-index l.words))) ≡ ids_in (map (λ w. w.now) l.words)
