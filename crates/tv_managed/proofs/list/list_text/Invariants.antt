use Rattle.std.proofs.Common.{◌≡◌, [], ◌∷◌, map, string_bytes}
use Rattle.json.specs.Token.{begin_array, string}
use Rattle.tv_managed.proofs.list.list_text.Given as goal

abbrev pub invariant-loop-name : goal.invariant-loop-name
invariant-loop-name l = record {
  before : l.list.before ≡ [];
  tokens : l.list.tokens ≡ begin_array ∷ map (λ name. string (string_bytes name.now)) l.yielded;
}
