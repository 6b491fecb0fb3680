-- Ids and scripts that the computed examples share.
use Rattle.std.proofs.Common.{ℕ, List, [], ◌∷◌}

-- `a5c4dfcbdfe645089129e308e26d5523`
abbrev pub id_a : List ℕ
id_a = 165 ∷ 196 ∷ 223 ∷ 203 ∷ 223 ∷ 230 ∷ 69 ∷ 8 ∷ 145 ∷ 41 ∷ 227 ∷ 8 ∷ 226 ∷ 109 ∷ 85 ∷ 35 ∷ []

-- `00000000000000000000000000000001`
abbrev pub id_b : List ℕ
id_b = 0 ∷ 0 ∷ 0 ∷ 0 ∷ 0 ∷ 0 ∷ 0 ∷ 0 ∷ 0 ∷ 0 ∷ 0 ∷ 0 ∷ 0 ∷ 0 ∷ 0 ∷ 1 ∷ []

-- `00000000000000000000000000000002`
abbrev pub id_c : List ℕ
id_c = 0 ∷ 0 ∷ 0 ∷ 0 ∷ 0 ∷ 0 ∷ 0 ∷ 0 ∷ 0 ∷ 0 ∷ 0 ∷ 0 ∷ 0 ∷ 0 ∷ 0 ∷ 2 ∷ []
