-- The spellings of some numbers, computed.
use Rattle.std.specs.Prelude.{◌≡◌, [], ◌∷◌}
use Rattle.std.proofs.Common.{refl}
use Rattle.tv_formats.specs.VInt.{vint}

none : vint 0 ≡ 128 ∷ []
none = refl

one_group : vint 127 ≡ 255 ∷ []
one_group = refl

two_groups : vint 128 ≡ 0 ∷ 129 ∷ []
two_groups = refl
