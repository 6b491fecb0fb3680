-- How the blanks of a text are left out, byte by byte.
use Rattle.std.specs.Prelude.{ℕ, List, [], ◌∷◌, ◌++◌, ◌==◌, Bool, false, if◌then◌else◌}
use Rattle.tv_formats.specs.Schemas.{is_blank}
use Rattle.tv_metas.specs.declared.stripping.Place.{Place}
use Rattle.tv_metas.specs.declared.stripping.Place.TheVariants.{Outside, Inside, Escaped}

-- where the byte behind one stands
abbrev pub place_after : Place → ℕ → Place
place_after Outside b = if b == 34 then Inside else Outside
place_after Inside b = if b == 34 then Outside else if b == 92 then Escaped else Inside
place_after Escaped b = Inside

-- whether a byte is left out of the stripped text: a blank outside of strings
abbrev pub is_left_out : Place → ℕ → Bool
is_left_out Outside b = is_blank b
is_left_out Inside b = false
is_left_out Escaped b = false

-- the text without the blanks outside of strings, from a place on
abbrev pub stripped_from : Place → List ℕ → List ℕ
stripped_from place [] = []
stripped_from place (b ∷ bytes) =
    (if is_left_out place b then [] else b ∷ []) ++ stripped_from (place_after place b) bytes
