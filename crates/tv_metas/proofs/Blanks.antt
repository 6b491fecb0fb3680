-- The blanks that are left out byte by byte are those outside the string literals.
use Rattle.std.proofs.Common.{◌≡◌, ℕ, Bool, true, false, cond, ◌==◌, List, [], ◌∷◌, ◌++◌, refl, sym, ap, ◌∙◌, true≢false, eqb-true}
use Rattle.tv_formats.specs.Schemas.{is_blank, stripped, stripped_inside, stripped_escaped}
use Rattle.tv_metas.specs.declared.stripping.Place.TheVariants.{Outside, Inside, Escaped}
use Rattle.tv_metas.specs.Stripping.{stripped_from}

-- a quotation mark is no blank
outside_step : (b : ℕ) (bytes : List ℕ) (blank quote : Bool) → is_blank b ≡ blank → (b == 34) ≡ quote
    → stripped bytes ≡ stripped_from Outside bytes → stripped_inside bytes ≡ stripped_from Inside bytes
    → cond blank (stripped bytes) (b ∷ cond quote (stripped_inside bytes) (stripped bytes)) ≡ cond blank [] (b ∷ []) ++ stripped_from
    (cond quote Inside Outside) bytes
outside_step b bytes true true is mark out inside = let no : is_blank b ≡ false = ap is_blank (eqb-true b 34 mark) in absurd (true≢false (sym is ∙ no))
outside_step b bytes true false is mark out inside = out
outside_step b bytes false true is mark out inside = ap (λ (l : List ℕ). b ∷ l) inside
outside_step b bytes false false is mark out inside = ap (λ (l : List ℕ). b ∷ l) out

inside_step : (b : ℕ) (bytes : List ℕ) (quote slash : Bool)
    → stripped bytes ≡ stripped_from Outside bytes → stripped_inside bytes ≡ stripped_from Inside bytes → stripped_escaped bytes ≡ stripped_from Escaped bytes
    → b ∷ cond quote (stripped bytes) (cond slash (stripped_escaped bytes) (stripped_inside bytes)) ≡ b ∷ stripped_from
    (cond quote Outside (cond slash Escaped Inside)) bytes
inside_step b bytes true slash out inside escaped = ap (λ (l : List ℕ). b ∷ l) out
inside_step b bytes false true out inside escaped = ap (λ (l : List ℕ). b ∷ l) escaped
inside_step b bytes false false out inside escaped = ap (λ (l : List ℕ). b ∷ l) inside

mutual
  pub from_outside : (bytes : List ℕ) → stripped bytes ≡ stripped_from Outside bytes
  from_outside [] = refl
  from_outside (b ∷ bytes) = outside_step b bytes (is_blank b) (b == 34) refl refl (from_outside bytes) (from_inside bytes)

  from_inside : (bytes : List ℕ) → stripped_inside bytes ≡ stripped_from Inside bytes
  from_inside [] = refl
  from_inside (b ∷ bytes) = inside_step b bytes (b == 34) (b == 92) (from_outside bytes) (from_inside bytes) (from_escaped bytes)

  from_escaped : (bytes : List ℕ) → stripped_escaped bytes ≡ stripped_from Escaped bytes
  from_escaped [] = refl
  from_escaped (b ∷ bytes) = ap (λ (l : List ℕ). b ∷ l) (from_inside bytes)
