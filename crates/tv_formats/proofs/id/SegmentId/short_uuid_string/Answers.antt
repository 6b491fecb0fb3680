use Rattle.std.proofs.Common.{rules, ◌≡◌, List, ℕ, [], ◌∷◌, take, refl, ap, ◌∙◌}
use Rattle.hex.specs.Hex.{encode_lower, encode_with}
use Rattle.tv_formats.proofs.id.SegmentId.short_uuid_string.Goals as goal

-- the digits of the first four bytes are the first eight
first_digits : (bytes : List ℕ) → encode_lower (take 4 bytes) ≡ take 8 (encode_lower bytes)
unfolding encode_with
first_digits [] = refl
first_digits (a ∷ []) = refl
first_digits (a ∷ b ∷ []) = refl
first_digits (a ∷ b ∷ c ∷ []) = refl
first_digits (a ∷ b ∷ c ∷ d ∷ bytes) = refl

pub returns : goal.returns
returns c = c.in_ok-text.ensures ∙ first_digits _ ∙ ap (λ (bytes : List ℕ). take 8 (encode_lower bytes)) (search rules)
