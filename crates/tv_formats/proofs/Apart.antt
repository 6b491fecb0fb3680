-- Ids that are looked up one by one in a set of those before them.
use Rattle.std.proofs.Common.{◌≡◌, Bool, true, false, not, cond, ◌&&◌, ◌||◌, List, [], ◌∷◌, ℕ, refl, arith}
use Rattle.std.specs.List.{list_any}
use Rattle.std.specs.Ordering.{nat_cmp, is_eq}
use Rattle.std.specs.Cmp.Lexicographic.{slice_cmp}
use Rattle.std.proofs.lemmas.Cmp.{nat_list_eq_equiv}
use Rattle.std.proofs.lemmas.Map.Text.{is_eq-slice_cmp}
use Rattle.tv_formats.specs.Names.{is}
use Rattle.tv_formats.specs.Ids.{are_distinct}

-- the ids are none of those seen, and differ
abbrev pub are_news : (List ℕ → Bool) → List (List ℕ) → Bool
are_news seen ids = not (list_any seen ids) && are_distinct ids

none_seen : (seen : List ℕ → Bool) → ((id : List ℕ) → seen id ≡ false) → (ids : List (List ℕ)) → list_any seen ids ≡ false
none_seen seen none [] = refl
none_seen seen none (id ∷ ids) = grind (arith, none id, none_seen seen none ids)

-- where none is seen, all that differ are news
pub first : (seen : List ℕ → Bool) → ((id : List ℕ) → seen id ≡ false) → (ids : List (List ℕ)) → are_distinct ids ≡ are_news seen ids
first seen none ids = grind (arith, none_seen seen none ids)

-- what is seen after one more
abbrev pub Adds : (List ℕ → Bool) → (List ℕ → Bool) → List ℕ → Type 0
Adds before after id = (q : List ℕ) → after q ≡ cond (is_eq (slice_cmp nat_cmp id q)) true (before q)

seen_more : (before after : List ℕ → Bool) (id : List ℕ) → Adds before after id → (ids : List (List ℕ)) → list_any after ids ≡ (list_any (λ other. is other id) ids || list_any before ids)
seen_more before after id adds [] = refl
seen_more before after id adds (q ∷ qs) =
    grind (arith, adds q, is_eq-slice_cmp id q, nat_list_eq_equiv.symm id q, seen_more before after id adds qs)

-- an id that was not seen goes to those seen
pub more : (before after : List ℕ → Bool) (id : List ℕ) → Adds before after id → before id ≡ false → (ids : List (List ℕ)) → are_news before (id ∷ ids) ≡ are_news after ids
more before after id adds new ids = grind (arith, new, seen_more before after id adds ids)
