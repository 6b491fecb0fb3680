-- What a search answers, by what the query, its weight and the collector may answer.
use Rattle.std.specs.Prelude.{◌≡◌, ◌⊎◌, ℕ, min, List, Result, Ok, Err}
use Rattle.std.specs.List.{enumerate_from}
use Rattle.tv_base.specs.Maps.{Answers, IsFirstError}

-- the place that a segment is told, which stays at the largest number of 32 bits
abbrev pub told_place : ℕ → ℕ
told_place i = min i 4294967295

-- what a segment at a place gives: what the collector makes of the documents that match there, or the weight's
-- error
abbrev pub GivesChild : {S C E : Type 0} → (matched : ℕ → S → Result (List ℕ) E → Type 0)
    → (collected : List ℕ → ℕ → S → Result C E → Type 0) → ℕ × S → Result C E → Type 0
GivesChild {E = E} matched collected at r =
    ((docs : List ℕ) × matched (told_place at.0) at.1 (Ok docs) × collected docs (told_place at.0) at.1 r)
    ⊎ ((e : E) × matched (told_place at.0) at.1 (Err e) × (r ≡ Err e))

-- The merge of what the segments give, each at its place and in their order; or the error of the first that
-- gives one, where those before it give theirs.
abbrev pub MergesBy : {S C F E : Type 0} → (matched : ℕ → S → Result (List ℕ) E → Type 0)
    → (collected : List ℕ → ℕ → S → Result C E → Type 0) → (merged : List C → Result F E → Type 0)
    → List S → Result F E → Type 0
MergesBy {C = C} {E = E} matched collected merged segments r =
    ((children : List C) × Answers (GivesChild matched collected) (enumerate_from 0 segments) children
    × merged children r)
    ⊎ ((e : E) × IsFirstError (GivesChild matched collected) (enumerate_from 0 segments) e × (r ≡ Err e))

-- The answer of a search: want of memory; or, in this order, the query's error in place of a weight, the
-- collector's error about the schema, or the merge of what the segments give by that weight.
abbrev pub Searched : {W S C F E : Type 0} → (memory : E) → (weighed : Result W E → Type 0)
    → (checked : Result (Unit {0}) E → Type 0) → (matched : W → ℕ → S → Result (List ℕ) E → Type 0)
    → (collected : List ℕ → ℕ → S → Result C E → Type 0) → (merged : List C → Result F E → Type 0)
    → List S → Result F E → Type 0
Searched {W} {E = E} memory weighed checked matched collected merged segments r =
    (r ≡ Err memory) ⊎ (((e : E) × weighed (Err e) × (r ≡ Err e))
    ⊎ ((w : W) × weighed (Ok w) × (((e : E) × checked (Err e) × (r ≡ Err e))
    ⊎ (checked (Ok tt) × MergesBy (matched w) collected merged segments r))))

-- an error that no segment gave: memory was wanted, or it is the query's in place of a weight, the collector's
-- about the schema, or the collector's in place of a merge
abbrev pub IsRefused : {W C F E : Type 0} → (memory : E) → (weighed : Result W E → Type 0)
    → (checked : Result (Unit {0}) E → Type 0) → (merged : List C → Result F E → Type 0) → E → Type 0
IsRefused {C = C} memory weighed checked merged e =
    (e ≡ memory) ⊎ (weighed (Err e) ⊎ (checked (Err e) ⊎ ((children : List C) × merged children (Err e))))
