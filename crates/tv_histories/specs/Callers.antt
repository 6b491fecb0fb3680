-- Several callers in one list.
use Rattle.std.specs.Prelude.{◌≡◌, ◌<◌, ◌==◌, ℕ, List, [], ◌∷◌, length, if◌then◌else◌, Some}
use Rattle.std.specs.List.{slice_get}

-- the items of one caller, where the first list says whose each is
abbrev pub of_caller : {A : Type 0} → ℕ → List ℕ → List A → List A
of_caller k [] xs = []
of_caller k (t ∷ ts) [] = []
of_caller k (t ∷ ts) (x ∷ xs) = if t == k then x ∷ of_caller k ts xs else of_caller k ts xs

-- A list is made of these lists, each in its order.
pub record Interleaves {A : Type 0} (lists : List (List A)) (all : List A) : Type 0 where
  -- whose each item is
  pub callers : List ℕ
  pub long : length callers ≡ length all
  pub known : (i k : ℕ) → slice_get callers i ≡ Some k → k < length lists
  pub each : (k : ℕ) (l : List A) → slice_get lists k ≡ Some l → of_caller k callers all ≡ l
