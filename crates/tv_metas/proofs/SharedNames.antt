-- The names among others, one name further.
use Rattle.std.proofs.Common.{◌≡◌, ℕ, Bool, cond, List, [], ◌∷◌, ◌++◌, Result, Ok, Err, ap, ◌∙◌}
use Rattle.std.specs.Prelude.{OnOk}
use Rattle.std.specs.List.{filter}
use Rattle.std.proofs.lemmas.List.Elements.{filter-append}
use Rattle.tv_formats.specs.Names.{has}

pub shared_last : (others names : List (List ℕ)) (name : List ℕ) → filter (has others) (names ++ name ∷ []) ≡ filter (has others) names ++ filter (has others) (name ∷ [])
shared_last others names name = filter-append (has others) names (name ∷ [])

pub is_shared : (others : List (List ℕ)) (name text : List ℕ) (b : Bool) → b ≡ has others text → text ≡ name → cond b (name ∷ []) [] ≡ filter (has others) (name ∷ [])
is_shared others name text b e t = ap (λ (c : Bool). cond c (name ∷ []) []) (e ∙ ap (has others) t)

-- at Ok one fact from another
pub ok_as : {A E : Type 0} (result : Result A E) (P Q : Type 0) → (P → Q) → OnOk result P → OnOk result Q
ok_as (Ok a) P Q f h = f h
ok_as (Err e) P Q f h = tt
