-- Segments that are chosen by their ids, one after the other.
use Rattle.std.proofs.Common.{◌≡◌, ℕ, List, [], ◌∷◌, ◌++◌, Option, Some, None, refl, ap, ◌∙◌}
use Rattle.std.specs.Prelude.{filter_map}
use Rattle.std.specs.BTreeMap.{is_at}
use Rattle.std.specs.List.{cons_option, list_any}
use Rattle.tv_formats.specs.Names.{byte_cmp, has}
use Rattle.tv_formats.proofs.Entries.{is_by_order}

-- one more that is there
pub more_there : {X Y : Type 0} (h : X → Option Y) (xs : List X) (x : X) (y : Y) → h x ≡ Some y → filter_map h (xs ++ x ∷ []) ≡ filter_map h xs ++ y ∷ []
more_there h [] x y is = ap (λ o. cons_option o []) is
more_there {Y = Y} h (z ∷ xs) x y is = ap (cons_option (h z)) (more_there h xs x y is) ∙ put_before (h z)
  where
    put_before : (o : Option Y) → cons_option o (filter_map h xs ++ y ∷ []) ≡ cons_option o (filter_map h xs) ++ y ∷ []
    put_before None = refl
    put_before (Some w) = refl

-- one more that isn't
pub more_absent : {X Y : Type 0} (h : X → Option Y) (xs : List X) (x : X) → h x ≡ None → filter_map h (xs ++ x ∷ []) ≡ filter_map h xs
more_absent h [] x is = ap (λ o. cons_option o []) is
more_absent h (z ∷ xs) x is = ap (cons_option (h z)) (more_absent h xs x is)

-- whether an id is in a set
pub had : (keys : List (List ℕ)) (id : List ℕ) → list_any (is_at (byte_cmp id)) keys ≡ has keys id
had [] id = refl
had (key ∷ keys) id = rw (is_by_order id key, had keys id) refl
