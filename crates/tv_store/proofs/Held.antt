-- Which names the unfinished collections hold, after each change of them.
use Rattle.std.proofs.Common.{◌≡◌, ℕ, Bool, true, false, cond, ◌||◌, List, [], ◌∷◌, ◌++◌, Option, Some, sym, ap, ◌∙◌, arith}
use Rattle.std.specs.Map.{lookup, remove_entry}
use Rattle.std.specs.BTreeMap.{is_at, insert_entry}
use Rattle.std.specs.Ordering.{nat_cmp, match_ordering}
use Rattle.std.specs.declared.cmp.Ordering.{Ordering}
use Rattle.std.specs.declared.cmp.Ordering.TheVariants.{Less, Equal, Greater}
use Rattle.tv_formats.specs.Names.{has}
use Rattle.tv_formats.specs.Collections.{Collection, Collections, begun, collection_at, having_tried, held, taken, with_begun, with_collection, without_collection}
use Rattle.tv_formats.proofs.CollectedNames.{has_append}
use Rattle.tv_formats.proofs.HeldNames.{names_held}

module _ (n : List ℕ) where
  first_taken : (e : ℕ × Collection) (es : List (ℕ × Collection)) → has (names_held (e ∷ es)) n ≡ (has (taken e.1) n || has (names_held es) n)
  first_taken e es = has_append (taken e.1) (names_held es) n

  placed : (r : Ordering) (number : ℕ) (c : Collection) (e : ℕ × Collection) (es rest : List (ℕ × Collection)) → (has (names_held rest) n ≡ true → (has (taken c) n || has (names_held es) n) ≡ true)
      → has (names_held (match_ordering r ((number, c) ∷ e ∷ es) ((e.0, c) ∷ es) (e ∷ rest))) n ≡ true → (has (taken c) n || has (names_held (e ∷ es)) n) ≡ true
  placed Less number c e es rest h k = sym (first_taken (number, c) (e ∷ es)) ∙ k
  placed Equal number c e es rest h k = grind (arith, first_taken (e.0, c) es, first_taken e es, k)
  placed Greater number c e es rest h k = grind (arith, first_taken e rest, first_taken e es, h, k)

  -- one that was put took it, or another one did
  put : (es : List (ℕ × Collection)) (number : ℕ) (c : Collection) → has (names_held (insert_entry nat_cmp es number c)) n ≡ true → (has (taken c) n || has (names_held es) n) ≡ true
  put [] number c h = sym (first_taken (number, c) []) ∙ h
  put (e ∷ es) number c h = placed (nat_cmp number e.0) number c e es (insert_entry nat_cmp es number c) (put es number c) h

  -- a name that is held beside a collection that stands under the next number was held, or that one took it
  pub held_standing : (collections : Collections) (c : Collection) (next : ℕ) → has (held (record { unfinished = insert_entry nat_cmp collections.unfinished collections.next c; next = next })) n ≡ true → (has (taken c) n || has (held collections) n) ≡ true
  held_standing collections c next h = put collections.unfinished collections.next c h

  left : (b : Bool) (e : ℕ × Collection) (es rest : List (ℕ × Collection)) → (has (names_held rest) n ≡ true → has (names_held es) n ≡ true) → has (names_held (cond b es (e ∷ rest))) n ≡ true → has (names_held (e ∷ es)) n ≡ true
  left true e es rest h k = grind (arith, first_taken e es, k)
  left false e es rest h k = grind (arith, first_taken e rest, first_taken e es, h, k)

  -- one less took none else
  cut : (es : List (ℕ × Collection)) (test : ℕ → Bool) → has (names_held (remove_entry test es)) n ≡ true → has (names_held es) n ≡ true
  cut [] test h = h
  cut (e ∷ es) test h = left (test e.0) e es (remove_entry test es) (cut es test) h

  here : (b : Bool) (x : ℕ × Collection) (es : List (ℕ × Collection)) (rest : Option Collection) (c : Collection) → (rest ≡ Some c → has (names_held es) n ≡ true) → cond b (Some x.1) rest ≡ Some c → has (taken c) n ≡ true
      → has (names_held (x ∷ es)) n ≡ true
  here true x es rest c more k h = let same : x.1 ≡ c = cc in grind (arith, first_taken x es, ap (λ (d : Collection). has (taken d) n) same, h)
  here false x es rest c more k h = grind (arith, first_taken x es, more k)

  -- what an unfinished collection took is held
  found : (es : List (ℕ × Collection)) (test : ℕ → Bool) (c : Collection) → lookup test es ≡ Some c → has (taken c) n ≡ true → has (names_held es) n ≡ true
  found [] test c e h = absurd cc
  found (x ∷ es) test c e h = here (test x.0) x es (lookup test es) c (λ k. found es test c k h) e h

  pub held_taken : (collections : Collections) (number : ℕ) (c : Collection) → collection_at collections number ≡ Some c → has (taken c) n ≡ true → has (held collections) n ≡ true
  held_taken collections number c there h = found collections.unfinished (is_at (nat_cmp number)) c there h

  -- a name that is held after a collection began is one of its names, or was held
  pub held_begun : (collections : Collections) (names : List (List ℕ)) → has (held (with_begun collections names)) n ≡ true → (has names n || has (held collections) n) ≡ true
  held_begun collections names h = put collections.unfinished collections.next (begun names) h

  -- the names of a collection are the same after one was tried
  taken_tried : (c : Collection) (name : List ℕ) (left : List (List ℕ)) (done : Bool) → c.untried ≡ name ∷ left → has (taken (having_tried c name left done)) n ≡ has (taken c) n
  taken_tried c name left true is =
      grind (arith, has_append ((c.done ++ name ∷ []) ++ c.failed) left n, has_append (c.done ++ name ∷ []) c.failed n, has_append c.done (name ∷ []) n, has_append (c.done ++ c.failed) c.untried n, has_append c.done c.failed n, ap (λ (names : List (List ℕ)). has names n) is)
  taken_tried c name left false is =
      grind (arith, has_append (c.done ++ (c.failed ++ name ∷ [])) left n, has_append c.done (c.failed ++ name ∷ []) n, has_append c.failed (name ∷ []) n, has_append (c.done ++ c.failed) c.untried n, has_append c.done c.failed n, ap (λ (names : List (List ℕ)). has names n) is)

  pub held_tried : (collections : Collections) (number : ℕ) (c : Collection) (name : List ℕ) (left : List (List ℕ)) (done : Bool) → collection_at collections number ≡ Some c → c.untried ≡ name ∷ left
      → has (held (with_collection collections number (having_tried c name left done))) n ≡ true → has (held collections) n ≡ true
  held_tried collections number c name left done there is h =
      grind (arith, put collections.unfinished number (having_tried c name left done) h, taken_tried c name left done is, held_taken collections number c there)

  pub held_ended : (collections : Collections) (number : ℕ) → has (held (without_collection collections number)) n ≡ true → has (held collections) n ≡ true
  held_ended collections number h = cut collections.unfinished (is_at (nat_cmp number)) h
