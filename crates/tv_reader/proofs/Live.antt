-- What a reader shows is live.
use Rattle.std.proofs.Common.{◌≡◌, ◌<◌, ℕ, Bool, true, false, ◌||◌, cond, List, [], ◌∷◌, ◌++◌, map, eqb, find, refl, ap, ◌∙◌, arith}
use Rattle.std.specs.List.{list_any}
use Rattle.tv_base.specs.declared.inventory.Entry.{Entry}
use Rattle.tv_base.specs.Entries.{is_last, is_numbered, one_fewer, released, tracked}
use Rattle.tv_base.specs.Places.{change_at, take_out}
use Rattle.tv_reader.specs.Readers.{ReaderState, published, shows_live}
use Rattle.tv_reader.specs.Searchers.{CommitRead, CommitShown, Generation, shown_as}

later : (b c : Bool) → c ≡ true → (b || c) ≡ true
later true c h = refl
later false c h = h

or_false : (b : Bool) → b ≡ true → (b || false) ≡ true
or_false true h = refl
or_false false h = h

module _ {X : Type 0} (test : X → Bool) (p : X → Bool) (last : X) (other : p last ≡ false) (is : test last ≡ true) where
  at_end : (xs : List X) → list_any test (xs ++ last ∷ []) ≡ true
  at_end [] = or_false (test last) is
  at_end (x ∷ xs) = later (test x) (list_any test (xs ++ last ∷ [])) (at_end xs)

  after_taking : (xs : List X) → list_any test (take_out p (xs ++ last ∷ [])) ≡ true
  after_taking [] = ap (λ (b : Bool). list_any test (cond b [] (last ∷ []))) other ∙ or_false (test last) is
  after_taking (x ∷ xs) = by_case (p x) (after_taking xs) where
    by_case : (b : Bool) → list_any test (take_out p (xs ++ last ∷ [])) ≡ true → list_any test (cond b (xs ++ last ∷ []) (x ∷ take_out p (xs ++ last ∷ []))) ≡ true
    by_case true h = at_end xs
    by_case false h = later (test x) (list_any test (take_out p (xs ++ last ∷ []))) h

  after_change : (f : X → X) (xs : List X) → list_any test (change_at p f (xs ++ last ∷ [])) ≡ true
  after_change f [] = ap (λ (b : Bool). list_any test (cond b (f last ∷ []) (last ∷ []))) other ∙ or_false (test last) is
  after_change f (x ∷ xs) = by_case (p x) (after_change f xs) where
    by_case : (b : Bool) → list_any test (change_at p f (xs ++ last ∷ [])) ≡ true → list_any test (cond b (f x ∷ xs ++ last ∷ []) (x ∷ change_at p f (xs ++ last ∷ []))) ≡ true
    by_case true h = later (test (f x)) (list_any test (xs ++ last ∷ [])) (at_end xs)
    by_case false h = later (test x) (list_any test (change_at p f (xs ++ last ∷ []))) h

any_map : {X Y : Type 0} (f : X → Y) (test : Y → Bool) (xs : List X) → list_any test (map f xs) ≡ list_any (λ x. test (f x)) xs
any_map f test [] = refl
any_map f test (x ∷ xs) = ap (λ (b : Bool). test (f x) || b) (any_map f test xs)

-- a ticket is given back, and what was tracked under a later one stays
stays : (ticket next : ℕ) (value : CommitShown) (es : List (Entry CommitShown)) → ticket < next
    → list_any (λ e. eqb e.value.generation.id value.generation.id) (released ticket (tracked next value es)) ≡ true
stays ticket next value es below = by_case (is_last (find (is_numbered ticket) (tracked next value es))) where
  last : Entry CommitShown
  last = record { number = next; count = 1; value = value }

  test : Entry CommitShown → Bool
  test e = eqb e.value.generation.id value.generation.id

  other : is_numbered ticket last ≡ false
  other = grind (arith, below)

  is : test last ≡ true
  is = grind arith

  by_case : (b : Bool) → list_any test (cond b (take_out (is_numbered ticket) (tracked next value es)) (change_at (is_numbered ticket) one_fewer (tracked next value es))) ≡ true
  by_case true = after_taking test (is_numbered ticket) last other is es
  by_case false = after_change test (is_numbered ticket) last other is one_fewer es

-- a commit that was just published is live
pub shown_is_live : (s new : ReaderState) (commit : CommitRead) → s.shown.ticket < s.searchers.next → new ≡ published s commit → shows_live new ≡ true
shown_is_live s new commit below is =
    ap shows_live is
    ∙ (any_map (λ (e : Entry CommitShown). e.value.generation) (λ (g : Generation). eqb g.id s.next) (published s commit).searchers.entries
    ∙ stays s.shown.ticket s.searchers.next (shown_as s.next commit) s.searchers.entries below)
