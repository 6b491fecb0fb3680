-- A list of segments in the order of their ids is the map that is made of it.
use Rattle.std.proofs.Common.{◌≡◌, ℕ, List, [], ◌∷◌, ◌++◌, map, refl, sym, ap, ◌∙◌, subst, ◌+◌, ◌<◌, length, get_or, take, drop}
use Rattle.std.specs.BTreeMap.{insert_entry}
use Rattle.std.specs.Cmp.Lexicographic.{nat_list_cmp_total}
use Rattle.std.specs.declared.cmp.Ordering.{Ordering}
use Rattle.std.specs.declared.cmp.Ordering.TheVariants.{Less, Greater}
use Rattle.std.specs.List.{AllByRecursion}
use Rattle.std.specs.Ordering.{match_ordering, ordering_reverse}
use Rattle.std.proofs.lemmas.List.{take_more}
use Rattle.std.proofs.lemmas.Map.Keys.{sorted_head, sorted_tail}
use Rattle.tv_formats.specs.declared.segment.LiveSegment.{LiveSegment}
use Rattle.tv_formats.specs.Names.{byte_cmp}
use Rattle.tv_snapshots.specs.SegmentOrder.{IsSorted}
use Rattle.tv_snapshots.proofs.ListLaws.{split_there}

abbrev Entry : Type 0
Entry = List ℕ × LiveSegment

-- an entry behind all others stands at the end
insert_last : (front : List Entry) (e : Entry) → AllByRecursion (λ (x : Entry). byte_cmp e.0 x.0 ≡ Greater) front → insert_entry byte_cmp front e.0 e.1 ≡ front ++ e ∷ []
insert_last [] e h = refl
insert_last (x ∷ front) e h =
    ap (λ (r : Ordering). match_ordering r ((e.0, e.1) ∷ x ∷ front) ((x.0, e.1) ∷ front) (x ∷ insert_entry byte_cmp front e.0 e.1)) h.0
    ∙ ap (λ (l : List Entry). x ∷ l) (insert_last front e h.1)

among : (P : List ℕ → Type 0) (es : List Entry) (e : Entry) (fs : List Entry) → AllByRecursion P (map (λ (x : Entry). x.0) (es ++ e ∷ fs)) → P e.0
among P [] e fs h = h.0
among P (x ∷ es) e fs h = among P es e fs h.1

behind : (front : List Entry) (e : Entry) (rest : List Entry) → IsSorted (front ++ e ∷ rest) → AllByRecursion (λ (x : Entry). byte_cmp e.0 x.0 ≡ Greater) front
behind [] e rest o = tt
behind (x ∷ front) e rest o =
    let below : byte_cmp x.0 e.0 ≡ Less = among (λ (y : List ℕ). byte_cmp x.0 y ≡ Less) front e rest (sorted_head byte_cmp x.0 (map (λ (y : Entry). y.0) (front ++ e ∷ rest)) o) in (
      nat_list_cmp_total.antisymm e.0 x.0 ∙ ap ordering_reverse below,
      behind front e rest (sorted_tail byte_cmp x.0 (map (λ (y : Entry). y.0) (front ++ e ∷ rest)) o),
    )

-- one more of a sorted list goes to the end
pub next_entry : (front : List Entry) (e : Entry) (rest : List Entry) → IsSorted (front ++ e ∷ rest) → insert_entry byte_cmp front e.0 e.1 ≡ front ++ e ∷ []
next_entry front e rest o = insert_last front e (behind front e rest o)

map_joined : {A : Type 0} (f : A → Entry) (xs ys : List A) → map f (xs ++ ys) ≡ map f xs ++ map f ys
map_joined f [] ys = refl
map_joined f (x ∷ xs) ys = ap (λ (es : List Entry). f x ∷ es) (map_joined f xs ys)

-- after one more of them
pub next_segment : {A : Type 0} (f : A → Entry) (xs : List A) (i : ℕ) (x : A) (before after : List Entry) → i < length xs → x ≡ get_or xs i x → after ≡ insert_entry byte_cmp before (f x).0 (f x).1
    → (IsSorted (map f xs) → before ≡ map f (take i xs)) → IsSorted (map f xs) → after ≡ map f (take (i + 1) xs)
next_segment {A} f xs i x before after within at_i put so_far sorted =
    let split : map f xs ≡ map f (take i xs) ++ f x ∷ map f (drop (i + 1) xs) = ap (map f) (split_there xs i x within at_i) ∙ map_joined f (take i xs) (x ∷ drop (i + 1) xs) in
    let front : take (i + 1) xs ≡ take i xs ++ x ∷ [] = take_more xs i x within ∙ ap (λ (y : A). take i xs ++ y ∷ []) (sym at_i) in
    put
    ∙ ap (λ (es : List Entry). insert_entry byte_cmp es (f x).0 (f x).1) (so_far sorted)
    ∙ next_entry (map f (take i xs)) (f x) (map f (drop (i + 1) xs)) (subst IsSorted split sorted)
    ∙ sym (map_joined f (take i xs) (x ∷ []))
    ∙ sym (ap (map f) front)
