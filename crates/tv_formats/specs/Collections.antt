-- Collections of files: what they do with names, and those that aren't finished.
use Rattle.std.specs.Prelude.{ℕ, ◌≡◌, ◌+◌, ◌<◌, List, [], ◌∷◌, ◌++◌, Bool, true, false, not, filter, Option, if◌then◌else◌}
use Rattle.std.specs.BTreeMap.{is_at, insert_entry}
use Rattle.std.specs.List.{flat_map, AllByRecursion}
use Rattle.std.specs.Map.{lookup, remove_entry}
use Rattle.std.specs.Ordering.{nat_cmp}
use Rattle.tv_formats.specs.Names.{has}

-- the names that were done, where the outcomes say which: false where the delete was refused (names without
-- an outcome are done)
abbrev pub done_of : List (List ℕ) → List Bool → List (List ℕ)
done_of [] outcomes = []
done_of (name ∷ names) [] = name ∷ names
done_of (name ∷ names) (true ∷ outcomes) = name ∷ done_of names outcomes
done_of (name ∷ names) (false ∷ outcomes) = done_of names outcomes

-- the names whose delete was refused, where the outcomes say which (names without an outcome are done)
abbrev pub failed_of : List (List ℕ) → List Bool → List (List ℕ)
failed_of [] outcomes = []
failed_of (name ∷ names) [] = []
failed_of (name ∷ names) (true ∷ outcomes) = failed_of names outcomes
failed_of (name ∷ names) (false ∷ outcomes) = name ∷ failed_of names outcomes

-- the managed names that aren't among those that are needed, in their order
abbrev pub collectable : (needed managed : List (List ℕ)) → List (List ℕ)
collectable needed managed = filter (λ name. not (has needed name)) managed

-- the names without these
abbrev pub without : (gone names : List (List ℕ)) → List (List ℕ)
without gone names = filter (λ name. not (has gone name)) names

-- a collection that isn't finished: the names that are yet to be tried, in their order, those that are done,
-- and those that failed
pub record Collection : Type 0 where
  pub untried : List (List ℕ)
  pub done : List (List ℕ)
  pub failed : List (List ℕ)

-- each number is below those after it
abbrev pub Rises : {X : Type 0} → List (ℕ × X) → Type 0
Rises [] = Unit {0}
Rises (e ∷ es) = AllByRecursion (λ f. e.0 < f.0) es × Rises es

-- the unfinished collections by their numbers, and the number that the next one gets
pub record Collections : Type 0 where
  pub unfinished : List (ℕ × Collection)
  pub next : ℕ

-- no collection was begun
abbrev pub no_collections : Collections
no_collections = record { unfinished = []; next = 0 }

-- the names that a collection took
abbrev pub taken : Collection → List (List ℕ)
taken c = c.done ++ c.failed ++ c.untried

-- the names that unfinished collections hold
abbrev pub held : Collections → List (List ℕ)
held collections = flat_map (λ e. taken e.1) collections.unfinished

-- the unfinished collection of this number
abbrev pub collection_at : Collections → ℕ → Option Collection
collection_at collections number = lookup (is_at (nat_cmp number)) collections.unfinished

-- a collection that took these names, and tried none so far
abbrev pub begun : List (List ℕ) → Collection
begun names = record { untried = names; done = []; failed = [] }

-- a collection that has tried one name more, and has these left: the name is done, or it failed
abbrev pub having_tried : Collection → (name : List ℕ) → (left : List (List ℕ))
    → (is_done : Bool) → Collection
having_tried c name left is_done =
    if is_done then record { untried = left; done = c.done ++ name ∷ []; failed = c.failed }
    else record { untried = left; done = c.done; failed = c.failed ++ name ∷ [] }

-- a collection of these names begins, under the next number
abbrev pub with_begun : Collections → List (List ℕ) → Collections
with_begun collections names = record {
  unfinished = insert_entry nat_cmp collections.unfinished collections.next (begun names);
  next = collections.next + 1;
}

-- this collection stands at this number
abbrev pub with_collection : Collections → ℕ → Collection → Collections
with_collection collections number c =
    record collections { unfinished = insert_entry nat_cmp collections.unfinished number c }

-- the collection of this number is finished
abbrev pub without_collection : Collections → ℕ → Collections
without_collection collections number =
    record collections { unfinished = remove_entry (is_at (nat_cmp number)) collections.unfinished }

-- each of these names stands once
abbrev pub AreOnce : List (List ℕ) → Type 0
AreOnce [] = Unit {0}
AreOnce (name ∷ names) = (has names name ≡ false) × AreOnce names
