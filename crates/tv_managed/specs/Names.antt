-- What a managed directory keeps in memory, beside the directory itself.
use Rattle.std.specs.Prelude.{ℕ, ◌≡◌, ◌≤◌, true, Bool, List, [], ◌∷◌, None, length, if◌then◌else◌}
use Rattle.std.specs.List.{flat_map, list_all}
use Rattle.std.specs.List.Sorted.{IsStrictlySortedBy}
use Rattle.tv_formats.specs.Names.{byte_cmp, is_plain}
use Rattle.tv_formats.specs.Collections.{Collection, Collections, collection_at}

-- the managed names in their order, and the unfinished collections
pub record ManagedNames : Type 0 where
  pub managed : List (List ℕ)
  pub collections : Collections

-- managed names are plain, and stand in their order, each once
pub record AreManaged (names : List (List ℕ)) : Type 0 where
  pub plain : list_all is_plain names ≡ true
  pub ordered : IsStrictlySortedBy byte_cmp names

-- the names that unfinished collections have done: no crash leaves a file of theirs once the device has kept
-- that, and they are still managed
abbrev pub done_names : Collections → List (List ℕ)
done_names collections = flat_map (λ e. e.1.done) collections.unfinished

-- a name was tried before those of a collection
abbrev pub trying_first : (name : List ℕ) → (is_done : Bool) → Collection → Collection
trying_first name is_done c =
    if is_done then record { untried = c.untried; done = name ∷ c.done; failed = c.failed }
    else record { untried = c.untried; done = c.done; failed = name ∷ c.failed }

-- a collection of these names, of which the first were tried with these outcomes
abbrev pub tried_so : List (List ℕ) → List Bool → Collection
tried_so names [] = record { untried = names; done = []; failed = [] }
tried_so [] (outcome ∷ outcomes) = record { untried = []; done = []; failed = [] }
tried_so (name ∷ names) (outcome ∷ outcomes) = trying_first name outcome (tried_so names outcomes)

-- There is an outcome kept for each name, and some first names were tried.
pub record IsCollection (names : List (List ℕ)) (outcomes : List Bool) (tried : ℕ) : Type 0 where
  pub managed : AreManaged names
  pub each : length outcomes ≡ length names
  pub within : tried ≤ length names

-- the number of the next collection and those after it are free
pub record AreNumbered (collections : Collections) : Type 0 where
  pub free : (number : ℕ) → collections.next ≤ number → collection_at collections number ≡ None
