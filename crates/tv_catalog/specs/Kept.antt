-- What a store keeps of an index in memory.
use Rattle.std.specs.Borrow.{Bor}
use Rattle.std.specs.Prelude.{map, ℕ, List, ◌<◌, length}
use Rattle.tv_formats.specs.Commits.{IndexForm}
use Rattle.tv_formats.specs.Collections.{Collections, collection_at}
use Rattle.tv_machine.specs.State.{Catalog}
use Rattle.std.specs.Option.{IsSomeAnd}

-- what a store keeps in memory: its index's settings and schema, the catalog, the managed names, the
-- unfinished collections, what was written to each open file, and the files that were left
pub record KeptState : Type 0 where
  pub form : IndexForm
  pub catalog : Catalog
  pub managed : List (List ℕ)
  pub collections : Collections
  pub open_files : List (List ℕ × List ℕ)
  pub left : List (List ℕ)

-- what is known of the files of an index without asking the device: the index's settings and schema, the
-- managed names, the unfinished collections, what was written to each open file, and the files that were left
pub record KnownState : Type 0 where
  pub form : IndexForm
  pub managed : List (List ℕ)
  pub collections : Collections
  pub open_files : List (List ℕ × List ℕ)
  pub left : List (List ℕ)

-- what a store keeps of an index, with this catalog and what is known of the files
abbrev pub kept_with : Catalog → KnownState → KeptState
kept_with catalog known = record {
  form = known.form;
  catalog = catalog;
  managed = known.managed;
  collections = known.collections;
  open_files = known.open_files;
  left = known.left;
}

-- the bytes of some texts
abbrev pub texts_of : List (Bor (List ℕ)) → List (List ℕ)
texts_of texts = map (λ text. text.now) texts

-- what became of a collection: the names that are gone, and those whose delete was refused
pub record CollectedNames : Type 0 where
  pub deleted : List (List ℕ)
  pub failed : List (List ℕ)

-- the collection of this number has names that are yet to be tried
abbrev pub HasUntried : Collections → ℕ → Type 0
HasUntried collections number = IsSomeAnd (collection_at collections number) (λ c. 0 < length c.untried)
