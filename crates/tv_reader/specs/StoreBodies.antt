-- The stored documents of a segment: the body of its store file.
use Rattle.std.specs.Prelude.{ℕ, ◌≡◌, ◌<◌, ◌^◌, ◌*◌, ◌++◌, List, [], ◌∷◌, length, sum_by, codes}
use Rattle.std.specs.List.{AllByRecursion}
use Rattle.tv_formats.specs.Footer.{four_bytes}
use Rattle.tv_framing.specs.Usage.{StoreSpace}

-- the documents, one behind the other, each behind its length in four bytes
abbrev pub store_text : List (List ℕ) → List ℕ
store_text [] = []
store_text (doc ∷ docs) = four_bytes (length doc) ++ (doc ++ store_text docs)

-- a document whose length fits four bytes
abbrev pub FitsStore : List ℕ → Type 0
FitsStore doc = length doc < 2 ^ 32

-- the bytes are those of these documents
pub record IsStoreBody (bytes : List ℕ) (docs : List (List ℕ)) : Type 0 where
  pub each : AllByRecursion FitsStore docs
  pub whole : bytes ≡ store_text docs

-- the bytes are those of these documents, if of any
abbrev pub AreTheDocuments : List ℕ → List (List ℕ) → Type 0
AreTheDocuments bytes docs = (others : List (List ℕ)) → IsStoreBody bytes others → others ≡ docs

-- the bytes are those of no documents
abbrev pub IsNotStoreBody : List ℕ → Type 0
IsNotStoreBody bytes = (docs : List (List ℕ)) → IsStoreBody bytes docs → ⊥

-- the refusal of all other bytes
abbrev pub not_store : List ℕ
not_store = codes "Store is not of the stated form."

-- how many bytes the documents take, and four more for the place of each
abbrev pub store_space : List (List ℕ) → StoreSpace
store_space docs = record {
  body = record { 0 = sum_by length docs };
  offsets = record { 0 = 4 * length docs };
}
