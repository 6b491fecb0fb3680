-- Where the documents stand in a store body.
use Rattle.std.specs.Prelude.{ℕ, ◌≡◌, ◌≤◌, ◌<◌, ◌^◌, ◌+◌, ◌-◌, ◌++◌, List, map, length, drop, slice_range}
use Rattle.std.specs.List.{AllByRecursion}
use Rattle.tv_formats.specs.Footer.{four_bytes}
use Rattle.tv_reader.specs.StoreBodies.{FitsStore, IsStoreBody, store_text}
use Rattle.tv_reader.specs.declared.store_reader.DocPlace.{DocPlace}

-- the document at a place
abbrev pub document_at : List ℕ → DocPlace → List ℕ
document_at bytes place = slice_range bytes place.start place.end

-- the documents at some places
abbrev pub documents_at : List ℕ → List DocPlace → List (List ℕ)
documents_at bytes places = map (document_at bytes) places

-- a place is among so many bytes
pub record IsWithin (len : ℕ) (place : DocPlace) : Type 0 where
  pub order : place.start ≤ place.end
  pub inside : place.end ≤ len

-- the bytes are those of the documents at these places
pub record AreStored (bytes : List ℕ) (places : List DocPlace) : Type 0 where
  pub within : AllByRecursion (IsWithin (length bytes)) places
  pub are : IsStoreBody bytes (documents_at bytes places)

-- the bytes up to `end` are those of the documents at these places
pub record AreRead (bytes : List ℕ) (end : ℕ) (places : List DocPlace) : Type 0 where
  pub inside : end ≤ length bytes
  pub within : AllByRecursion (IsWithin (length bytes)) places
  pub each : AllByRecursion FitsStore (documents_at bytes places)
  pub text : bytes ≡ store_text (documents_at bytes places) ++ drop end bytes

-- the next document stands here: behind its length, which begins at `start`
pub record StandsNext (bytes : List ℕ) (start : ℕ) (place : DocPlace) : Type 0 where
  pub within : IsWithin (length bytes) place
  pub behind : place.start ≡ start + 4
  pub short : place.end - place.start < 2 ^ 32
  pub stated : drop start bytes ≡ four_bytes (place.end - place.start) ++ drop place.start bytes

-- no document stands here, with or without others behind it
abbrev pub NothingNext : List ℕ → ℕ → Type 0
NothingNext bytes start =
    (doc rest : List ℕ) → FitsStore doc → drop start bytes ≡ four_bytes (length doc) ++ (doc ++ rest) → ⊥
