-- Where a field's usage stands among others that are in name order.
use Rattle.std.specs.Prelude.{ℕ, ◌≡◌, ◌≤◌, ◌<◌, List, [], ◌∷◌, fold, insert, length, slice_index_or, slice_set}
use Rattle.std.specs.Ordering.{match_ordering}
use Rattle.tv_formats.specs.Names.{byte_cmp}
use Rattle.tv_framing.specs.Fields.{FieldSpace}
use Rattle.tv_framing.specs.PerField.{joined}

-- the usages with one more, which joins that of its name
abbrev pub with_field : List FieldSpace → FieldSpace → List FieldSpace
with_field [] field = field ∷ []
with_field (one ∷ more) field =
    match_ordering (byte_cmp field.name one.name) (field ∷ one ∷ more) (joined one field ∷ more)
    (one ∷ with_field more field)

-- all of these usages, gathered by name
abbrev pub by_name : List FieldSpace → List FieldSpace
by_name fields = fold with_field [] fields

-- the usage of this name stands there: one more of the name joins it
pub record IsPlace (name : List ℕ) (fields : List FieldSpace) (i : ℕ) : Type 0 where
  pub inside : i < length fields
  pub joins : (more one : FieldSpace) → more.name ≡ name → one ≡ slice_index_or fields i one
      → slice_set fields i (joined one more) ≡ with_field fields more

-- no usage of this name is there, and at this place it would stand
pub record IsGap (name : List ℕ) (fields : List FieldSpace) (i : ℕ) : Type 0 where
  pub inside : i ≤ length fields
  pub goes_in : (more : FieldSpace) → more.name ≡ name → insert fields i more ≡ with_field fields more
