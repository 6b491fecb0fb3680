-- The schema of an index: a JSON array with an object for each field.
use Rattle.std.specs.Prelude.{ℕ, zero, suc, ◌≡◌, ◌≤◌, ◌==◌, ◌||◌, ◌&&◌, List, [], ◌∷◌, length, codes, Bool, true, false, if◌then◌else◌, Some, IsSome, is_some, IsUtf8}
use Rattle.serde_json.specs.Data.{Data, Num, null, boolean, number, string, array, object, Items, no_items, item, Members, no_members, member}
use Rattle.serde_json.specs.Find.{as_u64, as_i64, as_str}
use Rattle.serde_json.specs.Read.{read}
use Rattle.tv_formats.specs.Ids.{are_distinct}
use Rattle.tv_formats.specs.JsonFields.{field}

-- a blank of JSON: a space, a tab, a line feed or a carriage return
abbrev pub is_blank : ℕ → Bool
is_blank b = (b == 32) || (b == 9) || (b == 10) || (b == 13)

-- A text without the blanks outside its string literals. A quotation mark opens and closes a literal, and in
-- one a backslash escapes the next byte.
abbrev mutual
  pub stripped : List ℕ → List ℕ
  stripped [] = []
  stripped (b ∷ bytes) =
      if is_blank b then stripped bytes else b ∷ (if b == 34 then stripped_inside bytes else stripped bytes)

  pub stripped_inside : List ℕ → List ℕ
  stripped_inside [] = []
  stripped_inside (b ∷ bytes) =
      b ∷ (if b == 34 then stripped bytes else if b == 92 then stripped_escaped bytes
      else stripped_inside bytes)

  pub stripped_escaped : List ℕ → List ℕ
  stripped_escaped [] = []
  stripped_escaped (b ∷ bytes) = b ∷ stripped_inside bytes

-- an integer of 64 bits, with a sign or without
abbrev pub is_integer : Num → Bool
is_integer n = is_some (as_u64 n) || is_some (as_i64 n)

-- whether a tree nests at most so deep, and each number in it is an integer of 64 bits
abbrev mutual
  pub is_bounded : ℕ → Data → Bool
  is_bounded n null = true
  is_bounded n (boolean b) = true
  is_bounded n (number x) = is_integer x
  is_bounded n (string s) = true
  is_bounded zero (array ds) = false
  is_bounded (suc n) (array ds) = are_bounded n ds
  is_bounded zero (object ms) = false
  is_bounded (suc n) (object ms) = have_bounded n ms

  pub are_bounded : ℕ → Items → Bool
  are_bounded n no_items = true
  are_bounded n (item d ds) = is_bounded n d && are_bounded n ds

  pub have_bounded : ℕ → Members → Bool
  have_bounded n no_members = true
  have_bounded n (member k d ms) = is_bounded n d && have_bounded n ms

-- each item is an object with a name, which is this one, and with a type
abbrev pub AreFields : Items → (names : List (List ℕ)) → Type 0
AreFields no_items [] = Unit {0}
AreFields no_items (name ∷ names) = ⊥
AreFields (item d ds) [] = ⊥
AreFields (item d ds) (name ∷ names) =
    (field as_str (codes "name") d ≡ Some name) × IsSome (field as_str (codes "type") d) × AreFields ds names

-- the tree is a schema's, with fields of these names, none of which stands twice; it nests at most 32 deep,
-- the outer array counting as 1
pub record IsSchemaTree (tree : Data) (names : List (List ℕ)) : Type 0 where
  pub items : Items
  pub is_array : tree ≡ array items
  pub bounded : is_bounded 32 tree ≡ true
  pub fields : AreFields items names
  pub distinct : are_distinct names ≡ true

-- the text is read as the tree of a schema, and begins with the bracket of its array
pub record IsSchemaText (text : List ℕ) (tree : Data) : Type 0 where
  pub utf8 : IsUtf8 text
  pub rest : List ℕ
  pub begins : text ≡ 91 ∷ rest
  pub parsed : read text ≡ Some tree
  pub names : List (List ℕ)
  pub form : IsSchemaTree tree names

-- These bytes spell the schema of this text: they are JSON, at most a MiB of it, and without their blanks
-- they are this text.
pub record IsSchema (bytes text : List ℕ) : Type 0 where
  pub size : length bytes ≤ 1048576
  pub utf8 : IsUtf8 bytes
  pub whole : IsSome (read bytes)
  pub text_is : text ≡ stripped bytes
  pub tree : Data
  pub form : IsSchemaText text tree

-- these bytes spell no schema
abbrev pub IsNoSchema : List ℕ → Type 0
IsNoSchema bytes = (text : List ℕ) → IsSchema bytes text → ⊥
