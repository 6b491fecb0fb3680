-- The list of managed files: how it is written, and what any spelling of its JSON stands for.
use Rattle.std.specs.Prelude.{ℕ, ◌≡◌, true, List, [], ◌∷◌, ◌++◌, map, Option, Some, None}
use Rattle.std.specs.List.{AllByRecursion}
use Rattle.std.specs.List.Sorted.{IsStrictlySortedBy}
use Rattle.std.specs.Str.{IsUtf8}
use Rattle.serde_json.specs.Data.{Data, string, array}
use Rattle.serde_json.specs.Read.{read}
use Rattle.serde_json.specs.View.{items_of}
use Rattle.serde_json.specs.Written.{compact_text}
use Rattle.tv_formats.specs.Files.{Reads}
use Rattle.tv_formats.specs.Names.{is_plain, byte_cmp, has, list_name}

-- the list of these names as JSON: the array of them as strings
abbrev pub list_tree : List (List ℕ) → Data
list_tree names = array (items_of (map string names))

-- the text of the list as it is written: its JSON without blanks, and a line feed
abbrev pub list_text : List (List ℕ) → List ℕ
list_text names = compact_text (list_tree names) ++ 10 ∷ []

-- a managed name is a text, and plain
abbrev pub IsManagedName : List ℕ → Type 0
IsManagedName name = (is_plain name ≡ true) × IsUtf8 name

-- The bytes are the list of these names, which stand in their order and each once: they spell an array of
-- strings, which are these names, in any order, some of them perhaps several times.
pub record IsListOf (bytes : List ℕ) (names : List (List ℕ)) : Type 0 where
  pub utf8 : IsUtf8 bytes
  pub found : List (List ℕ)
  pub parsed : read bytes ≡ Some (list_tree found)
  pub each : AllByRecursion IsManagedName found
  pub same : (n : List ℕ) → has names n ≡ has found n
  pub ordered : IsStrictlySortedBy byte_cmp names

-- what the bytes that are read of a list stand for: no names where there are none
abbrev pub Lists : Option (List ℕ) → List (List ℕ) → Type 0
Lists None names = names ≡ []
Lists (Some bytes) names = IsListOf bytes names

-- the list for which they stand has this name
abbrev pub IsOnList : Option (List ℕ) → List ℕ → Type 0
IsOnList read name = (listed : List (List ℕ)) × Lists read listed × (has listed name ≡ true)

-- the name is that of a file in which the list is kept
abbrev pub IsListFile : List ℕ → Type 0
IsListFile name = name ≡ list_name

-- what the files of the list stand for: these names; none where there is no such file
abbrev pub Listing : Reads → List (List ℕ) → Type 0
Listing reads names = Lists (reads list_name) names

-- the list that is read has this name
abbrev pub IsListed : Reads → List ℕ → Type 0
IsListed reads name = IsOnList (reads list_name) name
