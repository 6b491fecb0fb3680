-- The names of files.
use Rattle.std.specs.Prelude.{ℕ, Bool, false, not, ◌&&◌, ◌||◌, ◌==◌, nat_eq, nat_lt, nat_le, List, [], ◌∷◌, length, codes, Option}
use Rattle.std.specs.Cmp.Lexicographic.{pointwise, slice_cmp}
use Rattle.std.specs.declared.cmp.Ordering.{Ordering}
use Rattle.std.specs.List.{list_all, list_any}
use Rattle.std.specs.Ordering.{nat_cmp}
use Rattle.std.specs.Map.{lookup}
use Rattle.std.specs.BTreeMap.{is_at}

-- texts, names and ids are in the order of their bytes
abbrev pub byte_cmp : List ℕ → List ℕ → Ordering
byte_cmp = slice_cmp nat_cmp

-- whether two texts are the same
abbrev pub is : List ℕ → List ℕ → Bool
is = pointwise nat_eq

-- whether a text is among some others
abbrev pub has : List (List ℕ) → List ℕ → Bool
has texts text = list_any (λ other. is other text) texts

-- `.`
abbrev pub begins_with_dot : List ℕ → Bool
begins_with_dot [] = false
begins_with_dot (b ∷ name) = b == 46

-- a name that doesn't begin with a dot
abbrev pub is_undotted : List ℕ → Bool
is_undotted name = not (begins_with_dot name)

-- a byte of a name: no space, no control character, and none of `"`, `/` and `\`
abbrev pub is_name_byte : ℕ → Bool
is_name_byte b = nat_lt 32 b && not (b == 34) && not (b == 47) && not (b == 92)

-- 1 to 255 such bytes, which don't begin with a dot, and not the word `failed`
abbrev pub is_plain : List ℕ → Bool
is_plain name =
    nat_le 1 (length name) && nat_le (length name) 255 && list_all is_name_byte name && is_undotted name
    && not (is name (codes "failed"))

-- 2 to 255 such bytes, which begin with a dot, and not `..`
abbrev pub is_dotted : List ℕ → Bool
is_dotted name =
    nat_le 2 (length name) && nat_le (length name) 255 && list_all is_name_byte name && begins_with_dot name
    && not (is name (codes ".."))

-- what a file may be called
abbrev pub is_file_name : List ℕ → Bool
is_file_name name = is_plain name || is_dotted name

-- the file that has the current commit
abbrev pub meta_name : List ℕ
meta_name = codes "meta.json"

-- the file that lists the managed files
abbrev pub list_name : List ℕ
list_name = codes ".managed.json"

-- what stands at a key
abbrev pub at : {X : Type 0} → List (List ℕ × X) → List ℕ → Option X
at entries key = lookup (is_at (byte_cmp key)) entries
