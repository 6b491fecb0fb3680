-- The names in a JSON tree, in the order of the code. Private functions alone cite these.
use Rattle.std.specs.Prelude.{ℕ, List, [], Option, Some, None, if◌then◌else◌, option_and_then}
use Rattle.std.specs.BTreeSet.{insert_key}
use Rattle.serde_json.specs.Data.{Data, Items, no_items, item}
use Rattle.serde_json.specs.Find.{as_array, as_str}
use Rattle.tv_formats.specs.Names.{byte_cmp, is_plain}

-- the name that a tree is, where it is a plain one
abbrev pub name_of : Data → Option (List ℕ)
name_of d = option_and_then (λ s. if is_plain s then Some s else None) (as_str d)

-- the names, and those of the items put among them, where each item is a plain name
abbrev pub put_items : List (List ℕ) → Items → Option (List (List ℕ))
put_items names no_items = Some names
put_items names (item d ds) = option_and_then (λ s. put_items (insert_key byte_cmp names s) ds) (name_of d)

-- the names of a tree, where it is an array of plain ones
abbrev pub names_in : Data → Option (List (List ℕ))
names_in d = option_and_then (put_items []) (as_array d)
