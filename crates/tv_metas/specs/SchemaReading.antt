-- How the tree of a schema is read.
use Rattle.std.specs.Prelude.{ℕ, List, [], ◌∷◌, map, codes, if◌then◌else◌, Option, Some, None, option_map, option_and_then, String, string_bytes, Vec}
use Rattle.std.specs.declared.alloc.Global.{Global}
use Rattle.serde_json.specs.Data.{Data, Items, no_items, item}
use Rattle.serde_json.specs.Find.{as_str, as_array}
use Rattle.tv_formats.specs.Ids.{are_distinct}
use Rattle.tv_formats.specs.JsonFields.{field}
use Rattle.tv_formats.specs.Schemas.{is_bounded}

-- the bytes of several texts
abbrev pub texts : Vec (String Global) Global → List (List ℕ)
texts names = map string_bytes names.items

-- the names of the fields, each of which has a type
abbrev pub names_in : Items → Option (List (List ℕ))
names_in no_items = Some []
names_in (item d ds) =
    option_and_then (λ name. option_and_then (λ _. option_map (λ names. name ∷ names) (names_in ds))
    (field as_str (codes "type") d))
    (field as_str (codes "name") d)

-- the names, where none of them stands twice
abbrev pub if_distinct : List (List ℕ) → Option (List (List ℕ))
if_distinct names = if are_distinct names then Some names else None

-- the names of the fields, where the tree is a schema's
abbrev pub names_of : Data → Option (List (List ℕ))
names_of d =
    option_and_then (λ ds. if is_bounded 32 d then option_and_then if_distinct (names_in ds) else None)
    (as_array d)
