-- How much space the bodies of a composite file take.
use Rattle.std.specs.Prelude.{ℕ, Bool, nat_le, List, [], length, map, get_or, codes}
use Rattle.std.specs.List.{list_all}
use Rattle.tv_framing.specs.Composite.{Part, addresses}
use Rattle.tv_framing.specs.Fields.{FieldSpace, part_alone}

-- what a body takes, under the name of its field
abbrev pub usage_of : List (List ℕ) → Part → FieldSpace
usage_of names part =
    part_alone (get_or names part.addr.field []) part.addr.idx (record { 0 = length part.body })

-- what each of some bodies takes, under the names of their fields
abbrev pub usages : List (List ℕ) → List Part → List FieldSpace
usages names parts = map (usage_of names) parts

-- no index is above 65535
abbrev pub indexes_fit : List Part → Bool
indexes_fit parts = list_all (λ addr. nat_le addr.idx 65535) (addresses parts)

-- the refusal where one is
abbrev pub index_too_large : List ℕ
index_too_large = codes "An index of the composite file is above 65535."
