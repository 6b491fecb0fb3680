-- Files that are made of the bodies of several fields.
use Rattle.std.specs.Prelude.{ℕ, ◌≡◌, ◌<◌, ◌^◌, ◌==◌, ◌&&◌, nat_lt, Bool, false, List, [], ◌∷◌, ◌++◌, length, map, Option, Some, None, if◌then◌else◌, codes}
use Rattle.std.specs.List.{AllByRecursion, list_all, list_any}
use Rattle.tv_formats.specs.Footer.{four_bytes}
use Rattle.tv_formats.specs.VInt.{vint}
use Rattle.tv_framing.specs.declared.address.FileAddr.{FileAddr}

-- a body, and the address under which it is found: a field, and the body's index among those of the field
pub record Part : Type 0 where
  pub addr : FileAddr
  pub body : List ℕ

-- the address of a body of a field
abbrev pub address : (field idx : ℕ) → FileAddr
address field idx = record { field = field; idx = idx }

-- the bodies, one behind the other
abbrev pub bodies : List Part → List ℕ
bodies [] = []
bodies (part ∷ parts) = part.body ++ bodies parts

-- The list of the parts: of each one how far it begins behind the beginning of the one before, which is that
-- one's length, its field in four bytes, and its index. The number is that of the first part.
abbrev pub listed : ℕ → List Part → List ℕ
listed gap [] = []
listed gap (part ∷ parts) =
    vint gap ++ (four_bytes part.addr.field ++ (vint part.addr.idx ++ listed (length part.body) parts))

-- how many parts there are, and the list of them; the first begins at 0
abbrev pub footing : List Part → List ℕ
footing parts = vint (length parts) ++ listed 0 parts

-- the whole file: the bodies, the list, and how long the list is
abbrev pub composite : List Part → List ℕ
composite parts = bodies parts ++ (footing parts ++ four_bytes (length (footing parts)))

-- the numbers of an address fit
abbrev pub IsAddress : FileAddr → Type 0
IsAddress addr = (addr.field < 2 ^ 32) × (addr.idx < 2 ^ 64)

-- whether an address is this one
abbrev pub is_at : FileAddr → FileAddr → Bool
is_at addr other = (other.field == addr.field) && (other.idx == addr.idx)

-- no address stands twice
abbrev pub AreDistinct : List FileAddr → Type 0
AreDistinct [] = Unit {0}
AreDistinct (addr ∷ addrs) = (list_any (is_at addr) addrs ≡ false) × AreDistinct addrs

-- the addresses of parts, in their order
abbrev pub addresses : List Part → List FileAddr
addresses parts = map (λ part. part.addr) parts

-- the file is made of these parts
pub record IsComposite (bytes : List ℕ) (parts : List Part) : Type 0 where
  pub each : AllByRecursion IsAddress (addresses parts)
  pub distinct : AreDistinct (addresses parts)
  pub short : length (footing parts) < 2 ^ 32
  pub whole : bytes ≡ composite parts

-- a file is made of these parts, if of any
abbrev pub AreTheParts : List ℕ → List Part → Type 0
AreTheParts bytes parts = (others : List Part) → IsComposite bytes others → others ≡ parts

-- a file is made of no parts
abbrev pub IsNotComposite : List ℕ → Type 0
IsNotComposite bytes = (parts : List Part) → IsComposite bytes parts → ⊥

-- the body of this address, if there is one
abbrev pub body_at : FileAddr → List Part → Option (List ℕ)
body_at addr [] = None
body_at addr (part ∷ parts) = if is_at addr part.addr then Some part.body else body_at addr parts

-- whether one of the parts has this address
abbrev pub has_address : FileAddr → List Part → Bool
has_address addr parts = list_any (is_at addr) (addresses parts)

-- every field has a number below n
abbrev pub fields_below : ℕ → List Part → Bool
fields_below n parts = list_all (λ addr. nat_lt addr.field n) (addresses parts)

-- the parts after these bytes were added to the last body
abbrev pub grown : List Part → List ℕ → List Part
grown [] bytes = []
grown (part ∷ []) bytes = record part { body = part.body ++ bytes } ∷ []
grown (part ∷ next ∷ parts) bytes = part ∷ grown (next ∷ parts) bytes

-- the refusal of all other files
abbrev pub not_composite : List ℕ
not_composite = codes "Composite file is not of the stated form."

-- the refusal of a list whose length doesn't fit four bytes
abbrev pub list_too_long : List ℕ
list_too_long = codes "The list of a composite file is longer than 4294967295 bytes."
