-- The values that fields of a JSON tree can have. Of a repeated key the last counts; a field of what is no
-- object is missing.
use Rattle.std.specs.Prelude.{ℕ, ◌≡◌, ◌⊎◌, ◌^◌, List, Bool, nat_lt, if◌then◌else◌, Option, Some, None, option_and_then}
use Rattle.serde_json.specs.Data.{Data, null}
use Rattle.serde_json.specs.Find.{get, as_number, as_u64, as_str, as_bool}
use Rattle.uuid.specs.Text.{parsed}
use Rattle.tv_formats.specs.FooterForm.{if_u32}

-- a number of 64 bits
abbrev pub if_u64 : ℕ → Option ℕ
if_u64 n = if nat_lt n (2 ^ 64) then Some n else None

-- an integer of 64 bits
abbrev pub u64_of : Data → Option ℕ
u64_of d = option_and_then if_u64 (option_and_then as_u64 (as_number d))

-- an integer of 32 bits
abbrev pub u32_of : Data → Option ℕ
u32_of d = option_and_then if_u32 (u64_of d)

-- the sixteen bytes of a text that is a UUID in one of its forms: plain, with hyphens, in braces, or as a URN
abbrev pub id_of : Data → Option (List ℕ)
id_of d = option_and_then parsed (as_str d)

-- the field at the key
abbrev pub field : {A : Type 0} → (Data → Option A) → List ℕ → Data → Option A
field f key d = option_and_then f (get key d)

-- the field, or what stands for it where it is missing
abbrev pub or_default : {A : Type 0} → A → (Data → Option A) → Option Data → Option A
or_default a f None = Some a
or_default a f (Some d) = f d

-- a field of a truth value, or what stands for it where it is missing
abbrev pub bool_or : Bool → List ℕ → Data → Option Bool
bool_or b key d = or_default b as_bool (get key d)

-- a field of a number below 2 ^ 64, or what stands for it where it is missing
abbrev pub u64_or : ℕ → List ℕ → Data → Option ℕ
u64_or n key d = or_default n u64_of (get key d)

-- a field that may be left out: nothing where it is missing or null
abbrev pub IsOptional : {A : Type 0} → (Data → A → Type 0) → Option Data → Option A → Type 0
IsOptional R field None = (field ≡ None) ⊎ (field ≡ Some null)
IsOptional R field (Some a) = (d : Data) × (field ≡ Some d) × R d a
