-- What a checksum in progress has taken, and its register after more bytes.
use Rattle.std.specs.Prelude.{ℕ, ◌≡◌, List, fold, replicate}
use Rattle.std.specs.List.{flat_map}
use Rattle.tv_formats.specs.Checksum.{bits, shift_in, register_after}
use Rattle.tv_checksum.specs.declared.crc32.Crc32.{Crc32}

-- a checksum has taken these bytes
abbrev pub HasTaken : Crc32 → List ℕ → Type 0
HasTaken c taken = c.register ≡ register_after taken

-- the register after these bytes, where it was this one before
unfoldable pub register_with : ℕ → List ℕ → ℕ
register_with register bytes = fold shift_in register (flat_map bits bytes)

-- the register after n bytes of zeros
abbrev pub after_zeros : ℕ → ℕ → ℕ
after_zeros n register = register_with register (replicate n 0)
