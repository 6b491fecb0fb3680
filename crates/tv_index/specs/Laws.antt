-- What the laws speak of: the states of `meta.json`.
use Rattle.std.specs.Prelude.{◌≡◌, ◌⊎◌}
use Rattle.tv_formats.specs.Disk.{Disk, DiskState, Possible, possible_now}
use Rattle.tv_formats.specs.Names.{meta_name}

-- `meta.json` has no possible state but those that it had, and the one in which it stood
abbrev pub HoldsNoOtherMeta : Disk → Possible → Type 0
HoldsNoOtherMeta old possible =
    (s : DiskState) → possible meta_name s → possible_now old meta_name s ⊎ (s ≡ old.now meta_name)
