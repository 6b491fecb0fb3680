-- What a crash may leave of other files where it may leave a new commit.
use Rattle.std.specs.Prelude.{◌≡◌, ◌≢◌, ℕ, List}
use Rattle.tv_formats.specs.Disk.{Disk, DiskState, Possible, Sealed, possible_now}
use Rattle.tv_formats.specs.Listing.{IsListFile}
use Rattle.tv_formats.specs.Names.{meta_name}

-- Where a crash may leave this text of `meta.json`, and couldn't before, it leaves every other file but
-- those of the list as it stood.
abbrev pub ShowsSettled : (old : Disk) → (possible : Possible) → (text : List ℕ) → Type 0
ShowsSettled old possible text =
    (possible_now old meta_name (Sealed text) → ⊥) → possible meta_name (Sealed text)
    → (n : List ℕ) → n ≢ meta_name → (IsListFile n → ⊥) → (s : DiskState) → possible n s → s ≡ old.now n
