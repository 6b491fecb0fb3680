-- The list of managed files, as a crash may leave it.
use Rattle.std.specs.Prelude.{ℕ, ◌≡◌, true, List, Option, IsSome}
use Rattle.tv_formats.specs.Disk.{Disk, DiskState, IsImage, IsSettledAt, IsThere, MayRead, Possible}
use Rattle.tv_formats.specs.Files.{Reads}
use Rattle.tv_formats.specs.Listing.{IsListFile, IsListed, IsOnList, Listing, Lists}
use Rattle.tv_formats.specs.Names.{is_undotted}

-- a file in this state is a list, whatever is read of it
abbrev pub IsAList : DiskState → Type 0
IsAList state = (read : Option (List ℕ)) → MayRead state read → (names : List (List ℕ)) × Lists read names

-- this name is on whatever list is read of a file in this state
abbrev pub IsOnEach : DiskState → List ℕ → Type 0
IsOnEach state name = (read : Option (List ℕ)) → MayRead state read → IsOnList read name

-- there is a file of the list that has this name in whatever state a crash may leave that file, whatever is
-- read of it
abbrev pub IsAlwaysListed : Possible → List ℕ → Type 0
IsAlwaysListed possible name =
    (file : List ℕ) × IsListFile file × ((l : DiskState) → possible file l → IsOnEach l name)

-- Whatever a crash may leave of a file of the list is a list, and the list forgets no file: each undotted
-- name that may be there is always listed.
pub record ListsEachFile (possible : Possible) : Type 0 where
  pub lists : (file : List ℕ) → IsListFile file → (l : DiskState) → possible file l → IsAList l
  pub each : (n : List ℕ) → is_undotted n ≡ true → (s : DiskState) → possible n s → IsThere s
      → IsAlwaysListed possible n

-- an image has a list, and each undotted file of the image is on it
pub record ListsItsFiles (image : Reads) : Type 0 where
  pub lists : (names : List (List ℕ)) × Listing image names
  pub each : (n : List ℕ) → is_undotted n ≡ true → IsSome (image n) → IsListed image n

-- every image that a crash may leave has a list, on which each undotted file of the image is
pub record ImagesListTheirFiles (possible : Possible) : Type 0 where
  pub each : (image : Reads) → IsImage possible image → ListsItsFiles image

-- each file of the list has one possible state, that in which it stands
abbrev pub IsListSettled : Disk → Type 0
IsListSettled disk = (file : List ℕ) → IsListFile file → IsSettledAt disk file
