-- The files of a directory in memory.
use Rattle.std.specs.Prelude.{ℕ, ◌≡◌, ◌≢◌, ◌==◌, Bool, false, List, Option, Some, None, Result, OnOk, OnErr, String, Vec, length, map, reverse, sum, is_some, option_map, string_bytes}
use Rattle.tv_formats.specs.Names.{at}
use Rattle.tv_formats.specs.Files.{Reads, Sets}
use Rattle.tv_formats.specs.Disk.{DiskState, Absent}
use Rattle.tv_formats.specs.Disk as disk
use Rattle.tv_device.specs.declared.files.StoredFile.{StoredFile}
use Rattle.tv_device.specs.declared.files.Files.{Files}
use Rattle.tv_device.specs.declared.files.Content.{Content}
use Rattle.tv_device.specs.declared.files.Content.TheVariants.{Unsealed, Sealed}

-- what a file reads: of one that isn't sealed, what has reached it
abbrev pub bytes_of : Content → List ℕ
bytes_of (Unsealed bytes) = bytes
bytes_of (Sealed bytes) = bytes

-- what each name reads
abbrev pub reads_of : List (List ℕ × StoredFile) → Reads
reads_of files name = option_map (λ file. bytes_of file.content) (at files name)

-- how a name stands on the disk that has this content, or no file
abbrev pub disk_state_of : Option Content → DiskState
disk_state_of None = Absent
disk_state_of (Some (Unsealed bytes)) = disk.Unsealed
disk_state_of (Some (Sealed bytes)) = disk.Sealed bytes

-- how each name stands
abbrev pub States : Type 0
States = List ℕ → DiskState

-- how each name stands among these files
abbrev pub states_of : List (List ℕ × StoredFile) → States
states_of files name = disk_state_of (option_map (λ file. file.content) (at files name))

-- how a name stands that has a sealed file of these bytes, or none
abbrev pub at_rest : Option (List ℕ) → DiskState
at_rest None = Absent
at_rest (Some bytes) = disk.Sealed bytes

-- each file is sealed
abbrev pub AreSealed : List (List ℕ × StoredFile) → Type 0
AreSealed files = (n : List ℕ) → states_of files n ≡ at_rest (reads_of files n)

-- this name stands so, and every other one as it stood
pub record StandsAs (old new : States) (name : List ℕ) (state : DiskState) : Type 0 where
  pub changed : new name ≡ state
  pub others : (n : List ℕ) → n ≢ name → new n ≡ old n

-- At Ok a call left this name in this state, and every other one as it stood; after an error each name
-- stands as it stood.
pub record PutsState {A E : Type 0} (old new : States) (name : List ℕ) (state : DiskState)
    (result : Result A E) : Type 0 where
  pub ok : OnOk result (StandsAs old new name state)
  pub err : OnErr result ((n : List ℕ) → new n ≡ old n)

-- whether there is a file of this name
abbrev pub is_there : List (List ℕ × StoredFile) → List ℕ → Bool
is_there files name = is_some (at files name)

-- the number under which the name's file was made
abbrev pub number_at : List (List ℕ × StoredFile) → List ℕ → Option ℕ
number_at files name = option_map (λ file. file.number) (at files name)

-- whether a name's file was made under this number
abbrev pub is_number : ℕ → Option ℕ → Bool
is_number number None = false
is_number number (Some other) = other == number

-- whether the name's file is the one that was made under this number
abbrev pub is_made : List (List ℕ × StoredFile) → List ℕ → ℕ → Bool
is_made files name number = is_number number (number_at files name)

-- A name was given this file, and no other name another one. After an error nothing changed.
pub record PutsFile {A E : Type 0} (old new : List (List ℕ × StoredFile)) (name : List ℕ) (file : StoredFile)
    (result : Result A E) : Type 0 where
  pub ok : OnOk result (Sets (reads_of old) (reads_of new) name (Some (bytes_of file.content)))
  pub state : OnOk result (StandsAs (states_of old) (states_of new) name (disk_state_of (Some file.content)))
  pub number : OnOk result (number_at new name ≡ Some file.number)
  pub numbers : OnOk result ((n : List ℕ) → n ≢ name → number_at new n ≡ number_at old n)
  pub err : OnErr result (new ≡ old)

-- The file of this name was given another content, and all files keep their numbers. After an error nothing
-- changed.
pub record ReplacesFile {A E : Type 0} (old new : Files) (name : List ℕ) (content : Content)
    (result : Result A E) : Type 0 where
  pub ok :
      OnOk result (Sets (reads_of old.map.entries) (reads_of new.map.entries) name (Some (bytes_of content)))
  pub state : OnOk result (StandsAs (states_of old.map.entries) (states_of new.map.entries) name
      (disk_state_of (Some content)))
  pub numbers : (n : List ℕ) → number_at new.map.entries n ≡ number_at old.map.entries n
  pub last : new.last ≡ old.last
  pub err : OnErr result (new.map.entries ≡ old.map.entries)

-- pairs of a text and some bytes, as names and what they shall read
abbrev pub named : {X Y : Type 0} → List (String X × Vec ℕ Y) → List (List ℕ × List ℕ)
named files = map (λ file. (string_bytes file.0, file.1.items)) files

-- what each name reads where the last pair of a name counts
abbrev pub last_of : List (List ℕ × List ℕ) → Reads
last_of pairs name = at (reverse pairs) name

-- the lengths of all files together
abbrev pub total_len : List (List ℕ × StoredFile) → ℕ
total_len files = sum (map (λ file. length (bytes_of file.1.content)) files)
