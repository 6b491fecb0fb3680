-- The files of a store that are open, and those that are known to be there.
use Rattle.std.specs.Prelude.{ℕ, ◌≡◌, true, List, IsSome, length}
use Rattle.tv_device.specs.declared.directory.Directory.{Ghosts}
use Rattle.tv_formats.specs.Files.{Reads}
use Rattle.tv_formats.specs.Names.{has}
use Rattle.tv_machine.specs.Index.{IsFileOf}
use Rattle.tv_managed.specs.Writers.{IsSummed}
use Rattle.tv_managed.specs.declared.writer.ManagedWriter.{ManagedWriter}

-- an open file: its writer was opened here under its name, which wasn't deleted since, keeps the checksum of
-- what was written, and its length is kept beside it
pub record IsOpenFile {O W C : Type 0} (g : Ghosts O W C) (directory : O) (name : List ℕ)
    (w : ManagedWriter O W C) (len : ℕ) : Type 0 where
  pub opened_is : (g.view directory).opened w.writer ≡ true
  pub lives_is : g.told.content → (g.view directory).lives w.writer ≡ true
  pub name_is : (g.state_of w.writer).name ≡ name
  pub len_is : len ≡ length (g.state_of w.writer).written
  pub summed_is : IsSummed g.state_of w

-- each of these names is that of a segment's file, and reads something
abbrev pub AreThere : Reads → (names : List (List ℕ)) → Type 0
AreThere reads names = (n : List ℕ) → has names n ≡ true → IsFileOf n × IsSome (reads n)
