-- A writer that holds its directory.
use Rattle.std.specs.Prelude.{◌≡◌, Bool, true, false, not, List, ℕ, [], Option, Some, None, IsSome, Result, IfErr}
use Rattle.tv_formats.specs.Files.{KeepsOthers, MaySet, Same, Sets}
use Rattle.tv_base.specs.Causes.{IoCause}
use Rattle.tv_base.specs.Writers.{WriterView}
use Rattle.tv_base.specs.declared.io.IoError.{IoError}
use Rattle.tv_device.specs.View.{View, Kept}
use Rattle.tv_device.specs.declared.directory.Directory.{Ghosts}
use Rattle.tv_device.specs.declared.dir_writer.DirWriter.{DirWriter}

-- what is told of the directory's writer, as far as there is one
abbrev pub told_by : {W : Type 0} → (W → List ℕ) → Option W → List ℕ
told_by tells None = []
told_by tells (Some w) = tells w

-- whether there is a writer, and this holds of it
abbrev pub holds : {W : Type 0} → (W → Bool) → Option W → Bool
holds is None = false
holds is (Some w) = is w

-- what is said of its directory
abbrev pub held_view : {D W C : Type 0} → Ghosts D W C → DirWriter D W C → View W
held_view g w = g.view w.directory.now

-- the name of its file, and what was written so far
abbrev pub held_name : {D W C : Type 0} → Ghosts D W C → DirWriter D W C → List ℕ
held_name g w = told_by (λ writer. (g.state_of writer).name) w.writer

-- what was written so far to the file of a writer
abbrev pub held_bytes : {D W C : Type 0} → Ghosts D W C → DirWriter D W C → List ℕ
held_bytes g w = told_by (λ writer. (g.state_of writer).written) w.writer

-- the name wasn't deleted since it was opened
abbrev pub held_lives : {D W C : Type 0} → Ghosts D W C → DirWriter D W C → Bool
held_lives g w = holds (held_view g w).lives w.writer

-- what is told of it
abbrev pub writer_view : {D W C : Type 0} → Ghosts D W C → DirWriter D W C → WriterView
writer_view g w = record {
  taken = held_bytes g w;
  faults = (held_view g w).faults;
  ended = not (holds (held_view g w).opened w.writer);
}

-- The writer holds the same directory, of which nothing but the file may read something else; where its name
-- was deleted, nothing changed. As long as it goes on, it writes the same file.
pub record HeldStays {D W C : Type 0} (g : Ghosts D W C) (old new : DirWriter D W C) : Type 0 where
  pub same_reference : new.directory.ghost_name ≡ old.directory.ghost_name
  pub frame : Kept g.told (held_view g old) (held_view g new)
  pub others : g.told.content → KeepsOthers (held_view g old).reads (held_view g new).reads (held_name g old)
  pub gone : g.told.content → held_lives g old ≡ false → Same (held_view g old).reads (held_view g new).reads
  pub name : (writer_view g new).ended ≡ false → held_name g new ≡ held_name g old
  pub lives : g.told.content → (writer_view g new).ended ≡ false → held_lives g new ≡ held_lives g old

-- the file is still there, unless its name was deleted before
abbrev pub IsStillThere : {D W C : Type 0} → Ghosts D W C → DirWriter D W C → DirWriter D W C → Type 0
IsStillThere g old new =
    g.told.content → held_lives g old ≡ true → IsSome ((held_view g new).reads (held_name g old))

-- the file reads these bytes, unless its name was deleted before
abbrev pub Reaches : {D W C : Type 0} → Ghosts D W C → DirWriter D W C → DirWriter D W C → List ℕ → Type 0
Reaches g old new bytes =
    g.told.content → held_lives g old ≡ true
    → Sets (held_view g old).reads (held_view g new).reads (held_name g old) (Some bytes)

-- where memory was wanted, each name reads what it read
abbrev pub HeldFilesStay : {D W C A : Type 0} → Ghosts D W C → DirWriter D W C → DirWriter D W C
    → Result A IoError → Type 0
HeldFilesStay g old new result =
    g.told.content → IfErr result (IoCause (Unit {0}) (Same (held_view g old).reads (held_view g new).reads))

-- Where the device refused to seal the file, that reads all that was written or what it read, and every other
-- name what it read; where memory was wanted, each name reads what it read.
abbrev pub MayReach : {D W C A : Type 0} → Ghosts D W C → DirWriter D W C → DirWriter D W C
    → Result A IoError → Type 0
MayReach g old new result =
    g.told.content → IfErr result (IoCause (MaySet (held_view g old).reads (held_view g new).reads
    (held_name g old) (Some (held_bytes g old))) (Same (held_view g old).reads (held_view g new).reads))
