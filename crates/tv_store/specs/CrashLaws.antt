-- What the laws on crashes speak of.
use Rattle.std.specs.Prelude.{ℕ, ◌≤◌, [], ◌∷◌}
use Rattle.tv_crashes.specs.Runs.{Survives}
use Rattle.tv_crashes.specs.Stored.{ShowsWhole, Stored}
use Rattle.tv_device.specs.declared.directory.Directory.{Ghosts}
use Rattle.tv_formats.specs.Disk.{Disk, MayLeave}
use Rattle.tv_formats.specs.Files.{Reads}
use Rattle.tv_formats.specs.Listed.{ListsItsFiles}
use Rattle.tv_machine.specs.Machine.{Turn}
use Rattle.tv_machine.specs.State.{State}
use Rattle.tv_store.specs.Kept.{StoreState}
use Rattle.tv_store.specs.Surviving.{seen_of}

-- what a crash leaves of a store from one state on, while this one event is applied
abbrev pub SurvivesTurn : {O W C : Type 0} → Ghosts O W C → (old new : StoreState O) → State → Turn → Type 0
SurvivesTurn g old new s turn =
    Survives old.kept.form (seen_of g old.outside) (seen_of g new.outside) s (turn ∷ [])

-- at each moment of some calls a crash leaves this, whole, with every undotted file listed
abbrev pub KeepsStored : (old new : Disk) → Stored → Type 0
KeepsStored old new c =
    (x : ℕ) (image : Reads) → old.moment ≤ x → x ≤ new.moment → MayLeave new x image
    → ShowsWhole image c × ListsItsFiles image
