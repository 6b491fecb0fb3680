-- Why the calls fail that load a commit with its files, and what they show.
use Rattle.std.specs.Prelude.{◌≡◌, List, ℕ, Result, IfErr, OnOk}
use Rattle.tv_base.specs.declared.error.TantivyError.{TantivyError}
use Rattle.tv_device.specs.declared.directory.Directory.{Ghosts}
use Rattle.tv_formats.specs.Files.{Rose}
use Rattle.tv_formats.specs.Names.{meta_name}
use Rattle.tv_index.specs.Indexes.{MeansSuch}
use Rattle.tv_machine.specs.State.{Snapshot}
use Rattle.tv_store.specs.Applying.{UnloadedFor}
use Rattle.tv_store.specs.Bodies.{FailsAt}
use Rattle.tv_store.specs.Kept.{FilesState, StoreState}
use Rattle.tv_store.specs.Performing.{loading_facts}
use Rattle.tv_store.specs.ReadCauses.{LoadingCause}

-- One of these files isn't read.
pub record BodiesFaults {A O W C : Type 0} (g : Ghosts O W C) (old new : O) (names : List (List ℕ))
    (result : Result A TantivyError) : Type 0 where
  pub quiet : OnOk result ((g.view new).faults ≡ (g.view old).faults)
  pub cause : IfErr result (FailsAt g.told.content (g.view old).reads names
      (Rose (g.view old).faults (g.view new).faults) ((g.view new).faults ≡ (g.view old).faults))

-- what is shown is the commit that `meta.json` means, where the content is told
abbrev pub ShowsMeta : {O W C : Type 0} → Ghosts O W C → StoreState O → Snapshot → Type 0
ShowsMeta g store shown =
    g.told.content → MeansSuch store.kept.form.schema ((g.view store.outside).reads meta_name)
    (λ commit. commit ≡ shown.commit)

-- The commit of `meta.json` isn't loaded, or one of the files that it requires isn't read.
pub record CommitFaults {A O W C : Type 0} (g : Ghosts O W C) (old new : FilesState O)
    (result : Result A TantivyError) : Type 0 where
  pub quiet : OnOk result ((g.view new.outside).faults ≡ (g.view old.outside).faults)
  pub cause : IfErr result (LoadingCause (loading_facts g old new)
      (UnloadedFor g old.form.schema old.outside new.outside))
