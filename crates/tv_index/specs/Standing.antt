-- The index that stands in a directory.
use Rattle.std.specs.Prelude.{◌≡◌, ℕ, List, codes, Option, Some, None, option_map, string_bytes, Result, IfErr, OnOk}
use Rattle.tv_base.specs.Causes.{IsDevice, OpenReadCause}
use Rattle.tv_base.specs.declared.error.TantivyError.{TantivyError}
use Rattle.tv_base.specs.declared.error.TantivyError.TheVariants as errors
use Rattle.tv_base.specs.declared.open_errors.OpenReadError.{OpenReadError}
use Rattle.tv_base.specs.declared.open_errors.OpenReadError.TheVariants as opening
use Rattle.tv_device.specs.declared.directory.Directory.{Ghosts}
use Rattle.tv_managed.specs.Reading.{ReadsSuch}
use Rattle.tv_formats.specs.Files.{Rose}
use Rattle.tv_formats.specs.Meaning.{Means, MeansNothing}
use Rattle.tv_formats.specs.Names.{meta_name}
use Rattle.tv_metas.specs.Metas.{commit_of, settings_of}
use Rattle.tv_index.specs.Opening.{HasCommit}
use Rattle.tv_metas.specs.Parsing.{IsForExpected, MeansOtherThan, SpellsUnlessExpected}
use Rattle.tv_metas.specs.declared.index_meta.UntrackedIndexMeta.{UntrackedIndexMeta}

-- Which error of the library stands for one of a read of `meta.json`: of a fault the device's answer alone.
abbrev pub UnreadAs : OpenReadError → TantivyError → Type 0
UnreadAs (opening.FileDoesNotExist path) error = error ≡ errors.OpenReadError (opening.FileDoesNotExist path)
UnreadAs (opening.IoError fault path) error = error ≡ errors.IoError fault
UnreadAs (opening.IncompatibleIndex why) error = error ≡ errors.IncompatibleIndex why
UnreadAs opening.Memory error = error ≡ errors.Memory

-- bytes of which this is true, which are those that are read where the content is told
abbrev pub OfRead : (tells : Type 0) → (read : Option (List ℕ)) → (List ℕ → Type 0) → Type 0
OfRead tells read says = (bytes : List ℕ) × (tells → read ≡ Some bytes) × says bytes

-- Why `meta.json` isn't read, where `tells` says that the content is told: it doesn't read; it means no
-- commit; or one of another schema than the expected one; or the device refused the call, which is `refused`,
-- or memory was wanted. `quiet` says that no call was refused.
abbrev pub MetaCause : (tells : Type 0) → (expected : Option (List ℕ)) → (read : Option (List ℕ))
    → (refused quiet : Type 0) → TantivyError → Type 0
MetaCause tells expected read refused quiet (errors.OpenReadError why) =
    OpenReadCause meta_name (quiet × (tells → read ≡ None)) ⊥ ⊥ why
MetaCause tells expected read refused quiet (errors.DataCorruption why) =
    quiet × (option_map string_bytes why.filepath ≡ Some meta_name)
    × OfRead tells read (MeansNothing expected)
MetaCause tells expected read refused quiet (errors.SchemaError text) =
    quiet × (string_bytes text ≡ codes "An index exists but the schema does not match.")
    × OfRead tells read (MeansOtherThan expected)
MetaCause tells expected read refused quiet (errors.IoError fault) = IsDevice fault × refused
MetaCause tells expected read refused quiet errors.Memory = quiet
MetaCause tells expected read refused quiet other = ⊥

-- a load of `meta.json` fails for one of the causes of `MetaCause`, and at Ok the device refused no call
pub record MetaFaults {A D W C : Type 0} (g : Ghosts D W C) (old new : D) (expected : Option (List ℕ))
    (result : Result A TantivyError) : Type 0 where
  pub quiet : OnOk result ((g.view new).faults ≡ (g.view old).faults)
  pub cause : IfErr result (MetaCause g.told.content expected ((g.view old).reads meta_name)
      (Rose (g.view old).faults (g.view new).faults) ((g.view new).faults ≡ (g.view old).faults))

-- The commit that `meta.json` means, under the expected schema where one is expected; else it spells it as
-- JSON.
pub record LoadsMeta {D W C : Type 0} (g : Ghosts D W C) (directory : D) (expected : Option (List ℕ))
    (meta : UntrackedIndexMeta) : Type 0 where
  pub has : HasCommit meta.schema meta
  pub schema : IsForExpected expected meta.schema
  pub means : g.told.content → ReadsSuch ((g.view directory).reads meta_name)
      (λ bytes. Means (settings_of meta) meta.schema bytes (commit_of meta))
  pub spelled : g.told.content → ReadsSuch ((g.view directory).reads meta_name)
      (λ bytes. SpellsUnlessExpected expected bytes (settings_of meta) (commit_of meta))
