-- A builder of an index, and why it builds none.
use Rattle.std.specs.Prelude.{◌≡◌, ℕ, List, codes, Option, None, string_bytes, Result, IfErr, MatchOption}
use Rattle.tv_base.specs.declared.error.TantivyError.{TantivyError}
use Rattle.tv_base.specs.declared.error.TantivyError.TheVariants as errors
use Rattle.tv_device.specs.View.{OnlyReads}
use Rattle.tv_device.specs.declared.directory.Directory.{Ghosts}
use Rattle.tv_managed.specs.Reading.{ReadsSuch}
use Rattle.tv_managed.specs.declared.managed_directory.Refused.{Refused}
use Rattle.tv_formats.specs.Commits.{Commit, Settings}
use Rattle.tv_formats.specs.Files.{Reads, Rose}
use Rattle.tv_formats.specs.Meaning.{Means}
use Rattle.tv_formats.specs.Names.{meta_name}
use Rattle.tv_index.specs.Crashes.{MakesSafely, OnlyLooks}
use Rattle.tv_index.specs.Indexes.{IndexState, StandingCause}
use Rattle.tv_index.specs.NewForms.{form_with, new_text}
use Rattle.tv_index.specs.Opening.{HasList}
use Rattle.tv_metas.specs.declared.index_settings.IndexSettings.{IndexSettings}

-- the settings of a new index, and the text of the schema that was passed, if one was
pub record Builder : Type 0 where
  pub settings : IndexSettings
  pub schema : Option (List ℕ)

-- no schema was passed
abbrev pub IsUnpassed : TantivyError → Type 0
IsUnpassed (errors.InvalidArgument text) = string_bytes text ≡ codes "no schema passed"
IsUnpassed errors.Memory = Unit {0}
IsUnpassed other = ⊥

-- an index stands, but no schema was passed
abbrev pub IsMissing : TantivyError → Type 0
IsMissing (errors.IndexBuilderMissingArgument text) = string_bytes text ≡ codes "schema"
IsMissing errors.Memory = Unit {0}
IsMissing other = ⊥

-- An index isn't made, since no schema was passed, and the directory comes back as it was handed in.
pub record LacksSchema {D : Type 0} (before now : D) (error : TantivyError) : Type 0 where
  pub same : now ≡ before
  pub cause : IsUnpassed error

-- an index stands there: the list is one of some names, and `meta.json` means a commit, of whatever schema
pub record IsIndex (reads : Reads) : Type 0 where
  pub lists : HasList reads
  pub settings : Settings
  pub schema : List ℕ
  pub commit : Commit
  pub means : ReadsSuch (reads meta_name) (λ bytes. Means settings schema bytes commit)

-- Why nothing is opened without a schema: none was passed, and no index stands there; or an index stands
-- there; or, as of any index that stands, it can't be opened.
abbrev pub SchemalessCause : (tells : Type 0) → Reads → (refused quiet : Type 0) → TantivyError → Type 0
SchemalessCause tells reads refused quiet (errors.InvalidArgument text) =
    quiet × (string_bytes text ≡ codes "no schema passed")
    × (tells → HasList reads × (reads meta_name ≡ None))
SchemalessCause tells reads refused quiet (errors.IndexBuilderMissingArgument text) =
    quiet × (string_bytes text ≡ codes "schema") × (tells → IsIndex reads)
SchemalessCause tells reads refused quiet (errors.OpenReadError why) = ⊥
SchemalessCause tells reads refused quiet other = StandingCause tells reads refused quiet other

-- Nothing is opened, since no schema was passed, and the directory comes back. Nothing was changed.
pub record OpensNone {D W C : Type 0} (g : Ghosts D W C) (before now : D)
    (error : TantivyError) : Type 0 where
  pub cause : SchemalessCause g.told.content (g.view before).reads
      (Rose (g.view before).faults (g.view now).faults) ((g.view now).faults ≡ (g.view before).faults) error
  pub frame : OnlyReads g.told (g.view before) (g.view now)

-- A builder opens an index or makes one, whatever it answers, as `Index` does with its settings and its
-- schema. Where no schema was passed it makes nothing.
abbrev pub BuildsSafely : {D W C : Type 0} → Ghosts D W C → (made : Type 0) → Builder → (before : D)
    → Result (IndexState D) (Refused D) → Type 0
BuildsSafely g made builder before result =
    MatchOption builder.schema (IfErr result (λ refused. OnlyLooks g before refused.directory))
    (λ schema. MakesSafely g made (new_text (form_with builder.settings schema)) before
    (λ index. index.directory) result)
