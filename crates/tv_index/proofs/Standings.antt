-- What is read of `meta.json` where it has to be there.
use Rattle.std.proofs.Common.{◌≡◌, ℕ, List, Option, Some, None, Result, Ok, Err, refl, sym, subst}
use Rattle.std.specs.Prelude.{IfErr, IfOk, IfSome, IsErrAnd}
use Rattle.tv_base.specs.Causes.{OpenReadCause}
use Rattle.tv_base.specs.declared.error.TantivyError.{TantivyError}
use Rattle.tv_base.specs.declared.error.TantivyError.TheVariants as errors
use Rattle.tv_base.specs.declared.open_errors.OpenReadError.{OpenReadError}
use Rattle.tv_base.specs.declared.open_errors.OpenReadError.TheVariants as opening
use Rattle.tv_device.specs.declared.directory.Directory.{Ghosts}
use Rattle.tv_formats.specs.Files.{Rose}
use Rattle.tv_formats.specs.Meaning.{Means, MeansNothing, MeansOther}
use Rattle.tv_formats.specs.Names.{meta_name}
use Rattle.tv_metas.specs.Metas.{commit_of, settings_of}
use Rattle.tv_metas.specs.Parsing.{IsForExpected, ParseCause, SpellsUnlessExpected}
use Rattle.tv_index.specs.Opening.{HasCommit, LoadCause, LoadFaults, Loads, NoneIfAbsent, OfBytes}
use Rattle.tv_index.specs.Standing.{LoadsMeta, MetaCause, MetaFaults, OfRead, UnreadAs}
use Rattle.tv_metas.specs.declared.index_meta.UntrackedIndexMeta.{UntrackedIndexMeta}
use Rattle.tv_index.proofs.Openings.{means_has}

-- the bytes were read, and mean no such commit
parse_cause : (tells : Type 0) (expected read : Option (List ℕ)) (bytes : List ℕ) (refused quiet : Type 0) (error : TantivyError) → quiet → (tells → read ≡ Some bytes)
    → ParseCause expected bytes error → MetaCause tells expected read refused quiet error
parse_cause tells expected read bytes refused quiet (errors.DataCorruption why) q is h = (q, h.0, (bytes, is, h.1))
parse_cause tells expected read bytes refused quiet (errors.SchemaError text) q is h = (q, h.0, (bytes, is, h.1))
parse_cause tells expected read bytes refused quiet errors.Memory q is h = q
parse_cause tells expected read bytes refused quiet other q is h = absurd h

module _ {D W C : Type 0} (g : Ghosts D W C) (old new : D) (expected : Option (List ℕ)) where
  pub parsed_faults : (result : Result UntrackedIndexMeta TantivyError) (bytes : List ℕ) → (g.view new).faults ≡ (g.view old).faults → (g.told.content → (g.view old).reads meta_name ≡ Some bytes)
      → IfErr result (ParseCause expected bytes) → MetaFaults g old new expected result
  parsed_faults (Ok meta) bytes quiet is h = record { quiet = quiet; cause = tt }
  parsed_faults (Err error) bytes quiet is h = record { quiet = tt; cause = parse_cause g.told.content expected ((g.view old).reads meta_name) bytes _ _ error quiet is h }

  pub parsed_meta : (result : Result UntrackedIndexMeta TantivyError) (bytes : List ℕ) → (g.told.content → (g.view old).reads meta_name ≡ Some bytes)
      → IfOk result (λ meta. Means (settings_of meta) meta.schema bytes (commit_of meta)) → IfOk result (λ meta. IsForExpected expected meta.schema)
      → IfOk result (λ meta. SpellsUnlessExpected expected bytes (settings_of meta) (commit_of meta))
      → IfOk result (LoadsMeta g old expected)
  parsed_meta (Ok meta) bytes is means schema spelled = record {
    has = means_has meta.schema bytes meta means refl;
    schema = schema;
    means = λ t. (bytes, is t, means);
    spelled = λ t. (bytes, is t, spelled);
  }
  parsed_meta (Err error) bytes is means schema spelled = tt

  -- they weren't
  abbrev Cause : TantivyError → Type 0
  Cause error = MetaCause g.told.content expected ((g.view old).reads meta_name) (Rose (g.view old).faults (g.view new).faults) ((g.view new).faults ≡ (g.view old).faults) error

  pub unread_cause : (read : OpenReadError) (error : TantivyError)
      → OpenReadCause meta_name ((g.told.content → (g.view old).reads meta_name ≡ None) × ((g.view new).faults ≡ (g.view old).faults)) (Rose (g.view old).faults (g.view new).faults) ((g.view new).faults ≡ (g.view old).faults) read
      → UnreadAs read error → Cause error
  unread_cause (opening.FileDoesNotExist path) error h is = subst Cause (sym is) (h.0, (h.1.1, h.1.0))
  unread_cause (opening.IoError fault path) error h is = subst Cause (sym is) (h.1, h.2)
  unread_cause (opening.IncompatibleIndex why) error h is = absurd h
  unread_cause opening.Memory error h is = subst Cause (sym is) h

-- ---- what need not be there

pub other_error : (error : TantivyError) → ((why : OpenReadError) → error ≡ errors.OpenReadError why → ⊥) → NoneIfAbsent error (Err error)
other_error (errors.OpenReadError why) isnt = absurd (isnt why refl)
other_error other isnt = refl

-- what is read means a commit under the schema
pub loads_found : {D W C : Type 0} (g : Ghosts D W C) (directory : D) (schema : List ℕ) (meta : UntrackedIndexMeta) → LoadsMeta g directory (Some schema) meta → g.told.content → Loads schema ((g.view directory).reads meta_name) (Some meta)
loads_found g directory schema meta h t =
    let means = h.means t in
    subst (λ (read : Option (List ℕ)). Loads schema read (Some meta)) (sym means.1) (subst (λ (s : List ℕ). Means (settings_of meta) s means.0 (commit_of meta)) h.schema means.2)

pub has_found : {D W C : Type 0} (g : Ghosts D W C) (directory : D) (schema : List ℕ) (meta : UntrackedIndexMeta) → LoadsMeta g directory (Some schema) meta → HasCommit schema meta
has_found g directory schema meta h = record { schema_is = h.schema; is_commit = h.has.is_commit; blocksize = h.has.blocksize }

of_read : (says : List ℕ → Type 0) (tells : Type 0) (read : Option (List ℕ)) → OfRead tells read says → tells → OfBytes says read
of_read says tells read (bytes, is, said) t = subst (OfBytes says) (sym (is t)) said

module _ {D W C : Type 0} (g : Ghosts D W C) (old new : D) (schema : List ℕ) where
  abbrev Unread : TantivyError → Type 0
  Unread error = MetaCause g.told.content (Some schema) ((g.view old).reads meta_name) (Rose (g.view old).faults (g.view new).faults) ((g.view new).faults ≡ (g.view old).faults) error

  absent : (why : OpenReadError) → Unread (errors.OpenReadError why) → ((g.view new).faults ≡ (g.view old).faults) × (g.told.content → (g.view old).reads meta_name ≡ None)
  absent (opening.FileDoesNotExist path) h = h.1
  absent (opening.IoError fault path) h = absurd h.2
  absent (opening.IncompatibleIndex why) h = absurd h
  absent opening.Memory h = absurd h

  -- there is none, and nothing is found
  none_found : (why : OpenReadError) → Unread (errors.OpenReadError why) → g.told.content → Loads schema ((g.view old).reads meta_name) None
  none_found why h t = subst (λ (read : Option (List ℕ)). Loads schema read None) (sym ((absent why h).1 t)) refl

  abbrev Told : Result (Option UntrackedIndexMeta) TantivyError → Type 0
  Told result = (g.told.content → IfOk result (Loads schema ((g.view old).reads meta_name))) × IfOk result (λ found. IfSome found (HasCommit schema)) × LoadFaults g old new schema result

  fails : (result : Result (Option UntrackedIndexMeta) TantivyError) (error : TantivyError) → result ≡ Err error
      → LoadCause g.told.content schema ((g.view old).reads meta_name) (Rose (g.view old).faults (g.view new).faults) ((g.view new).faults ≡ (g.view old).faults) error → Told result
  fails result error is cause = subst Told (sym is) ((λ t. tt), tt, record { quiet = tt; cause = cause })

  pub unless_found : (error : TantivyError) (result : Result (Option UntrackedIndexMeta) TantivyError) → Unread error → NoneIfAbsent error result → Told result
  unless_found (errors.OpenReadError why) result h is = subst Told (sym is) (none_found why h, tt, record { quiet = (absent why h).0; cause = tt })
  unless_found (errors.DataCorruption why) result h is = fails result (errors.DataCorruption why) is (h.0, h.1, of_read (MeansNothing (Some schema)) g.told.content ((g.view old).reads meta_name) h.2)
  unless_found (errors.SchemaError text) result h is = fails result (errors.SchemaError text) is (h.0, h.1, of_read (MeansOther schema) g.told.content ((g.view old).reads meta_name) h.2)
  unless_found (errors.IoError fault) result h is = fails result (errors.IoError fault) is h
  unless_found errors.Memory result h is = fails result errors.Memory is h
  unless_found other result h is = absurd h

-- a load that failed, as an error that is handed on
pub meta_fails : {A D W C : Type 0} (g : Ghosts D W C) (old new : D) (expected : Option (List ℕ)) (result : Result A TantivyError) (error : TantivyError)
    → IsErrAnd result (λ e. e ≡ error)
    → MetaCause g.told.content expected ((g.view old).reads meta_name) (Rose (g.view old).faults (g.view new).faults) ((g.view new).faults ≡ (g.view old).faults) error
    → MetaFaults g old new expected result
meta_fails g old new expected (Ok a) error h cause = absurd h
meta_fails g old new expected (Err e) error h cause = record { quiet = tt; cause = subst (MetaCause g.told.content expected _ _ _) (sym h) cause }
