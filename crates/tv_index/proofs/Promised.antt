-- What the laws follow from.
use Rattle.std.proofs.Common.{◌≡◌, ℕ, true, false, List, ◌++◌, Some, Result, Ok, Err, refl, sym, ap, ◌∙◌, subst}
use Rattle.std.specs.Prelude.{IfErr, IfOk, IsSome, MatchResult, OnOk, is_some}
use Rattle.std.proofs.lemmas.Bool.{or_parts, true≢false, false_from_ne_true}
use Rattle.std.proofs.lemmas.Option.{same_Some}
use Rattle.hex.specs.Hex.{encode_lower}
use Rattle.serde_json.specs.Data.{Data}
use Rattle.tv_base.specs.declared.error.TantivyError.{TantivyError}
use Rattle.tv_device.specs.declared.directory.Directory.{Ghosts}
use Rattle.tv_managed.specs.declared.managed_directory.Refused.{Refused}
use Rattle.tv_formats.specs.Commits.{Commit, IndexForm, Settings}
use Rattle.tv_formats.specs.Files.{Same}
use Rattle.tv_formats.specs.Meaning.{Means}
use Rattle.tv_formats.specs.MetaJson.{SpellsMeta}
use Rattle.tv_formats.specs.Names.{has, meta_name}
use Rattle.tv_formats.specs.Segments.{is_named}
use Rattle.tv_formats.proofs.MeansOne.{means_spelled}
use Rattle.tv_formats.proofs.OneMeaning.{one_meaning}
use Rattle.tv_formats.proofs.Required.{begins_named}
use Rattle.tv_index.specs.Indexes.{IndexState, NewSegmentCause, OpensIndexOf, OpensStanding, is_id_used}
use Rattle.tv_metas.specs.Metas.{commit_of, settings_of}
use Rattle.tv_index.specs.NewForms.{NotOpenedForm}
use Rattle.tv_metas.specs.Settings.{settings_view}
use Rattle.tv_metas.specs.Tracked.{has_id}

-- ---- names

-- no managed name begins with the id of a new segment
pub begins_no_name : {D A : Type 0} (index : IndexState D) (id : List ℕ) (result : Result A TantivyError) → MatchResult result (λ _. is_id_used index id ≡ false) (NewSegmentCause index id)
    → OnOk result ((rest : List ℕ) → has index.directory.1.managed (encode_lower id ++ rest) ≡ false)
begins_no_name index id (Ok a) unused = λ rest.
    let none = (or_parts (has_id index.kept id) (is_named index.directory.1.managed id) unused).1 in
    false_from_ne_true _ (λ there. true≢false (sym (begins_named index.directory.1.managed id (encode_lower id ++ rest) (rest, refl) there) ∙ none))
begins_no_name index id (Err error) cause = tt

-- ---- openings

module _ {D W C : Type 0} (g : Ghosts D W C) (before : D) where
  -- where an index stands, each name reads what it read
  pub spares : (form : IndexForm) (result : Result (IndexState D) (Refused D)) → IfOk result (OpensIndexOf g before form)
      → IfErr result (λ refused. NotOpenedForm g before form refused.directory refused.error) → g.told.content → IsSome ((g.view before).reads meta_name)
      → MatchResult result (λ index. Same (g.view before).reads (g.view index.directory.0).reads) (λ refused. Same (g.view before).reads (g.view refused.directory).reads)
  spares form (Ok index) opens fails tells there = (opens.opens.left tells).stood there
  spares form (Err refused) opens fails tells there = (fails.left tells).stood there

  -- its settings are those that are stored
  pub stored_settings : (index : IndexState D) → OpensStanding g before index → g.told.content → (bytes : List ℕ) (settings : Settings) (commit : Commit) (schema : Data) → (g.view before).reads meta_name ≡ Some bytes
      → SpellsMeta bytes settings commit schema → settings_view index.settings ≡ settings
  stored_settings index opens tells bytes settings commit schema reads spells =
      let means = opens.loads.means tells in
      let same : means.0 ≡ bytes = same_Some means.0 bytes (sym means.1 ∙ reads) in
      let meant : Means (settings_of opens.meta) opens.meta.schema bytes (commit_of opens.meta) =
      subst (λ (l : List ℕ). Means (settings_of opens.meta) opens.meta.schema l (commit_of opens.meta)) same means.2 in
      let own = means_spelled (settings_of opens.meta) opens.meta.schema bytes (commit_of opens.meta) meant (ap is_some spells.parsed) in
      ap settings_view opens.shows.settings ∙ (one_meaning bytes (settings_of opens.meta) settings (commit_of opens.meta) commit meant.tree schema own spells).0
