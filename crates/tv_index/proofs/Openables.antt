-- That an index can be opened, or can't, put together from a wrap and a load.
use Rattle.std.proofs.Common.{◌≡◌, ℕ, List, Option, Some, None, refl, subst, ◌∙◌}
use Rattle.tv_base.specs.declared.error.TantivyError.{TantivyError}
use Rattle.tv_device.specs.View.{OnlyReads}
use Rattle.tv_device.specs.ViewLaws.{reads_then}
use Rattle.tv_device.specs.declared.directory.Directory.{Ghosts}
use Rattle.tv_managed.specs.Names.{ManagedNames}
use Rattle.tv_managed.specs.Wrapping.{NotWrapped, Wraps}
use Rattle.tv_formats.specs.Commits.{Commit, Settings, default_settings, first_commit, new_form}
use Rattle.tv_formats.specs.Files.{Rose}
use Rattle.tv_formats.specs.Sound.{FindsCommit, managed_with}
use Rattle.tv_formats.specs.Names.{meta_name}
use Rattle.tv_metas.specs.Metas.{commit_of, settings_of}
use Rattle.tv_index.specs.Openable.{FindsOpenable, IsOpenable, NotOpenable}
use Rattle.tv_index.specs.Opening.{LoadCause, Loads}
use Rattle.tv_metas.specs.declared.index_meta.UntrackedIndexMeta.{UntrackedIndexMeta}
use Rattle.tv_index.proofs.Openings.{loaded_cause, unlisted_cause}

-- a commit that was loaded, or the first one of a new index
found_commit : (schema : List ℕ) (read : Option (List ℕ)) (found : Option UntrackedIndexMeta)
    → Loads schema read found → (settings : Settings) × (commit : Commit) × FindsCommit schema read settings commit
found_commit schema None found h = (default_settings, first_commit, (refl, refl))
found_commit schema (Some bytes) None h = absurd h
found_commit schema (Some bytes) (Some meta) h = (settings_of meta, commit_of meta, h)

module _ {D W C : Type 0} (g : Ghosts D W C) (before : D) (schema : List ℕ) where
  -- the list isn't read
  pub unlisted : (now : D) (error : TantivyError) → NotWrapped g before now error → NotOpenable g before schema now error
  unlisted now error h = record { cause = unlisted_cause g before (new_form schema) now error h.cause; frame = h.frame }

  module _ (wrapped now : D × ManagedNames) (w : Wraps g before wrapped) (read : OnlyReads g.told (g.view wrapped.0) (g.view now.0)) where
    only_read : OnlyReads g.told (g.view before) (g.view now.0)
    only_read = reads_then w.frame read

    -- `meta.json` was loaded, or isn't there
    pub openable : (found : Option UntrackedIndexMeta) → (g.told.content → Loads schema ((g.view wrapped.0).reads meta_name) found)
        → (g.view now.0).faults ≡ (g.view wrapped.0).faults → FindsOpenable g before schema now.0
    openable found loads quiet = record { openable = finds; quiet = quiet ∙ w.quiet; frame = only_read } where
      finds : g.told.content → IsOpenable (g.view before).reads schema
      finds t =
          let here = subst (λ (r : Option (List ℕ)). Loads schema r found) (w.frame.content t meta_name) (loads t) in
          let commit = found_commit schema ((g.view before).reads meta_name) found here in
          record {
            form = record { settings = commit.0; schema = schema };
            commit = commit.1;
            managed = managed_with ((g.view before).reads meta_name) wrapped.1.managed;
            schema_is = refl;
            finds = record { listed = wrapped.1.managed; listing = w.names t; found = commit.2; managed_is = refl };
          }

    -- it wasn't
    pub unloaded : (error : TantivyError)
        → LoadCause g.told.content schema ((g.view wrapped.0).reads meta_name) (Rose (g.view wrapped.0).faults (g.view now.0).faults) ((g.view now.0).faults ≡ (g.view wrapped.0).faults) error
        → NotOpenable g before schema now.0 error
    unloaded error h = record { cause = loaded_cause g before (new_form schema) wrapped w now.0 error h; frame = only_read }
