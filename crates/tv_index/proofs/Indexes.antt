-- How an index is opened, made and read, put together from its calls.
use Rattle.tv_base.specs.declared.executor.Executor.{Executor}
use Rattle.std.proofs.Common.{◌≡◌, ℕ, ◌≤◌, List, [], ◌∷◌, map, Option, Some, refl, sym, ap, subst, ◌∙◌}
use Rattle.std.specs.Prelude.{All}
use Rattle.std.specs.List.{AllByRecursion}
use Rattle.std.proofs.lemmas.List.Elements.{All-from_recursion}
use Rattle.tv_device.specs.View.{View}
use Rattle.tv_device.specs.declared.directory.Directory.{Ghosts}
use Rattle.tv_managed.specs.Frames.{KeepsNames}
use Rattle.tv_managed.specs.Wrapping.{Wraps}
use Rattle.tv_managed.specs.Names.{ManagedNames}
use Rattle.tv_formats.specs.Commits.{Commit, IsCommit, IsSegment, Settings}
use Rattle.tv_formats.specs.Meaning.{Means}
use Rattle.tv_formats.specs.Names.{meta_name}
use Rattle.tv_formats.specs.Segments.{num_deleted}
use Rattle.tv_index.specs.Indexes.{KeepsIndex, MeansSuch}
use Rattle.tv_metas.specs.Metas.{commit_of, settings_of}
use Rattle.tv_metas.specs.Segments.{entry_of}
use Rattle.tv_index.specs.Standing.{LoadsMeta}
use Rattle.tv_metas.specs.Tracked.{KeptMetas, Share}
use Rattle.tv_metas.specs.declared.index_meta.UntrackedIndexMeta.{UntrackedIndexMeta}
use Rattle.tv_metas.specs.declared.index_settings.IndexSettings.{IndexSettings}
use Rattle.tv_metas.specs.declared.segment_meta.InnerSegmentMeta.{InnerSegmentMeta}

-- ---- segments of a commit

within : (segments : List InnerSegmentMeta) → AllByRecursion IsSegment (map entry_of segments) → AllByRecursion (λ s. num_deleted s.deletes ≤ s.max_doc) segments
within [] h = tt
within (s ∷ segments) h = (h.0.deletes, within segments h.1)

-- no more documents are deleted than there are
pub all_within : (meta : UntrackedIndexMeta) → IsCommit (commit_of meta) → All (λ s. num_deleted s.deletes ≤ s.max_doc) meta.segments.items
all_within meta is = All-from_recursion (λ (s : InnerSegmentMeta). num_deleted s.deletes ≤ s.max_doc) meta.segments.items (within meta.segments.items is.segments)

-- the same commit, as other values have it
pub means_as : (settings others : Settings) (schema text bytes : List ℕ) (commit other : Commit) → others ≡ settings → schema ≡ text → other ≡ commit → Means settings schema bytes commit
    → Means others text bytes other
means_as settings others schema text bytes commit other s t c h =
    subst (λ (x : Settings). Means x text bytes other) (sym s) (subst (λ (l : List ℕ). Means settings l bytes other) t (subst (λ (x : Commit). Means settings schema bytes x) (sym c) h))

-- the ids of the segments that were read
ids_of_entries : (segments : List InnerSegmentMeta) → map (λ s. s.segment_id) segments ≡ map (λ e. e.0) (map entry_of segments)
ids_of_entries [] = refl
ids_of_entries (s ∷ segments) = ap (λ (ids : List (List ℕ)). s.segment_id ∷ ids) (ids_of_entries segments)

pub ids_mean : {D W C : Type 0} (g : Ghosts D W C) (directory : D) (schema : List ℕ) (meta : UntrackedIndexMeta) (ids : List (List ℕ)) → LoadsMeta g directory (Some schema) meta
    → ids ≡ map (λ s. s.segment_id) meta.segments.items → g.told.content → MeansSuch schema ((g.view directory).reads meta_name) (λ commit. ids ≡ map (λ e. e.0) commit.segments)
ids_mean g directory schema meta ids loads is t =
    let m = loads.means t in (
      m.0,
      m.1,
      (
        settings_of meta,
        commit_of meta,
        means_as (settings_of meta) (settings_of meta) meta.schema schema m.0 (commit_of meta) (commit_of meta) refl loads.schema refl m.2,
        is ∙ ids_of_entries meta.segments.items,
      ),
    )

-- the segments that were read, in shares
pub shares_mean : {D W C : Type 0} (g : Ghosts D W C) (directory : D) (schema : List ℕ) (meta : UntrackedIndexMeta) (shares : List Share) → LoadsMeta g directory (Some schema) meta
    → map (λ s. s.1) shares ≡ map entry_of meta.segments.items → g.told.content
    → MeansSuch schema ((g.view directory).reads meta_name) (λ commit. commit.segments ≡ map (λ s. s.1) shares)
shares_mean g directory schema meta shares loads is t =
    let m = loads.means t in (
      m.0,
      m.1,
      (
        settings_of meta,
        commit_of meta,
        means_as (settings_of meta) (settings_of meta) meta.schema schema m.0 (commit_of meta) (commit_of meta) refl loads.schema refl m.2,
        sym is,
      ),
    )

-- ---- the index that stands

module _ {D W C : Type 0} (g : Ghosts D W C) (before : D) (wrapped : D × ManagedNames) (w : Wraps g before wrapped) where
  pub loads_before : (expected : Option (List ℕ)) (meta : UntrackedIndexMeta) → LoadsMeta g wrapped.0 expected meta → LoadsMeta g before expected meta
  loads_before expected meta h = record {
    has = h.has;
    schema = h.schema;
    means = λ t. let m = h.means t in (m.0, sym (w.frame.content t meta_name) ∙ m.1, m.2);
    spelled = λ t. let m = h.spelled t in (m.0, sym (w.frame.content t meta_name) ∙ m.1, m.2);
  }

-- an index keeps all else where its directory's names stay
pub keeps_index : {D W : Type 0} {keeps : View W → View W → Type 0} {view : D → View W} {old now : D × ManagedNames} (settings : IndexSettings) (schema : List ℕ) (kept : KeptMetas) (executor : Executor) → KeepsNames keeps view old now
    → KeepsIndex keeps view (record { directory = old; settings = settings; schema = schema; kept = kept; executor = executor }) (record { directory = now; settings = settings; schema = schema; kept = kept; executor = executor })
keeps_index settings schema kept executor h = record { form = record { directory = h; settings = refl; schema = refl; executor = refl }; kept = refl }
