-- The commit that is loaded from `meta.json` is that of each state that is held.
use Rattle.std.proofs.Common.{◌≡◌, ℕ, List, Some, sym, ap, subst, ◌∙◌}
use Rattle.tv_device.specs.declared.directory.Directory.{Ghosts}
use Rattle.tv_metas.specs.Metas.{commit_of, settings_of}
use Rattle.tv_metas.specs.Parsing.{MeansOtherThan}
use Rattle.tv_index.specs.Standing.{LoadsMeta, OfRead}
use Rattle.tv_metas.specs.declared.index_meta.UntrackedIndexMeta.{UntrackedIndexMeta}
use Rattle.tv_formats.specs.Commits.{Commit}
use Rattle.tv_formats.specs.Files.{Reads}
use Rattle.tv_formats.specs.Meaning.{Means, MeansNothing}
use Rattle.tv_formats.specs.Names.{meta_name}
use Rattle.tv_machine.specs.ReaderEvents.{bodies_in, snapshot_in}
use Rattle.tv_machine.specs.State.{State}
use Rattle.tv_formats.specs.declared.segment.LiveSegment.{LiveSegment}
use Rattle.tv_formats.proofs.MeansOne.{means_no_other, means_one, means_something}
use Rattle.tv_store.specs.Applying.{HoldsNone}
use Rattle.tv_store.specs.Bodies.{ReadsSegments}
use Rattle.tv_catalog.specs.Kept.{KeptState}
use Rattle.tv_store.specs.Kept.{Holds}

pub loaded_commit : {O W C : Type 0} (g : Ghosts O W C) (outside : O) (kept : KeptState) (s : State) (meta : UntrackedIndexMeta) → g.told.content
    → LoadsMeta g outside (Some kept.form.schema) meta → Holds (g.view outside).reads kept s → commit_of meta ≡ s.catalog.commit
loaded_commit g outside kept s meta tells loads held =
    let bytes = loads.means tells in
    let text = held.meta in
    let both : Some text.0 ≡ Some bytes.0 = sym text.1 ∙ bytes.1 in
    let same : bytes.0 ≡ text.0 = cc in
    let own : Means (settings_of meta) kept.form.schema text.0 (commit_of meta) =
    subst (λ (b : List ℕ). Means (settings_of meta) kept.form.schema b (commit_of meta)) same (subst (λ (x : List ℕ). Means (settings_of meta) x bytes.0 (commit_of meta)) loads.schema bytes.2) in
    (means_one (settings_of meta) kept.form.settings kept.form.schema text.0 (commit_of meta) s.catalog.commit own text.2).1

module _ (tells : Type 0) (reads : Reads) (kept : KeptState) where
  -- what is said of the bytes of `meta.json` is said of those that mean the commit
  of_text : (says : List ℕ → Type 0) → ((text : List ℕ) (s : State) → Means kept.form.settings kept.form.schema text s.catalog.commit → says text → ⊥) → OfRead tells (reads meta_name) says → HoldsNone tells reads kept
  of_text says never (bytes, is, said) t s held whole =
      let text = held.meta in
      let both : Some text.0 ≡ Some bytes = sym text.1 ∙ is t in
      let same : bytes ≡ text.0 = cc in
      never text.0 s text.2 (subst says same said)

  nothing_never : (text : List ℕ) (s : State) → Means kept.form.settings kept.form.schema text s.catalog.commit → MeansNothing (Some kept.form.schema) text → ⊥
  nothing_never text s means none = means_something kept.form.settings kept.form.schema text s.catalog.commit means none

  other_never : (text : List ℕ) (s : State) → Means kept.form.settings kept.form.schema text s.catalog.commit → MeansOtherThan (Some kept.form.schema) text → ⊥
  other_never text s means other = means_no_other kept.form.settings kept.form.schema text s.catalog.commit means other

  -- no state is held where the bytes are refused
  pub damaged_holds_none : OfRead tells (reads meta_name) (MeansNothing (Some kept.form.schema)) → HoldsNone tells reads kept
  damaged_holds_none = of_text (MeansNothing (Some kept.form.schema)) nothing_never

  pub other_holds_none : OfRead tells (reads meta_name) (MeansOtherThan (Some kept.form.schema)) → HoldsNone tells reads kept
  other_holds_none = of_text (MeansOtherThan (Some kept.form.schema)) other_never

-- what is shown of it
pub shown_is : (s : State) (generation : ℕ) (commit : Commit) (segments shown : List (List ℕ × LiveSegment)) (bodies : List (List (List ℕ))) → segments ≡ commit.segments → commit ≡ s.catalog.commit → ReadsSegments s segments shown bodies
    → record { generation = generation; commit = record commit { segments = shown }; bodies = bodies } ≡ snapshot_in s generation
shown_is s generation commit segments shown bodies listed is reads =
    let whole : record commit { segments = shown } ≡ s.catalog.commit = ap (λ (es : List (List ℕ × LiveSegment)). record commit { segments = es }) (reads.are ∙ listed) ∙ is in
    let bodies_are : bodies ≡ bodies_in s s.catalog.commit = reads.each ∙ ap (λ (es : List (List ℕ × LiveSegment)). bodies_in s (record commit { segments = es })) listed ∙ ap (λ (c : Commit). bodies_in s c) is in
    ap (λ (c : Commit). record { generation = generation; commit = c; bodies = bodies }) whole
    ∙ ap (λ (b : List (List (List ℕ))). record { generation = generation; commit = s.catalog.commit; bodies = b }) bodies_are
