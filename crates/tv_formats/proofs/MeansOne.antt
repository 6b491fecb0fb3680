-- What bytes mean under an expected schema is one commit, under one settings. Where they are read as JSON, they spell it.
use Rattle.std.proofs.Common.{◌≡◌, ◌⊎◌, inl, inr, ◌<◌, ◌≤◌, ◌^◌, ℕ, Bool, true, false, true≢false, List, [], ◌∷◌, ◌++◌, Some, refl, sym, ap, ap₂, ◌∙◌, subst, ⊎_elim}
use Rattle.std.specs.Prelude.{IsSome, is_some}
use Rattle.json.specs.Lex.{tokens}
use Rattle.json.specs.Tree.{depth}
use Rattle.serde_json.specs.Data.{Data}
use Rattle.serde_json.specs.Read.{read}
use Rattle.tv_formats.specs.Names.{is}
use Rattle.tv_formats.specs.Schemas.{IsSchemaText}
use Rattle.tv_formats.specs.MetaJson.{SpellsMeta}
use Rattle.tv_formats.specs.Meaning.{IsPrinted, IsNotPrinted, Means, MeansNothing, MeansOther}
use Rattle.tv_formats.specs.Commits.{Commit, Settings, IsCommit, printed}
use Rattle.tv_formats.proofs.Entries.{is_itself, is_text}
use Rattle.tv_formats.proofs.JsonReadBack.{Spelled, spelled, one_tree}
use Rattle.tv_formats.proofs.PrintedTrees.{line_tokens, meta_json, schema_depth}
use Rattle.tv_formats.proofs.ReadPrinted.{schema_spelled, shallow_spells}
use Rattle.tv_formats.proofs.OneMeaning.{one_meaning}
use Rattle.tv_formats.proofs.SpelledCommits.{spells_commit}
use Rattle.tv_formats.proofs.CutApart.{printed_one}
use Rattle.tv_formats.proofs.Options.{some_value}

-- a printed form that is read as JSON spells its own commit
pub printed_spelled : (settings : Settings) (schema bytes : List ℕ) (commit : Commit) (tree : Data) → IsSchemaText schema tree
    → IsPrinted settings schema bytes commit → IsSome (read bytes) → SpellsMeta bytes settings commit tree
printed_spelled settings schema bytes commit tree s p there =
    let text : Spelled (91 ∷ s.rest) tree = schema_spelled schema tree s in
    let is : bytes ≡ printed settings (91 ∷ s.rest) commit ++ 10 ∷ [] = p.printed_is ∙ ap (λ (l : List ℕ). printed settings l commit ++ 10 ∷ []) s.begins in
    let d = some_value (read bytes) there in
    let w : Spelled bytes d.0 = spelled bytes d.0 d.1 in
    let same : w.tree ≡ meta_json settings commit text.tree =
    one_tree w.tree (meta_json settings commit text.tree)
    (sym w.same ∙ ap tokens is ∙ line_tokens settings commit p.blocksize p.is_commit s.rest text.tree text.numbers text.same) in
    let shallow : depth text.tree ≤ 126 = schema_depth settings commit text.tree (subst (λ j. depth j ≤ 127) same w.shallow) in
    subst (λ (l : List ℕ). SpellsMeta l settings commit tree) (sym p.printed_is)
    (shallow_spells settings schema tree commit p.is_commit p.blocksize s text shallow)

-- what bytes mean that are read as JSON, they spell
pub means_spelled : (settings : Settings) (schema bytes : List ℕ) (commit : Commit) (h : Means settings schema bytes commit) → IsSome (read bytes)
    → SpellsMeta bytes settings commit h.tree
means_spelled settings schema bytes commit h there =
    ⊎_elim (λ (p : IsPrinted settings schema bytes commit). printed_spelled settings schema bytes commit h.tree h.schema_is p there)
    (λ (s : IsNotPrinted schema bytes × SpellsMeta bytes settings commit h.tree). s.1) h.said

-- what bytes mean under a schema is one commit, under one settings
pub means_one : (settings others : Settings) (schema bytes : List ℕ) (commit other : Commit) → Means settings schema bytes commit → Means others schema bytes other
    → (settings ≡ others) × (commit ≡ other)
means_one settings others schema bytes commit other h k = by_both h.said k.said
  where
    by_both : IsPrinted settings schema bytes commit ⊎ (IsNotPrinted schema bytes × SpellsMeta bytes settings commit h.tree)
        → IsPrinted others schema bytes other ⊎ (IsNotPrinted schema bytes × SpellsMeta bytes others other k.tree) → (settings ≡ others) × (commit ≡ other)
    by_both (inl p) (inl q) = printed_one settings others schema bytes commit other p q
    by_both (inl p) (inr s) = absurd (s.0 settings commit p)
    by_both (inr s) (inl q) = absurd (s.0 others other q)
    by_both (inr s) (inr t) = let one = one_meaning bytes settings others commit other h.tree k.tree s.1 t.1 in (one.0, one.1)

-- bytes that spell a commit with the tree of the schema mean it
pub spelled_means : (settings : Settings) (schema bytes : List ℕ) (commit : Commit) (tree : Data) → IsSchemaText schema tree
    → SpellsMeta bytes settings commit tree → Means settings schema bytes commit
spelled_means settings schema bytes commit tree s h = by_text (is bytes (printed settings schema commit ++ 10 ∷ [])) refl
  where
    own : IsCommit commit × (settings.blocksize < 2 ^ 64)
    own = spells_commit bytes settings commit tree h

    by_text : (b : Bool) → is bytes (printed settings schema commit ++ 10 ∷ []) ≡ b → Means settings schema bytes commit
    by_text true e = record {
      tree = tree;
      schema_is = s;
      said = inl (record { is_commit = own.0; blocksize = own.1; printed_is = is_text bytes (printed settings schema commit ++ 10 ∷ []) e });
    }
    by_text false e = record {
      tree = tree;
      schema_is = s;
      said =
          inr (
            λ others other p.
                let one = one_meaning bytes settings others commit other tree tree h (printed_spelled others schema bytes other tree s p (ap is_some h.parsed)) in
                let same : bytes ≡ printed settings schema commit ++ 10 ∷ [] =
                p.printed_is ∙ ap₂ (λ (x : Settings) (c : Commit). printed x schema c ++ 10 ∷ []) (sym one.0) (sym one.1) in
                true≢false (sym (is_itself bytes) ∙ ap (is bytes) same ∙ e),
            h,
          );
    }

-- bytes that mean a commit under a schema don't mean nothing
pub means_something : (settings : Settings) (schema bytes : List ℕ) (commit : Commit) → Means settings schema bytes commit
    → MeansNothing (Some schema) bytes → ⊥
means_something settings schema bytes commit h none =
    ⊎_elim (λ (p : IsPrinted settings schema bytes commit). none.0 settings commit p)
    (λ (s : IsNotPrinted schema bytes × SpellsMeta bytes settings commit h.tree). none.1 settings commit h.tree s.1) h.said

-- bytes that mean a commit under a schema don't mean one of another schema
pub means_no_other : (settings : Settings) (schema bytes : List ℕ) (commit : Commit) → Means settings schema bytes commit → MeansOther schema bytes → ⊥
means_no_other settings schema bytes commit h other =
    ⊎_elim (λ (p : IsPrinted settings schema bytes commit). other.unprinted settings commit p)
    (λ (s : IsNotPrinted schema bytes × SpellsMeta bytes settings commit h.tree).
    let one = one_meaning bytes settings other.settings commit other.commit h.tree other.tree s.1 other.spelled in
    other.other (h.schema_is.parsed ∙ ap Some one.2)) h.said
