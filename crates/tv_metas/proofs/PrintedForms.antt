-- The printed form of a commit, cut around its schema.
use Rattle.std.proofs.Common.{◌≡◌, ◌≢◌, inl, ℕ, zero, suc, ◌+◌, ◌<◌, ◌≤◌, ◌==◌, Bool, true, false, true≢false, cond, not, nat_lt, List, [], ◌∷◌, ◌++◌, length, take, drop, get_or, position, Option, Some, None, codes, length-append, refl, sym, ap, ap₂, ◌∙◌, subst, arith, eqb-true}
use Rattle.std.proofs.Math.Seq.{get_or-append_seam}
use Rattle.std.specs.List.{position_or_len}
use Rattle.std.specs.Prelude.{MatchOption}
use Rattle.std.proofs.lemmas.Bool.{and_parts}
use Rattle.std.proofs.lemmas.Bool.Decides.{nat_tests}
use Rattle.std.proofs.lemmas.List.Quantifiers.{position-Some}
use Rattle.std.proofs.lemmas.List.Sums.{fails_before_first}
use Rattle.std.proofs.lemmas.List.{append_cancel_left}
use Rattle.serde_json.specs.Data.{Data, array, no_items}
use Rattle.tv_formats.specs.Commits.{Commit, Settings, printed}
use Rattle.tv_formats.specs.Meaning.{IsPrinted, IsNotPrinted, Means, SpellsNothing}
use Rattle.tv_formats.specs.MetaJson.{SpellsMeta}
use Rattle.tv_formats.proofs.CutApart.{after_schema, bare_spells, before_close, free_before, printed_cut}
use Rattle.tv_formats.proofs.OneMeaning.{one_meaning}
use Rattle.tv_formats.proofs.SpelledCommits.{spells_commit}
use Rattle.tv_metas.specs.declared.index_meta.UntrackedIndexMeta.{UntrackedIndexMeta}
use Rattle.tv_metas.specs.declared.read_error.ReadError.{ReadError}
use Rattle.tv_metas.specs.Metas.{commit_of, settings_of}
use Rattle.tv_metas.specs.Printed.{IsAround, IsAroundNone, IsBared, has_no_bracket}
use Rattle.tv_metas.specs.Reads.{IfCorrupt}
use Rattle.tv_metas.specs.Schemas.{HasSchemaTree}
use Rattle.tv_metas.proofs.HandedOn.{if_corrupt}

-- ---- bytes that are cut at the first bracket that is closed

abbrev closes : ℕ → Bool
closes b = b == 93

open_part : (x : ℕ) (xs : List ℕ) → has_no_bracket (x ∷ xs) ≡ true → (closes x ≡ false) × (has_no_bracket xs ≡ true)
open_part x xs h = let p = and_parts (not (closes x)) (has_no_bracket xs) h in (other (closes x) p.0, p.1)
  where
    other : (b : Bool) → not b ≡ true → b ≡ false
    other true e = absurd (true≢false (sym e))
    other false e = refl

one_cut : (xs ys us vs : List ℕ) → has_no_bracket xs ≡ true → has_no_bracket ys ≡ true → xs ++ 93 ∷ us ≡ ys ++ 93 ∷ vs → (xs ≡ ys) × (us ≡ vs)
one_cut [] [] us vs f g e = (refl, cc)
one_cut [] (y ∷ ys) us vs f g e =
    let first : 93 ≡ y = cc in absurd (true≢false (ap closes first ∙ (open_part y ys g).0))
one_cut (x ∷ xs) [] us vs f g e =
    let first : 93 ≡ x = cc in absurd (true≢false (ap closes first ∙ (open_part x xs f).0))
one_cut (x ∷ xs) (y ∷ ys) us vs f g e =
    let first : x ≡ y = cc in
    let rest : xs ++ 93 ∷ us ≡ ys ++ 93 ∷ vs = cc in
    let c = one_cut xs ys us vs (open_part x xs f).1 (open_part y ys g).1 rest in
    (ap₂ (λ (z : ℕ) (zs : List ℕ). z ∷ zs) first c.0, c.1)

split_first : (bytes : List ℕ) (i : ℕ) → i < length bytes → closes (get_or bytes i 0) ≡ true → ((k : ℕ) → k < i → closes (get_or bytes k 0) ≡ false)
    → (has_no_bracket (take i bytes) ≡ true) × (rest : List ℕ) × (bytes ≡ take i bytes ++ 93 ∷ rest) × (drop i bytes ≡ 93 ∷ rest)
split_first [] i lt is before = absurd (omega (arith, lt))
split_first (x ∷ xs) zero lt is before = let same : x ≡ 93 = eqb-true x 93 is in (refl, xs, ap (λ (y : ℕ). y ∷ xs) same, ap (λ (y : ℕ). y ∷ xs) same)
split_first (x ∷ xs) (suc i) lt is before =
    let not_here : closes x ≡ false = before 0 (omega arith) in
    let more = split_first xs i (omega (arith, lt)) is (λ k h. before (suc k) (omega (arith, h))) in
    (rw not_here more.0, more.1, ap (λ (l : List ℕ). x ∷ l) more.2, more.3)

-- two parts around a schema are these
pub around_one : (schema bytes front back first last : List ℕ) → IsAround schema bytes front back → IsAround schema bytes first last
    → (front ≡ first) × (back ≡ last)
around_one schema bytes front back first last h k =
    let key = codes ",\"schema\":" in
    let c = one_cut front first (key ++ (schema ++ back)) (key ++ (schema ++ last)) h.unclosed k.unclosed (sym h.bytes_are ∙ k.bytes_are) in
    (c.0, append_cancel_left schema back last (append_cancel_left key (schema ++ back) (schema ++ last) c.1))

module _ (schema bytes : List ℕ) where
  -- no bracket is closed
  pub none_closed : position (λ b. b == 93) bytes ≡ None → IsAroundNone schema bytes
  none_closed none front back h =
      let rest = codes ",\"schema\":" ++ (schema ++ back) in
      let seam : get_or bytes (length front) 0 ≡ 93 =
      ap (λ (l : List ℕ). get_or l (length front) 0) h.bytes_are ∙ get_or-append_seam front 93 rest 0 in
      let long : length bytes ≡ length front + length (93 ∷ rest) = ap length h.bytes_are ∙ length-append front (93 ∷ rest) in
      let behind : length bytes ≤ position_or_len closes bytes = at (nat_lt (position_or_len closes bytes) (length bytes)) refl none in
      let not_here : closes (get_or bytes (length front) 0) ≡ false = fails_before_first closes bytes (length front) 0 (omega (arith, long, behind)) in
      true≢false (ap closes (sym seam) ∙ not_here)
    where
      at : (b : Bool) → nat_lt (position_or_len closes bytes) (length bytes) ≡ b → cond b (Some (position_or_len closes bytes)) None ≡ None
          → length bytes ≤ position_or_len closes bytes
      at true e is = absurd cc
      at false e is = grind (arith, nat_tests)

  module _ (end : ℕ) (found : position (λ b. b == 93) bytes ≡ Some end) where
    cut : (has_no_bracket (take end bytes) ≡ true) × (rest : List ℕ) × (bytes ≡ take end bytes ++ 93 ∷ rest) × (drop end bytes ≡ 93 ∷ rest)
    cut = let p = position-Some closes bytes end 0 found in split_first bytes end p.0 p.1 p.2

    behind : (front back : List ℕ) → IsAround schema bytes front back → drop end bytes ≡ codes "],\"schema\":" ++ (schema ++ back)
    behind front back h =
        let c = one_cut (take end bytes) front cut.1 (codes ",\"schema\":" ++ (schema ++ back)) cut.0 h.unclosed (sym cut.2 ∙ h.bytes_are) in
        cut.3 ∙ ap (λ (l : List ℕ). 93 ∷ l) c.1

    -- no key of a schema follows the bracket
    pub no_key : (rest : List ℕ) → rest ≡ drop end bytes → ((tail : List ℕ) → rest ≢ codes "],\"schema\":" ++ tail) → IsAroundNone schema bytes
    no_key rest is none front back h = none (schema ++ back) (is ∙ behind front back h)

    -- another schema follows the key
    pub no_schema : (rest tail : List ℕ) → rest ≡ drop end bytes → rest ≡ codes "],\"schema\":" ++ tail → ((back : List ℕ) → tail ≢ schema ++ back)
        → IsAroundNone schema bytes
    no_schema rest tail is key none front back h =
        none back (append_cancel_left (codes "],\"schema\":") tail (schema ++ back) (sym key ∙ is ∙ behind front back h))

    -- this one does
    pub around : (front rest tail back : List ℕ) → front ≡ take end bytes → rest ≡ drop end bytes → rest ≡ codes "],\"schema\":" ++ tail → tail ≡ schema ++ back
        → IsAround schema bytes front back
    around front rest tail back first is key here = record {
      unclosed = ap has_no_bracket first ∙ cut.0;
      bytes_are =
          cut.2
          ∙ ap₂ (λ (a b : List ℕ). a ++ b) (sym first) (sym cut.3 ∙ sym is ∙ key ∙ ap (λ (l : List ℕ). codes "],\"schema\":" ++ l) here);
    }

-- nothing was found
pub none_on : {A : Type 0} (result : Option A) (P : Type 0) (Q : A → Type 0) → result ≡ None → P → MatchOption result P Q
none_on {A} result P Q is p = subst (λ (o : Option A). MatchOption o P Q) (sym is) p

pub if_none : {A : Type 0} (result : Option A) (P : Type 0) (Q : A → Type 0) → result ≡ None → MatchOption result P Q → P
if_none {A} result P Q is h = subst (λ (o : Option A). MatchOption o P Q) is h

-- ---- printed forms

printed_around : (settings : Settings) (schema bytes : List ℕ) (commit : Commit) → IsPrinted settings schema bytes commit
    → IsAround schema bytes (before_close settings commit) (after_schema commit)
printed_around settings schema bytes commit p = record { unclosed = free_before settings commit; bytes_are = p.printed_is ∙ printed_cut settings schema commit }

pub unprinted : (schema bytes : List ℕ) → IsAroundNone schema bytes → IsNotPrinted schema bytes
unprinted schema bytes none settings commit p =
    none (before_close settings commit) (after_schema commit) (printed_around settings schema bytes commit p)

-- with the schema without fields in its place
pub bared : (schema bytes front back text : List ℕ) → IsAround schema bytes front back → text ≡ front ++ (codes "],\"schema\":[]" ++ back)
    → IsBared schema bytes text
bared schema bytes front back text h is settings commit p =
    let one = around_one schema bytes front back (before_close settings commit) (after_schema commit) h (printed_around settings schema bytes commit p) in
    record {
      is_commit = p.is_commit;
      blocksize = p.blocksize;
      printed_is =
          is ∙ ap₂ (λ (a b : List ℕ). a ++ (codes "],\"schema\":[]" ++ b)) one.0 one.1 ∙ sym (printed_cut settings (codes "[]") commit);
    }

module _ (schema bytes text : List ℕ) (bare : IsBared schema bytes text) where
  own : (settings : Settings) (commit : Commit) → IsPrinted settings schema bytes commit → SpellsMeta text settings commit (array no_items)
  own settings commit p =
      let q = bare settings commit p in
      subst (λ (l : List ℕ). SpellsMeta l settings commit (array no_items)) (sym q.printed_is) (bare_spells settings (codes "[]") text commit q)

  -- where that spells nothing
  pub unheld : (e : ReadError) → IfCorrupt e (SpellsNothing text) → IfCorrupt e (IsNotPrinted schema bytes)
  unheld e h = if_corrupt e (SpellsNothing text) (IsNotPrinted schema bytes) (λ none settings commit p. none settings commit (array no_items) (own settings commit p)) h

  module _ (meta : UntrackedIndexMeta) (tree : Data) (spells : SpellsMeta text (settings_of meta) (commit_of meta) tree) (again : List ℕ)
      (again_is : again ≡ printed (settings_of meta) schema (commit_of meta) ++ 10 ∷ []) where
    -- where what it spells is printed so, and where it isn't
    pub printed_again : again ≡ bytes → HasSchemaTree schema → Means (settings_of meta) schema bytes (commit_of meta)
    printed_again same has =
        let commit = spells_commit text (settings_of meta) (commit_of meta) tree spells in
        record { tree = has.tree; schema_is = has.text_is; said = inl (record { is_commit = commit.0; blocksize = commit.1; printed_is = sym same ∙ again_is }) }

    pub printed_otherwise : again ≢ bytes → IsNotPrinted schema bytes
    printed_otherwise other settings commit p =
        let one = one_meaning text settings (settings_of meta) commit (commit_of meta) (array no_items) tree (own settings commit p) spells in
        other
        (again_is ∙ ap₂ (λ (x : Settings) (c : Commit). printed x schema c ++ 10 ∷ []) (sym one.0) (sym one.1) ∙ sym p.printed_is)
