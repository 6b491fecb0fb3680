-- The texts of schemas.
use Rattle.std.proofs.Common.{◌≡◌, ◌≤◌, ℕ, true, List, [], ◌∷◌, length, None, Some, Result, Ok, Err, sym, ap, ◌∙◌, subst, eqb-true}
use Rattle.std.specs.Prelude.{IfOk, IsSome, IsUtf8, MatchResult, nat_eq, String, string_bytes}
use Rattle.std.specs.declared.alloc.Global.{Global}
use Rattle.std.specs.List.{starts_with}
use Rattle.std.proofs.lemmas.Option.{same_Some}
use Rattle.std.proofs.lemmas.Bool.{and_parts}
use Rattle.std.proofs.lemmas.Str.{IsUtf8-string_bytes}
use Rattle.serde_json.specs.Data.{Data}
use Rattle.serde_json.specs.Read.{read}
use Rattle.serde_json.specs.Written.{compact_text}
use Rattle.tv_formats.specs.Schemas.{IsSchema, IsSchemaText, IsSchemaTree, IsNoSchema, stripped}
use Rattle.tv_metas.specs.declared.read_error.ReadError.{ReadError}
use Rattle.tv_metas.specs.Reads.{IfCorrupt}
use Rattle.tv_metas.specs.SchemaReading.{names_of}
use Rattle.tv_metas.specs.Schemas.{HasSchemaTree, IsKept, IsNoSchemaText}
use Rattle.tv_metas.proofs.HandedOn.{if_corrupt}
use Rattle.tv_metas.proofs.CanonicalTexts.{canonical_form}
use Rattle.tv_metas.proofs.SchemaForms.{schema_to, schema_back}

-- a text whose tree gives no names
pub no_form : (e : ReadError) (text bytes : List ℕ) (d : Data) → bytes ≡ text → IsUtf8 bytes × (read bytes ≡ Some d) → IfCorrupt e (names_of d ≡ None)
    → IfCorrupt e (IsNoSchemaText text)
no_form e text bytes d is h =
    if_corrupt e (names_of d ≡ None) (IsNoSchemaText text) (λ none tree s.
    (let same : d ≡ tree = same_Some d tree (sym h.1 ∙ ap read is ∙ s.parsed) in
    let two : None ≡ Some s.names = sym none ∙ ap names_of same ∙ schema_back tree s.names s.form in cc))

begins_there : (text : List ℕ) → starts_with nat_eq text (91 ∷ []) ≡ true → (rest : List ℕ) × (text ≡ 91 ∷ rest)
begins_there [] h = cc
begins_there (b ∷ rest) h = (rest, ap (λ (x : ℕ). x ∷ rest) (sym (eqb-true 91 b (and_parts (nat_eq 91 b) true h).0)))

-- a text that was read
pub text_form : (text bytes : List ℕ) (d : Data) (names : List (List ℕ)) → bytes ≡ text → IsUtf8 bytes × (read bytes ≡ Some d)
    → starts_with nat_eq text (91 ∷ []) ≡ true
    → names_of d ≡ Some names → IsSchemaText text d
text_form text bytes d names is h begins of =
    let b = begins_there text begins in
    record {
      utf8 = subst IsUtf8 is h.0;
      rest = b.0;
      begins = b.1;
      parsed = ap read (sym is)
          ∙ h.1;
      names = names;
      form = schema_to d names of;
    }

pub kept_form : (text canonical : List ℕ) (d : Data) (names : List (List ℕ)) → IsSchemaText text d → IsSchemaTree d names → canonical ≡ compact_text d
    → read canonical ≡ Some d → IsKept text names canonical
kept_form text canonical d names form tree is reads = record { tree = d; text_is = form; form = tree; canonical_is = is; reads = reads }

-- the canonical text of a tree, in a copy
pub copied_form : (text : List ℕ) (canonical : String Global) (d : Data) (names : List (List ℕ)) → text ≡ string_bytes canonical → IsSchemaTree d names
    → string_bytes canonical ≡ compact_text d → read (string_bytes canonical) ≡ Some d
    → IsSchemaText text d
copied_form text canonical d names same form is reads =
    subst (λ (t : List ℕ). IsSchemaText t d) (sym same) (canonical_form (string_bytes canonical) d names form (IsUtf8-string_bytes canonical) is reads)

-- bytes that are read, by their text without blanks
pub spelled_by : (r : Result (List ℕ) ReadError) (bytes text : List ℕ) → text ≡ stripped bytes → length bytes ≤ 1048576 → IsUtf8 bytes → IsSome (read bytes)
    → IfOk r (λ s. s ≡ text) → MatchResult r (λ _. HasSchemaTree text) (λ e. IfCorrupt e (IsNoSchemaText text))
    → MatchResult r (IsSchema bytes) (λ e. IfCorrupt e (IsNoSchema bytes))
spelled_by (Ok s) bytes text is size utf8 whole ok form = record {
  size = size;
  utf8 = utf8;
  whole = whole;
  text_is = ok ∙ is;
  tree = form.tree;
  form = subst (λ (t : List ℕ). IsSchemaText t form.tree) (sym ok) form.text_is;
}
spelled_by (Err e) bytes text is size utf8 whole ok form =
    if_corrupt e (IsNoSchemaText text) (IsNoSchema bytes) (λ none other s. none s.tree
    (subst (λ (t : List ℕ). IsSchemaText t s.tree) (s.text_is ∙ sym is) s.form)) form
