-- The canonical text of a schema's tree is a schema's text.
use Rattle.std.proofs.Common.{◌≡◌, ℕ, List, false, Some, ap, ◌∙◌}
use Rattle.std.specs.Prelude.{IsUtf8}
use Rattle.serde_json.specs.Data.{Data}
use Rattle.serde_json.specs.Read.{read}
use Rattle.serde_json.specs.Written.{compact_text, items_text}
use Rattle.tv_formats.specs.Schemas.{IsSchemaText, IsSchemaTree}

pub canonical_form : (text : List ℕ) (d : Data) (names : List (List ℕ)) → IsSchemaTree d names → IsUtf8 text → text ≡ compact_text d → read text ≡ Some d
    → IsSchemaText text d
canonical_form text d names form utf8 is reads = record {
  utf8 = utf8;
  rest = items_text false form.items;
  begins = is ∙ ap compact_text form.is_array;
  parsed = reads;
  names = names;
  form = form;
}
