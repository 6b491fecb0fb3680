-- A tree gives names exactly where it is a schema's, and then those of its fields.
use Rattle.std.proofs.Common.{◌≡◌, ℕ, List, Some, None, cond, option_and_then, sym, ap, ◌∙◌}
use Rattle.std.proofs.lemmas.Option.{same_Some}
use Rattle.serde_json.specs.Data.{Data, null, boolean, number, string, array, object, Items, Members}
use Rattle.serde_json.specs.Find.{as_array, as_object, as_str}
use Rattle.tv_formats.specs.Ids.{are_distinct}
use Rattle.tv_formats.specs.Schemas.{IsSchemaTree, is_bounded}
use Rattle.tv_formats.proofs.Options.{and_then_some, where_some}
use Rattle.tv_metas.specs.SchemaReading.{names_in, names_of, if_distinct}
use Rattle.tv_metas.proofs.Options.{and_then_is}
use Rattle.tv_metas.proofs.FieldNames.{fields_to, fields_back}

pub array_is : (d : Data) (ds : Items) → as_array d ≡ Some ds → d ≡ array ds
array_is null ds h = cc
array_is (boolean b) ds h = cc
array_is (number n) ds h = cc
array_is (string s) ds h = cc
array_is (array es) ds h = cc
array_is (object ms) ds h = cc

pub object_is : (d : Data) (ms : Members) → as_object d ≡ Some ms → d ≡ object ms
object_is null ms h = cc
object_is (boolean b) ms h = cc
object_is (number n) ms h = cc
object_is (string s) ms h = cc
object_is (array ds) ms h = cc
object_is (object ns) ms h = cc

pub string_is : (d : Data) (text : List ℕ) → as_str d ≡ Some text → d ≡ string text
string_is null text h = cc
string_is (boolean b) text h = cc
string_is (number n) text h = cc
string_is (string t) text h = cc
string_is (array ds) text h = cc
string_is (object ms) text h = cc

pub schema_to : (d : Data) (names : List (List ℕ)) → names_of d ≡ Some names → IsSchemaTree d names
schema_to d names h =
    let a = and_then_some _ (as_array d) names h in
    let b = where_some (is_bounded 32 d) _ names a.2 in
    let c = and_then_some if_distinct (names_in a.0) names b.1 in
    let e = where_some (are_distinct c.0) (Some c.0) names c.2 in
    let same = same_Some c.0 names e.1 in
    record {
      items = a.0;
      is_array = array_is d a.0 a.1;
      bounded = b.0;
      fields = fields_to a.0 names (c.1 ∙ e.1);
      distinct = ap are_distinct (sym same) ∙ e.0;
    }

pub schema_back : (d : Data) (names : List (List ℕ)) → IsSchemaTree d names → names_of d ≡ Some names
schema_back d names h =
    and_then_is _ (as_array d) h.items (Some names) (ap as_array h.is_array)
    (ap (λ b. cond b (option_and_then if_distinct (names_in h.items)) None) h.bounded
    ∙ and_then_is if_distinct (names_in h.items) names (Some names) (fields_back h.items names h.fields) (ap (λ b. cond b (Some names) None) h.distinct))
