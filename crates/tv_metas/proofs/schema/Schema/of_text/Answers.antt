use Rattle.std.proofs.Common.{rules, ◌≡◌, ◌∷◌, [], true}
use Rattle.std.specs.Prelude.{nat_eq}
use Rattle.std.specs.List.{starts_with}
use Rattle.serde_json.specs.View.{view}
use Rattle.tv_metas.specs.SchemaReading.{texts}
use Rattle.tv_metas.proofs.HandedOn.{told_on}
use Rattle.tv_metas.proofs.SchemaForms.{schema_to}
use Rattle.tv_metas.proofs.SchemaTexts.{kept_form, no_form, text_form}
use Rattle.tv_metas.proofs.schema.Schema.of_text.Goals as goal

pub returns-in_err-names-clause-form : goal.returns-in_err-names-clause-form
returns-in_err-names-clause-form c =
    told_on c.from_residual-in_err-names.result c.in_err-names.field-0.0 _ c.from_residual-in_err-names.ensures.1 (λ x q. q) _ _
    (no_form c.in_err-names.field-0.0 c.args.text.items c.as_slice.result.now
    (view c.in_ok-tree.tree) c.as_slice.ensures.value c.in_ok-tree.ensures.ok c.in_err-names.ensures.names)

pub invariant_of-result : goal.invariant_of-result
invariant_of-result c =
    let begins : starts_with nat_eq c.args.text.items (91 ∷ []) ≡ true = search rules in
    let d = view c.in_ok-tree.tree in
    let form = text_form c.args.text.items c.as_slice.result.now d
    (texts c.in_ok-names.names) c.as_slice.ensures.value c.in_ok-tree.ensures.ok begins c.in_ok-names.ensures.names in
    kept_form _ _ d (texts c.in_ok-names.names) form (schema_to d
    (texts c.in_ok-names.names) c.in_ok-names.ensures.names) c.in_ok-canonical.ensures.text c.in_ok-canonical.ensures.reads

pub returns-clause-form : goal.returns-clause-form
returns-clause-form c =
    let begins : starts_with nat_eq c.args.text.items (91 ∷ []) ≡ true = search rules in
    let d = view c.in_ok-tree.tree in
    record {
      tree = d;
      text_is = text_form c.args.text.items c.as_slice.result.now d
          (texts c.in_ok-names.names) c.as_slice.ensures.value c.in_ok-tree.ensures.ok begins c.in_ok-names.ensures.names;
    }
