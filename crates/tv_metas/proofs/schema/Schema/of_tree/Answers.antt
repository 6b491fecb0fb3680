use Rattle.std.proofs.Common.{◌∙◌}
use Rattle.serde_json.specs.View.{view}
use Rattle.tv_metas.specs.SchemaReading.{texts}
use Rattle.tv_metas.proofs.SchemaTexts.{copied_form, kept_form}
use Rattle.tv_metas.proofs.schema.Schema.of_tree.Goals as goal

pub returns-clause-form : goal.returns-clause-form
returns-clause-form c =
    let k = c.in_ok-canonical.ensures in
    copied_form c.in_ok-text.text.items c.in_ok-canonical.canonical (view c.args.tree.now) (texts c.args.names)
    (c.in_ok-text.ensures.items ∙ c.as_bytes.ensures.value) c.requires.form k.text k.reads

pub invariant_of-result : goal.invariant_of-result
invariant_of-result c =
    let k = c.in_ok-canonical.ensures in
    let form = copied_form c.in_ok-text.text.items c.in_ok-canonical.canonical (view c.args.tree.now) (texts c.args.names)
    (c.in_ok-text.ensures.items ∙ c.as_bytes.ensures.value) c.requires.form k.text k.reads in
    kept_form _ _ (view c.args.tree.now) (texts c.args.names) form c.requires.form k.text k.reads
