use Rattle.serde_json.specs.View.{view}
use Rattle.tv_formats.proofs.MeansOne.{spelled_means}
use Rattle.tv_metas.specs.MetaReading.{held_by}
use Rattle.tv_metas.proofs.HandedOn.{told_on}
use Rattle.tv_metas.proofs.SchemaForms.{schema_to}
use Rattle.tv_metas.proofs.Parsed.{corrupt_tree, means_nothing, none_chosen, one_chosen, other_than, payload_utf8, spelled, spells_alone}
use Rattle.tv_metas.proofs.index_meta.read_spelled.Goals as goal

pub returns-in_err-body : goal.returns-in_err-body
returns-in_err-body c =
    told_on c.from_residual-in_err-body.result c.in_err-body.field-0.0 _ c.from_residual-in_err-body.ensures.1 (λ x q. q) _ _
    (means_nothing c.in_err-body.field-0.0 _ c.args.bytes.now c.requires.unprinted
    (corrupt_tree c.in_err-body.field-0.0 c.args.bytes.now (view c.in_ok-tree.tree) c.in_ok-tree.ensures.ok.1 c.in_err-body.ensures.body))

pub schema_for-requires : goal.schema_for-requires
schema_for-requires c = record { form = schema_to _ _ c.in_ok-body.ensures.names }

pub returns-in_default : goal.returns-in_default
returns-in_default c =
    let d = view c.in_ok-tree.tree in
    let schema = view c.in_ok-body.schema_tree.now in
    let held = held_by c.in_ok-body.body schema in
    other_than _ c.args.bytes.now held.settings held.commit schema c.requires.unprinted
    (spelled c.args.bytes.now d held c.in_ok-tree.ensures.ok.0 c.in_ok-tree.ensures.ok.1 c.in_ok-body.ensures.body (payload_utf8 c.in_ok-body.body.payload))
    (none_chosen _ schema c.in_ok-schema.field-0 c.in_default.is c.in_ok-schema.ensures)

pub returns : goal.returns
returns c =
    let d = view c.in_ok-tree.tree in
    let schema = view c.in_ok-body.schema_tree.now in
    let held = held_by c.in_ok-body.body schema in
    let own =
    spelled c.args.bytes.now d held c.in_ok-tree.ensures.ok.0 c.in_ok-tree.ensures.ok.1 c.in_ok-body.ensures.body (payload_utf8 c.in_ok-body.body.payload) in
    let chosen = one_chosen _ schema c.in_ok-schema.field-0 c.in-Some.schema c.in-Some.is c.in_ok-schema.ensures in (
      spelled_means held.settings c.in-Some.schema c.args.bytes.now held.commit schema chosen.0 own,
      chosen.1,
      spells_alone _ c.args.bytes.now held.settings held.commit schema own,
    )
