use Rattle.serde_json.specs.View.{view}
use Rattle.tv_metas.specs.MetaReading.{held_by}
use Rattle.tv_metas.proofs.HandedOn.{told_on}
use Rattle.tv_metas.proofs.Parsed.{corrupt_tree, payload_utf8, spelled}
use Rattle.tv_metas.proofs.printed.held_in.Goals as goal

pub returns-in_err-body : goal.returns-in_err-body
returns-in_err-body c =
    told_on c.from_residual-in_err-body.result c.in_err-body.field-0.0 _ c.from_residual-in_err-body.ensures.1 (λ x q. q) _ _
    (corrupt_tree c.in_err-body.field-0.0 c.args.text.now (view c.in_ok-tree.tree) c.in_ok-tree.ensures.ok.1 c.in_err-body.ensures.body)

pub returns : goal.returns
returns c =
    let schema = view c.in_ok-body.field-0-1.now in (
      schema,
      spelled c.args.text.now (view c.in_ok-tree.tree) (held_by c.in_ok-body.body schema) c.in_ok-tree.ensures.ok.0 c.in_ok-tree.ensures.ok.1
          c.in_ok-body.ensures.body (payload_utf8 c.in_ok-body.body.payload),
    )
