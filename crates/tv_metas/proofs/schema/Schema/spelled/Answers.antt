use Rattle.std.proofs.Common.{ap, arith}
use Rattle.std.specs.Prelude.{is_some}
use Rattle.tv_metas.proofs.SchemaTexts.{spelled_by}
use Rattle.tv_metas.proofs.schema.Schema.spelled.Goals as goal

pub returns : goal.returns
returns c =
    spelled_by c.of_text.result c.args.bytes.now c.in_ok-without_blanks.field-0.items c.in_ok-without_blanks.ensures
    (omega (arith, c.if-bytes-gt-MAX_SIZE.false)) c.in_ok-tree_of.ensures.ok.0
    (ap is_some c.in_ok-tree_of.ensures.ok.1) c.of_text.ensures.text c.of_text.ensures.form
