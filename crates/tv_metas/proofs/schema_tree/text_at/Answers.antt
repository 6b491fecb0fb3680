use Rattle.std.proofs.Common.{ap, ◌∙◌}
use Rattle.std.specs.Prelude.{option_and_then}
use Rattle.serde_json.specs.Find.{as_str}
use Rattle.tv_metas.proofs.schema_tree.text_at.Goals as goal

pub returns : goal.returns
returns c = c.as_str.ensures ∙ ap (option_and_then as_str) c.in_ok-get.ensures
