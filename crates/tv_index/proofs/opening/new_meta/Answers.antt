use Rattle.std.proofs.Common.{◌∙◌, ap}
use Rattle.tv_index.specs.NewForms.{form_with}
use Rattle.tv_metas.specs.Settings.{settings_view}
use Rattle.tv_index.proofs.Openings.{is_first}
use Rattle.tv_index.proofs.opening.new_meta.Goals as goal

pub returns : goal.returns
returns c =
    let first = c.first_meta.ensures in
    is_first (form_with c.args.settings c.args.schema.now) c.first_meta.result (ap settings_view first.settings) first.commit (first.schema ∙ c.in_ok-schema.ensures.text) first.blocksize
