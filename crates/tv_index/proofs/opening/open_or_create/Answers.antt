use Rattle.std.proofs.Common.{ap, subst}
use Rattle.std.specs.Prelude.{MatchResult}
use Rattle.std.proofs.lemmas.Result.{IfOk-weaker, IfErr-weaker}
use Rattle.tv_formats.specs.Commits.{IndexForm, Settings}
use Rattle.tv_index.specs.Crashes.{LacksMeta, MakesNone, MayMake, TracksFrom}
use Rattle.tv_index.specs.NewForms.{form_with, new_text}
use Rattle.tv_index.proofs.Openings.{not_opened_default, opens_default}
use Rattle.tv_index.proofs.opening.open_or_create.Goals as goal

pub returns : goal.returns
returns g c =
    let schema = c.args.schema.now in
    let form = form_with c.new.result schema in
    let is = ap (λ (s : Settings). record { settings = s; schema = schema }) c.new.ensures.settings in
    record {
      opened = IfOk-weaker c.open_or_create_with.result _ _ (λ opened h. opens_default g.D.Directory c.args.directory schema form is opened.0 opened.1 h) c.open_or_create_with.ensures.opened;
      safe = subst (λ (form : IndexForm). g.D.Directory.tells_images → MatchResult c.open_or_create_with.result
          (λ opened. MayMake g.D.Directory (LacksMeta g.D.Directory c.args.directory) (new_text form) c.args.directory opened.0.0 × TracksFrom g.D.Directory c.args.directory opened.0)
          (λ refused. MakesNone g.D.Directory (LacksMeta g.D.Directory c.args.directory) (new_text form) c.args.directory refused.directory refused.error)) is c.open_or_create_with.ensures.safe;
      spares = c.open_or_create_with.ensures.spares;
      refused = IfErr-weaker c.open_or_create_with.result _ _ (λ refused h. not_opened_default g.D.Directory c.args.directory schema form is refused.directory refused.error h) c.open_or_create_with.ensures.refused;
    }
