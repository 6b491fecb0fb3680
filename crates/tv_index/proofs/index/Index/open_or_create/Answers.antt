use Rattle.std.proofs.Common.{ap, subst}
use Rattle.std.specs.Prelude.{MatchResult}
use Rattle.tv_formats.specs.Commits.{IndexForm, Settings}
use Rattle.tv_index.specs.Crashes.{LacksMeta, MakesNone, MayMake, TracksFrom}
use Rattle.tv_index.specs.NewForms.{new_text}
use Rattle.tv_index.proofs.index.Index.open_or_create.Goals as goal

pub returns-clause-safe : goal.returns-clause-safe
returns-clause-safe g c =
    let D = g.D.Directory in
    let lacks = LacksMeta D c.args.directory in
    subst (λ (form : IndexForm). D.tells_images → MatchResult c.open_or_create_with.result
    (λ index. MayMake D lacks (new_text form) c.args.directory index.directory.0 × TracksFrom D c.args.directory index.directory)
    (λ refused. MakesNone D lacks (new_text form) c.args.directory refused.directory refused.error))
    (ap (λ (s : Settings). record { settings = s; schema = c.args.schema }) c.new.ensures.settings) c.open_or_create_with.ensures.safe
