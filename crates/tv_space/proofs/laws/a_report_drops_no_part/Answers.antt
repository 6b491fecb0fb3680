use Rattle.tv_space.proofs.EveryPart.{drops_none}
use Rattle.tv_space.proofs.laws.a_report_drops_no_part.Goals as goal

pub returns : goal.returns
returns g c t = drops_none (λ text. text.items) (g.D.Directory.view c.args.index.now.directory.0).reads c.args.index.now.schema c.space_report.result (c.space_report.ensures.report t)
