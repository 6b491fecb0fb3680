use Rattle.tv_events.specs.declared.event.Event.TheVariants as events
use Rattle.std.proofs.Common.{Some}
use Rattle.tv_script.proofs.LineLaws.{is_commit}
use Rattle.tv_script.proofs.laws.keeps_the_payload.Goals as goal

pub returns : goal.returns
returns c text digits ids fits decoded is short = c.parse_event.ensures.only (events.Commit (Some text) ids) (is_commit c.args.line.now text digits ids fits decoded is short)
