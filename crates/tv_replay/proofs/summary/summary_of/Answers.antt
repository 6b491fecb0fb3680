use Rattle.std.proofs.Common.{◌≡◌, string_bytes, ap, ◌∙◌}
use Rattle.std.proofs.lemmas.Result.{IfOk-weaker}
use Rattle.tv_formats.specs.Commits.{default_settings}
use Rattle.tv_machine.specs.Index.{first_state}
use Rattle.tv_machine.specs.Machine.{after}
use Rattle.tv_replay.specs.Summaries.{collected_in, summary_line, IsSummaryOf}
use Rattle.tv_replay.proofs.FirstRuns.{summary_so}
use Rattle.tv_replay.proofs.summary.summary_of.Goals as goal

pub returns : goal.returns
returns c =
    let r = c.in_ok-events.ensures in
    let standing = c.in-Ok.ensures tt default_settings r.schema (after first_state r.turns) r.holds in
    let counted = c.in_ok-collected.ensures ∙ ap collected_in (c.as_slice.ensures.value ∙ c.in_ok-heard.ensures) in
    IfOk-weaker c.summary_line.result (λ line. string_bytes line ≡ summary_line c.in_ok-events.events c.in-Ok.standing.opstamp c.in-Ok.standing.files c.in_ok-collected.collected) (λ line. IsSummaryOf c.args.n (string_bytes line))
    (λ line is. summary_so c.args.n c.in_ok-events.events c.in-Ok.standing.opstamp c.in-Ok.standing.files c.in_ok-collected.collected _ (string_bytes line) _ r standing counted is)
    c.summary_line.ensures
