use Rattle.std.proofs.Common.{◌≡◌, List, ℕ}
use Rattle.std.proofs.lemmas.Result.{IfOk-weaker}
use Rattle.tv_formats.specs.Commits.{Settings}
use Rattle.tv_machine.specs.Index.{DirectoryHolds}
use Rattle.tv_machine.specs.State.{State}
use Rattle.tv_replay.specs.Summaries.{IsStanding}
use Rattle.tv_replay.proofs.StandingIndexes.{managed_are, same_holds}
use Rattle.tv_replay.proofs.summary.standing_in.Goals as goal

pub returns : goal.returns
returns g c t =
    let D = g.D.Directory in
    let before = (D.view c.args.directory).reads in
    let wrapped = c.in-Ok.directory in
    let wraps = c.in-Ok.ensures.wraps in
    IfOk-weaker c.look_into-standing.result
    (λ standing. (settings : Settings) (schema : List ℕ) (s : State) → s.managed ≡ wrapped.1.managed → DirectoryHolds settings schema (D.view wrapped.0).reads s → IsStanding s standing.opstamp standing.files)
    (λ standing. (settings : Settings) (schema : List ℕ) (s : State) → DirectoryHolds settings schema before s → IsStanding s standing.opstamp standing.files)
    (λ standing h settings schema s holds.
    h settings schema s (managed_are before wrapped.1.managed s.managed (wraps.names t) holds.listing) (same_holds settings schema before (D.view wrapped.0).reads s (wraps.frame.content t) holds))
    (c.look_into-standing.ensures t)
