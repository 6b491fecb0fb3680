use Rattle.std.proofs.Common.{Some, sym, ap, ◌∙◌}
use Rattle.tv_device.specs.StoredFiles.{last_of, named}
use Rattle.tv_replay.proofs.FirstRuns.{replays_generated}
use Rattle.tv_replay.proofs.summary.replay_generated.Goals as goal

pub returns-in-Ok : goal.returns-in-Ok
returns-in-Ok c =
    let bench = c.in_ok-bench.ensures.new in
    replays_generated _ c.in_ok-bench.bench c.replay-outside.result.outside c.args.n _ _ c.in-Ok.tally tt tt
    (λ m. bench.reads m ∙ ap (λ files. last_of (named files) m) c.new-2.ensures.items)
    bench.heard bench.refusals (sym c.refusals.ensures ∙ c.if-refusals-eq0.true)
    (ap (λ script. Some script.left) c.new-script.ensures ∙ ap Some c.in_ok-generate.ensures)
    (rw c.in-Ok.is at c.replay-outside.ensures.done)
