use Rattle.std.proofs.lemmas.Result.{IfOk-weaker}
use Rattle.tv_formats.proofs.Options.{some_value}
use Rattle.tv_managed.proofs.Spared.{ended_keeps, next_stays}
use Rattle.tv_managed.proofs.laws.collect_end_keeps_failed_names.Goals as goal

pub returns-clause-failed : goal.returns-clause-failed
returns-clause-failed g c =
    let some = some_value _ c.requires in
    IfOk-weaker c.collect_end.result _ _ (λ told ended. ended_keeps c.args.id some.0 c.args.directory.now.1 c.collect_end.new.self.1 told ended) (c.collect_end.ensures.ends.ok some.0 some.1)

pub returns-clause-next : goal.returns-clause-next
returns-clause-next g c =
    let some = some_value _ c.requires in
    next_stays g.D.Directory c.args.id some.0 c.collect_end.result some.1 c.collect_end.ensures.ends
