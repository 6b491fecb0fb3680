use Rattle.std.proofs.Common.{◌∙◌, None, ap}
use Rattle.std.specs.Arc.{arc_value}
use Rattle.tv_reader.specs.Publishing.{ReloadedBy, UnpublishedBy}
use Rattle.tv_reader.specs.Readers.{ReaderState}
use Rattle.tv_reader.specs.Searchers.{CommitRead}
use Rattle.tv_reader.proofs.Counting.{of_read}
use Rattle.tv_reader.proofs.publishing.publish_read.Goals as goal

pub returns-in-Ok-clause-ok : goal.returns-in-Ok-clause-ok
returns-in-Ok-clause-ok g c =
    let m = g.W.Warmer in
    let s = c.args.published.now in
    of_read s.reload (arc_value c.in_ok-commit.commit) (λ (commit : CommitRead). ReloadedBy m.errors m.test m.called_for commit s c.end_reload.new.self c.args.warmers.now c.publish.new.warmers) c.in_ok-commit.ensures
    (c.end_reload.ensures.ended ∙ ap (λ (m : ReaderState). record m { reload = None }) c.in-Ok.ensures.ok.0, c.in-Ok.ensures.ok.1)

pub returns-in-Err-clause-cause : goal.returns-in-Err-clause-cause
returns-in-Err-clause-cause g c =
    let m = g.W.Warmer in
    let s = c.args.published.now in
    of_read s.reload (arc_value c.in_ok-commit.commit) (λ (commit : CommitRead). UnpublishedBy m.errors m.test m.called_for commit s c.publish.new.published c.args.warmers.now c.publish.new.warmers c.in-Err.error) c.in_ok-commit.ensures c.in-Err.ensures.cause
