use Rattle.std.proofs.Common.{inr, ap, subst, Ok, Err}
use Rattle.std.specs.Arc.{arc_value}
use Rattle.tv_reader.specs.Searchers.{SearcherState, shown_as}
use Rattle.tv_reader.specs.Warming.{Warms}
use Rattle.tv_reader.proofs.Counting.{shows, skips}
use Rattle.tv_reader.proofs.Live.{shown_is_live}
use Rattle.tv_reader.proofs.publishing.publish.Goals as goal

pub returns-in-Ok-clause-ok : goal.returns-in-Ok-clause-ok
returns-in-Ok-clause-ok g c =
    let m = g.W.Warmer in
    let counts = c.in_ok-searcher.ensures in (
      shows c.args.published.now c.count.new.self c.show.new.self (arc_value c.args.commit) c.in_ok-searcher.searcher counts.ok counts.searcher c.show.ensures,
      subst (λ (x : SearcherState). Warms m.errors m.test m.called_for x.shown c.args.warmers.now c.warm_new.new.self (Ok tt)) counts.searcher c.in-Ok.ensures,
    )

pub returns-in-Err-clause-cause : goal.returns-in-Err-clause-cause
returns-in-Err-clause-cause g c =
    let m = g.W.Warmer in
    let counts = c.in_ok-searcher.ensures in
    inr (
      skips c.args.published.now c.count.new.self c.release.new.self (shown_as c.args.published.now.next (arc_value c.args.commit)) c.in_ok-searcher.searcher.ticket counts.ok (ap (λ (x : SearcherState). x.ticket) counts.searcher) counts.fresh.0 c.release.ensures,
      subst (λ (x : SearcherState). Warms m.errors m.test m.called_for x.shown c.args.warmers.now c.warm_new.new.self (Err c.in-Err.error)) counts.searcher c.in-Err.ensures,
    )

pub returns-in-Ok-clause-live : goal.returns-in-Ok-clause-live
returns-in-Ok-clause-live g c =
    let counts = c.in_ok-searcher.ensures in
    shown_is_live c.args.published.now c.show.new.self (arc_value c.args.commit) counts.fresh.1
    (shows c.args.published.now c.count.new.self c.show.new.self (arc_value c.args.commit) c.in_ok-searcher.searcher counts.ok counts.searcher c.show.ensures)
