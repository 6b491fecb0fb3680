use Rattle.std.proofs.Common.{rules, ◌≡◌, Ok, Err, subst}
use Rattle.std.specs.Arc.{arc_value}
use Rattle.tv_reader.specs.Searchers.{CommitShown, shown_as}
use Rattle.tv_reader.specs.Warming.{WarmersState, Warms, new_warmers}
use Rattle.tv_reader.proofs.WarmerErrors.{is_of_one}
use Rattle.tv_reader.proofs.publishing.open_warmed.Goals as goal

pub returns-in-Ok-clause-ok : goal.returns-in-Ok-clause-ok
returns-in-Ok-clause-ok g c =
    let m = g.W.Warmer in
    let is : c.shown.result.now.shown ≡ shown_as 0 (arc_value c.args.commit) = search rules in (
      c.in_ok-published.ensures,
      subst (λ (x : CommitShown). Warms m.errors m.test m.called_for x (new_warmers c.args.warmers.items) c.warm_new.new.self (Ok tt)) is
          (subst (λ (w : WarmersState g.row.W.Denot). Warms m.errors m.test m.called_for c.shown.result.now.shown w c.warm_new.new.self (Ok tt)) c.in_ok-left.ensures c.in-Ok.ensures),
    )

pub returns-in-Err-clause-cause : goal.returns-in-Err-clause-cause
returns-in-Err-clause-cause g c =
    let m = g.W.Warmer in
    is_of_one m.errors m.test m.called_for c.shown.result.now.shown c.args.warmers.items c.warm_new.new.self c.in-Err.error
    (subst (λ (w : WarmersState g.row.W.Denot). Warms m.errors m.test m.called_for c.shown.result.now.shown w c.warm_new.new.self (Err c.in-Err.error)) c.in_ok-left.ensures c.in-Err.ensures)
