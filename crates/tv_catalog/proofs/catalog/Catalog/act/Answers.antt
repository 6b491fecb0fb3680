use Rattle.std.proofs.Common.{sym, subst}
use Rattle.std.proofs.lemmas.Result.{err_from_is_err_and}
use Rattle.tv_events.specs.declared.event.Event.{Event}
use Rattle.tv_catalog.specs.Catalogs.{CatalogCause}
use Rattle.tv_catalog.specs.Exhausted.{SpendsNumber}
use Rattle.tv_catalog.proofs.catalog.Catalog.act.Goals as goal

pub returns-in_err-answer-in-Searcher-clause-faults : goal.returns-in_err-answer-in-Searcher-clause-faults
returns-in_err-answer-in-Searcher-clause-faults c =
    let failed = c.from_residual-in_err-answer-in-Searcher in
    let e = err_from_is_err_and failed.result failed.ensures.1 in
    rw (e.1, e.2) (record {
      fits = tt;
      cause = subst (λ (event : Event). CatalogCause (SpendsNumber c.args.self.now event) c.in_err-answer-in-Searcher.field-0.0)
          (sym c.in-Searcher.is) c.in_err-answer-in-Searcher.ensures.faults.cause;
    })

pub returns-in_err-answer-in-ReloadPublish-clause-faults : goal.returns-in_err-answer-in-ReloadPublish-clause-faults
returns-in_err-answer-in-ReloadPublish-clause-faults c =
    let failed = c.from_residual-in_err-answer-in-ReloadPublish in
    let e = err_from_is_err_and failed.result failed.ensures.1 in
    rw (e.1, e.2) (record {
      fits = tt;
      cause = subst (λ (event : Event). CatalogCause (SpendsNumber c.args.self.now event) c.in_err-answer-in-ReloadPublish.field-0.0)
          (sym c.in-ReloadPublish.is) c.in_err-answer-in-ReloadPublish.ensures.faults.cause;
    })
