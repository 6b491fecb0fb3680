use Rattle.std.proofs.Common.{ap, sym, ◌∙◌}
use Rattle.std.proofs.lemmas.Result.{IfOk-weaker}
use Rattle.tv_machine.specs.State.{Catalog}
use Rattle.tv_store.proofs.laws.events.reopens_what_was_committed.Goals as goal

pub returns-clause-live : goal.returns-clause-live
returns-clause-live g c h =
    IfOk-weaker c.apply.result _ _ (λ answer did.
    ap (λ (k : Catalog). k.live) (did.each h.tells h.state h.held h.whole).held.catalog ∙ ap (λ (k : Catalog). k.commit.segments) (sym h.held.catalog)) c.apply.ensures.step

pub returns-clause-commit : goal.returns-clause-commit
returns-clause-commit g c h =
    IfOk-weaker c.apply.result _ _ (λ answer did.
    ap (λ (k : Catalog). k.commit) (did.each h.tells h.state h.held h.whole).held.catalog ∙ ap (λ (k : Catalog). k.commit) (sym h.held.catalog)) c.apply.ensures.step

pub returns-clause-anew : goal.returns-clause-anew
returns-clause-anew g c h =
    IfOk-weaker c.apply.result _ _ (λ answer did.
    let holds = (did.each h.tells h.state h.held h.whole).held in
    (ap (λ (k : Catalog). k.reading) holds.catalog, holds.collections)) c.apply.ensures.step
