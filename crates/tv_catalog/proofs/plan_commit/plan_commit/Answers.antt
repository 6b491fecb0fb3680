use Rattle.std.proofs.Common.{◌≡◌, List, ℕ, None, OnOk, IfOk, subst}
use Rattle.tv_machine.specs.CommitEvents.{chosen, first_unknown}
use Rattle.tv_events.specs.declared.event.Event.TheVariants as events
use Rattle.tv_catalog.specs.Kept.{kept_with}
use Rattle.tv_catalog.specs.Plans.{Plans}
use Rattle.tv_catalog.proofs.plan_commit.plan_commit.Goals as goal

pub returns-in_ok-planned-in-Ok-clause-plans : goal.returns-in_ok-planned-in-Ok-clause-plans
returns-in_ok-planned-in-Ok-clause-plans g c =
    let catalog = c.args.catalog.now in
    let ids = c.as_slice.result.now in
    let known : first_unknown catalog ids ≡ None = subst (λ r. OnOk r (first_unknown catalog ids ≡ None)) c.in-Ok.is c.in_ok-segments.ensures.known in
    let entries : c.in-Ok.segments.entries ≡ chosen catalog ids = subst (λ r. IfOk r (λ segments. segments.entries ≡ chosen catalog ids)) c.in-Ok.is c.in_ok-segments.ensures.segments in
    subst (λ (n : List (List ℕ)). Plans (kept_with catalog (g.K.KnownFiles.known c.args.files.now)) (events.Commit c.args.payload.now n) c.in_ok-planned-in-Ok.planned) c.as_slice.ensures
    (c.in_ok-planned-in-Ok.ensures ids known entries)
