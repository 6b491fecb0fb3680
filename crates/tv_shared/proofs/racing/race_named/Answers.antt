use Rattle.std.proofs.Common.{[], map}
use Rattle.tv_shared.specs.Closing.{publications}
use Rattle.tv_shared.specs.Names.{name_of}
use Rattle.tv_shared.proofs.Failing.{event_failed_out, not_settled_out}
use Rattle.tv_shared.proofs.racing.race_named.Goals as goal

pub returns-in-Err-merge_all-clause-fails : goal.returns-in-Err-merge_all-clause-fails
returns-in-Err-merge_all-clause-fails g c _ =
    event_failed_out g.S.EventStore (name_of g.N.Opening) c.close.result.store c.into_parts-store.result.0
    (publications c.close.result) [] (map (λ s. s.items) c.args.scripts.now) (λ h. h.items)
    c.close.result.outcome c.close.ensures.closed c.close.ensures.differs c.into_parts-store.ensures.0
    c.ending.result c.failed_as.result c.ending.ensures c.failed_as.ensures

pub returns-clause-fails : goal.returns-clause-fails
returns-clause-fails g c =
    not_settled_out g.S.EventStore (name_of g.N.Opening) c.close-closed.result.store
    c.into_parts-store-2.result.0 (publications c.close-closed.result) c.as_slice.result.now
    (map (λ s. s.items) c.args.scripts.now) (λ h. h.items) c.close-closed.result.outcome
    c.close-closed.ensures.closed c.close-closed.ensures.differs c.into_parts-store-2.ensures.0
    c.into_parts-store-2.result.1 c.into_parts-store-2.ensures.1 c.settled-outcome.result
    c.settled-outcome.ensures.fails
