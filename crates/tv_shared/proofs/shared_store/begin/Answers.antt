use Rattle.std.proofs.Common.{ap, subst, sym}
use Rattle.tv_shared.specs.Begins.{IsNotShared}
use Rattle.tv_shared.specs.Names.{name_of}
use Rattle.tv_shared.proofs.Beginnings.{lacks_memory_first, not_begun}
use Rattle.tv_shared.proofs.shared_store.begin.Goals as goal

pub returns-in-Err-clause-refused : goal.returns-in-Err-clause-refused
returns-in-Err-clause-refused g c =
    lacks_memory_first g.S.EventStore (name_of g.N.Opening) c.args.store c.requires.start

pub returns-in-Err-start-clause-refused : goal.returns-in-Err-start-clause-refused
returns-in-Err-start-clause-refused g c =
    let n = name_of g.N.Opening in
    let locked = c.in-Err-start.locked in
    subst (λ now. IsNotShared g.S.EventStore n c.args.store now c.error_of.result) (sym c.end.ensures.store)
    (subst (λ old. IsNotShared g.S.EventStore n old.store locked.store c.error_of.result) c.new-2.ensures
    (not_begun g.S.EventStore n c.new-2.result locked c.in-Err-start.error c.error_of.result
    c.in-Err-start.ensures.err c.error_of.ensures (ap (λ l. l.history) c.new-2.ensures)
    (ap (λ l. l.has_ended) c.new-2.ensures) c.end.ensures.keeps))
