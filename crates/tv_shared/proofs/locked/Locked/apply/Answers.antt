use Rattle.tv_shared.proofs.Keeping.{keeps_on, keeps_ended}
use Rattle.tv_shared.specs.Names.{name_of}
use Rattle.tv_shared.proofs.locked.Locked.apply.Goals as goal

pub invariant_of-self : goal.invariant_of-self
invariant_of-self g c =
    keeps_on g.S.EventStore (name_of g.N.Opening) c.self.inside.store c.advance-advanced.new.store
    c.self.inside.history.items c.advance-advanced.new.history.items c.self.inside.publisher
    c.advance-advanced.new.publisher c.self.inside.has_ended c.args.event.now c.self.invariant c.if-self.false
    c.in-Ok.receipt c.in-Ok.ensures.ok

pub invariant_of-self-in-Err : goal.invariant_of-self-in-Err
invariant_of-self-in-Err g c =
    keeps_ended g.S.EventStore (name_of g.N.Opening) c.self.inside.store c.advance-advanced.new.store
    c.self.inside.history.items c.advance-advanced.new.history.items c.self.inside.publisher
    c.advance-advanced.new.publisher c.self.inside.has_ended c.args.event.now c.self.invariant c.if-self.false
    c.in-Err.error c.in-Err.ensures.err
