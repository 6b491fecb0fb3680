use Rattle.std.proofs.Common.{sym, subst, false}
use Rattle.tv_shared.specs.Logs.{Keeps, log_of}
use Rattle.tv_shared.proofs.Keeping.{begins}
use Rattle.tv_shared.specs.Names.{name_of}
use Rattle.tv_shared.proofs.locked.Locked.new.Goals as goal

pub invariant_of-result : goal.invariant_of-result
invariant_of-result g c =
    subst (λ h. Keeps g.S.EventStore (name_of g.N.Opening) (log_of c.args.store h c.args.publisher false))
    (sym c.new.ensures.items)
    (begins g.S.EventStore (name_of g.N.Opening) c.args.store c.args.publisher c.requires.state
    c.requires.publisher)
