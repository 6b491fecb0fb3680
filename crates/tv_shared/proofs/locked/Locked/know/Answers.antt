use Rattle.std.proofs.Common.{subst}
use Rattle.tv_shared.specs.Logs.{Keeps}
use Rattle.tv_shared.specs.Names.{name_of}
use Rattle.tv_shared.proofs.locked.Locked.know.Goals as goal

pub returns : goal.returns
returns g c = subst (λ l. Keeps g.S.EventStore (name_of g.N.Opening) l) c.self.view_is c.self.invariant
