use Rattle.tv_store.proofs.CrashLaws.{opening_keeps}
use Rattle.tv_store.proofs.laws.crashes.an_opening_keeps_a_stored_commit.Goals as goal

pub returns : goal.returns
returns g c tells heard locks sound form s same safe =
    opening_keeps g.O.Directory c.args.outside c.args.schema.now (g.met.O.Directory.tells_more tells) (λ d. g.met.O.Directory.stands d tells) sound tells heard locks form s same safe c.open.result c.open.ensures.opens (c.open.ensures.safe tells) c.open.ensures.survives
