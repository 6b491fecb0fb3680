use Rattle.std.proofs.Common.{◌∙◌, ap, arith, length, subst, sym}
use Rattle.tv_base.specs.declared.error.TantivyError.TheVariants.{Memory}
use Rattle.tv_shared.specs.Begins.{IsNotShared}
use Rattle.tv_shared.specs.Names.{name_of}
use Rattle.tv_shared.proofs.Beginnings.{lacks_memory}
use Rattle.tv_shared.proofs.shared_store.SharedStore.new.Goals as goal

pub returns-in-Err-handles-clause-refused : goal.returns-in-Err-handles-clause-refused
returns-in-Err-handles-clause-refused g c =
    let n = name_of g.N.Opening in
    let one = ap (λ l. length l.history) c.begun.view_is ∙ c.in-Ok.ensures.one in
    subst (λ now. IsNotShared g.S.EventStore n c.args.store now Memory) (sym c.end.ensures.store)
    (lacks_memory g.S.EventStore n c.args.store c.begun.inside.locked (omega arith) c.end.ensures.keeps)
