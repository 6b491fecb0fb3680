use Rattle.std.specs.Vec.Iter.{into_iter_items}
use Rattle.tv_metas.proofs.NameSets.{one_put}
use Rattle.tv_metas.proofs.naming.set_of.Goals as goal

pub loop-name-preserved : goal.loop-name-preserved
loop-name-preserved c = record {
  next = tt;
  finite = tt;
  names = λ n.
      one_put c.loop-name.set.keys c.insert.new.self.keys c.into_string.result c.in-Some.name (into_iter_items c.loop-name.name-iterator)
      (into_iter_items c.next.new.self) n _
      c.in-Some.ensures.steps.0 c.in_ok-insert.ensures.keys c.into_string.ensures.text (c.loop-name.invariant.names n);
}
