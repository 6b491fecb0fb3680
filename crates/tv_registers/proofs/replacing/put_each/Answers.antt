use Rattle.std.proofs.Common.{◌≡◌, ◌++◌, ◌∷◌, [], refl, sym, subst}
use Rattle.std.specs.Prelude.{OnOk}
use Rattle.tv_registers.specs.Registers.{Counted, with_each}
use Rattle.tv_registers.proofs.PutBack.{all_left, put_further}
use Rattle.tv_registers.proofs.replacing.put_each.Goals as goal

pub loop-entry-preserved-in-Ok : goal.loop-entry-preserved-in-Ok
loop-entry-preserved-in-Ok c =
    let before : Counted = (c.loop-entry.segments.entries, c.loop-entry.inventory) in
    let so_far : before ≡ with_each c.loop-entry.yielded ([], c.args.inventory.now) =
    subst (λ r. OnOk r (before ≡ with_each c.loop-entry.yielded ([], c.args.inventory.now))) c.in-Ok.is c.loop-entry.invariant.ok in
    let both =
    put_further c.put_entry-put.result c.loop-entry.yielded c.in-Some.entry c.args.inventory.now c.loop-entry.inventory c.loop-entry.segments.entries c.loop-entry.invariant.all so_far
    (c.put_entry-put.new.segments.entries, c.put_entry-put.new.inventory) c.put_entry-put.ensures.ok c.put_entry-put.ensures.err c.put_entry-put.ensures.was_ordered in
    record { ok = both.0; all = both.1 }

pub loop-entry-preserved : goal.loop-entry-preserved
loop-entry-preserved c = record {
  ok =
      subst (λ r. OnOk r (◌≡◌ {A = Counted} (c.loop-entry.segments.entries, c.release.new.inventory) (with_each (c.loop-entry.yielded ++ c.in-Some.entry ∷ []) ([], c.args.inventory.now)))) (sym c.in-Err.is) tt;
  all =
      all_left c.loop-entry.yielded c.in-Some.entry c.args.inventory.now c.loop-entry.inventory c.loop-entry.segments.entries c.loop-entry.invariant.all
      c.loop-entry.segments.entries c.release.new.inventory refl c.release.ensures.released;
}
