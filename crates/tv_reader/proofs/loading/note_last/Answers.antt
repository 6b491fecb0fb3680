use Rattle.std.proofs.Common.{refl, inr}
use Rattle.std.specs.Arc.{arc_value}
use Rattle.tv_reader.proofs.UnderLock.{loads_back, no_meta_back}
use Rattle.tv_reader.proofs.loading.note_last.Goals as goal

pub returns-in-Ok-clause-notes : goal.returns-in-Ok-clause-notes
returns-in-Ok-clause-notes g c =
    let lock = c.in_ok-lock.ensures in
    let mid = c.take_lock.new.index in
    let meta = arc_value c.in-Ok.meta in
    (meta, loads_back g.D.Directory c.args.index.now mid mid mid lock.frame.form.directory.below.content lock.frame.form.schema lock.faults.quiet refl meta c.in-Ok.ensures.meta, refl, refl)

pub returns-in-Err-clause-faults : goal.returns-in-Err-clause-faults
returns-in-Err-clause-faults g c =
    let lock = c.in_ok-lock.ensures in
    let e = c.in-Err.error in
    record {
      quiet = tt;
      free = λ t. tt;
      why = inr (
        λ t. (lock.acquires.ok t).was_free,
        no_meta_back g.D.Directory c.args.index.now c.take_lock.new.index c.load_shared.new.index c.free_lock.new.index lock.frame.form.directory.below.content lock.frame.form.schema
            lock.faults.quiet c.free_lock.ensures.frees.form.directory.below.faults e c.in-Err.ensures.faults.cause,
      );
    }
