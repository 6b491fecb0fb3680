use Rattle.std.specs.Arc.{arc_value}
use Rattle.tv_reader.proofs.UnderLock.{kept_under, load_cause, loads_last}
use Rattle.tv_reader.proofs.loading.load_last.Goals as goal

pub returns-clause-commit : goal.returns-clause-commit
returns-clause-commit g c =
    let lock = c.in_ok-lock.ensures in
    let read = c.read_last-commit.ensures in
    loads_last g.D.Directory c.args.index.now c.take_lock.new.index c.read_last-commit.new.index c.free_lock.new.index lock.frame.form.directory.below.content lock.frame.form.schema lock.faults.quiet
    c.free_lock.ensures.frees.form.directory.below.faults (λ r. arc_value r) c.read_last-commit.result (λ t. (lock.acquires.ok t).was_free) read.quiet read.commit

pub returns-clause-cause : goal.returns-clause-cause
returns-clause-cause g c =
    let lock = c.in_ok-lock.ensures in
    load_cause g.D.Directory c.args.index.now c.take_lock.new.index c.read_last-commit.new.index c.free_lock.new.index lock.frame.form.directory.below.content lock.frame.form.schema lock.faults.quiet
    c.free_lock.ensures.frees.form.directory.below.faults c.read_last-commit.result (λ t. (lock.acquires.ok t).was_free) c.read_last-commit.ensures.cause

pub returns-clause-frame : goal.returns-clause-frame
returns-clause-frame g c =
    let lock = c.in_ok-lock.ensures in
    kept_under c.in_ok-lock.lock lock.frame (λ t. lock.acquires.ok t) c.read_last-commit.ensures.frame lock.token c.free_lock.ensures.frees
