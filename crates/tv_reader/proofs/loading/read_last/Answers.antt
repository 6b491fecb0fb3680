use Rattle.std.proofs.Common.{refl}
use Rattle.std.specs.Arc.{arc_value}
use Rattle.tv_reader.proofs.UnderLock.{not_all, reads_last}
use Rattle.tv_reader.proofs.loading.read_last.Goals as goal

pub returns-clause-commit : goal.returns-clause-commit
returns-clause-commit g c =
    let load = c.in_ok-meta.ensures in
    let mid = c.load_shared.new.index in
    let last = c.read_files.new.index in
    let read = c.read_files.ensures in
    reads_last g.D.Directory c.args.index.now mid last last load.frame.form.directory.below.content load.frame.form.schema load.faults.quiet refl (λ r. arc_value r) (arc_value c.in_ok-meta.meta) c.read_files.result
    load.meta read.commit read.bodies

pub returns-clause-cause : goal.returns-clause-cause
returns-clause-cause g c =
    let load = c.in_ok-meta.ensures in
    let mid = c.load_shared.new.index in
    let last = c.read_files.new.index in
    not_all g.D.Directory c.args.index.now mid last last load.frame.form.directory.below.content load.frame.form.schema load.faults.quiet refl (arc_value c.in_ok-meta.meta) c.read_files.result
    load.meta c.read_files.ensures.faults.cause
