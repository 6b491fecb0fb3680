use Rattle.std.proofs.Common.{rules, refl, ap, arith}
use Rattle.tv_store.proofs.CollectionEvents.{left_holds}
use Rattle.tv_store.proofs.FilesHeld.{short_same}
use Rattle.tv_store.proofs.Performing.{memory_only}
use Rattle.tv_store.proofs.DurableFiles.{left_stored, unleft_stored}
use Rattle.tv_store.proofs.perform.leave.Goals as goal

pub returns-in_err-leave-clause-performs : goal.returns-in_err-leave-clause-performs
returns-in_err-leave-clause-performs g c =
    let D = g.O.Directory in
    let old = c.args.files.now in
    let new = c.leave.new.self in
    memory_only D _ old new _ (λ spent. spent) (λ takes. takes, tt) refl (ap (λ v. v.outside) c.leave.ensures.others) (ap (λ v. v.form) c.leave.ensures.others) (search rules)
    (λ bound short. short_same bound 0 new.open_files new.open_files refl (c.leave.ensures.lens bound short)) (search rules) (λ s h. search rules) (search rules) (ap (λ v. v.locked) c.leave.ensures.others, refl)

pub returns-clause-performs : goal.returns-clause-performs
returns-clause-performs g c =
    let D = g.O.Directory in
    let old = c.args.files.now in
    let new = c.leave.new.self in
    memory_only D _ old new _ (λ spent. spent) (λ takes. takes, tt) refl (ap (λ v. v.outside) c.leave.ensures.others) (ap (λ v. v.form) c.leave.ensures.others) (omega (arith, ap (λ v. v.collections.next) c.leave.ensures.others))
    (λ bound short. short_same bound 0 new.open_files new.open_files refl (c.leave.ensures.lens bound short)) refl
    (λ s h. (refl, left_holds D s.catalog old new (ap (λ v. v.form) c.leave.ensures.others) s c.args.names.items s.catalog h h.segments refl c.leave.ensures.others c.in_ok-leave.ensures.left, λ commit e. cc)) (search rules) (ap (λ v. v.locked) c.leave.ensures.others, refl)

pub returns-in_err-leave-clause-images : goal.returns-in_err-leave-clause-images
returns-in_err-leave-clause-images g c tells s h whole suits can d =
    unleft_stored g.O.Directory c.args.files.now s (g.met.O.Directory.stands c.args.files.now.outside tells) h d c.args.names c.leave.new.self c.from_residual.result c.from_residual.ensures.0 c.leave.ensures.others

pub returns-clause-images : goal.returns-clause-images
returns-clause-images g c tells s h whole suits can d =
    left_stored g.O.Directory c.args.files.now s (g.met.O.Directory.stands c.args.files.now.outside tells) h d c.args.names c.leave.new.self c.leave.ensures.others
