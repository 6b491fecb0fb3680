use Rattle.std.proofs.Common.{true, refl, ap}
use Rattle.tv_catalog.specs.declared.action.Action.TheVariants as actions
use Rattle.tv_formats.proofs.Results.{no_answer}
use Rattle.tv_store.proofs.Durable.{disk_stays, keeps_all}
use Rattle.tv_store.proofs.KeptMetaLock.{locks_only}
use Rattle.tv_store.specs.Kept.{names_below}
use Rattle.tv_store.proofs.perform.lock.Goals as goal

pub returns-clause-performs : goal.returns-clause-performs
returns-clause-performs g c =
    let D = g.O.Directory in
    let old = c.args.files.now in
    let new = c.keep_lock.new.self in
    let took = c.in_ok-keep_lock.ensures in
    locks_only D actions.Lock old new _ took.frame.below true took.frame.rest refl (λ tells s h whole suits. (refl, refl, λ commit e. cc))
    (record { quiet = took.faults.quiet; free = λ tells takes. (took.acquires.ok tells).was_free; fits = λ never. never; cause = tt }) took.frame.below.watched
    (λ tells. rw c.requires (took.acquires.ok tells)) refl tt

pub returns-clause-images : goal.returns-clause-images
returns-clause-images g c tells s h whole suits can d =
    let rest = c.in_ok-keep_lock.ensures.frame.rest in
    disk_stays g.O.Directory c.args.files.now s (g.met.O.Directory.stands c.args.files.now.outside tells) h d actions.Lock c.keep_lock.new.self _ (ap (λ v. v.form) rest) (ap (λ v. (names_below v).1) rest) (c.keep_lock.ensures.images tells) (keeps_all s)

pub returns-in_err-keep_lock-clause-images : goal.returns-in_err-keep_lock-clause-images
returns-in_err-keep_lock-clause-images g c tells s h whole suits can d =
    let rest = c.in_err-keep_lock.ensures.frame.rest in
    disk_stays g.O.Directory c.args.files.now s (g.met.O.Directory.stands c.args.files.now.outside tells) h d actions.Lock c.keep_lock.new.self c.from_residual.result (ap (λ v. v.form) rest) (ap (λ v. (names_below v).1) rest) (c.keep_lock.ensures.images tells) (no_answer c.from_residual.result _ c.from_residual.ensures.0)
