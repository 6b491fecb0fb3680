use Rattle.std.proofs.Common.{false, refl, ap}
use Rattle.tv_catalog.specs.declared.action.Action.TheVariants as actions
use Rattle.tv_store.proofs.Durable.{disk_stays, keeps_all}
use Rattle.tv_store.proofs.KeptMetaLock.{locks_only}
use Rattle.tv_store.specs.Kept.{names_below}
use Rattle.tv_store.proofs.perform.unlock.Goals as goal

pub returns-clause-performs : goal.returns-clause-performs
returns-clause-performs g c =
    let back = c.give_back.ensures.gives in
    locks_only g.O.Directory actions.Unlock c.args.files.now c.give_back.new.self _ back.below.frame false back.rest refl (λ tells s h whole suits. (refl, refl, λ commit e. cc))
    (record { quiet = back.below.faults; free = λ tells takes. absurd takes; fits = λ never. never; cause = tt }) back.below.frame.watched back.below.locks refl tt

pub returns-clause-images : goal.returns-clause-images
returns-clause-images g c tells s h whole suits can d =
    let rest = c.give_back.ensures.gives.rest in
    disk_stays g.O.Directory c.args.files.now s (g.met.O.Directory.stands c.args.files.now.outside tells) h d actions.Unlock c.give_back.new.self _ (ap (λ v. v.form) rest) (ap (λ v. (names_below v).1) rest) (c.give_back.ensures.images tells) (keeps_all s)
