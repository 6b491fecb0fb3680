use Rattle.std.proofs.Common.{Ok, refl, sym, subst, arith}
use Rattle.tv_store.proofs.FilesHeld.{short_same}
use Rattle.tv_store.proofs.Performing.{memory_only}
use Rattle.tv_store.specs.Performing.{Performs}
use Rattle.tv_catalog.specs.declared.action.Action.TheVariants as actions
use Rattle.tv_catalog.specs.declared.action.Reply.TheVariants as replies
use Rattle.tv_store.proofs.Durable.{keeps_all, untouched_stored}
use Rattle.tv_store.specs.Durable.{PerformsSafely}
use Rattle.tv_store.proofs.perform.perform.Goals as goal

pub returns-in-Nothing-clause-performs : goal.returns-in-Nothing-clause-performs
returns-in-Nothing-clause-performs g c =
    let D = g.O.Directory in
    let files = c.args.files.now in
    subst (λ action. Performs D action files files (Ok replies.Done)) (sym c.in-Nothing.is)
    (memory_only D actions.Nothing files files (Ok replies.Done) (λ spent. spent) (λ takes. takes, tt) refl refl refl (omega arith)
    (λ bound short. short_same bound 0 files.open_files files.open_files refl short) refl (λ s h. (refl, h, λ commit e. cc)) tt (refl, refl))

pub returns-in-Nothing-clause-images : goal.returns-in-Nothing-clause-images
returns-in-Nothing-clause-images g c =
    let D = g.O.Directory in
    let files = c.args.files.now in
    subst (λ action. PerformsSafely D action files files (Ok replies.Done)) (sym c.in-Nothing.is)
    (λ tells s h whole suits can d. untouched_stored D files s (g.met.O.Directory.stands files.outside tells) h d actions.Nothing (Ok replies.Done) (keeps_all s))
