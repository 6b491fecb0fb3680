use Rattle.std.proofs.Common.{◌≡◌, Ok, false, rules, refl, ap, sym, subst, ◌∙◌, arith}
use Rattle.tv_catalog.specs.Actions.{after}
use Rattle.tv_catalog.specs.declared.action.Action.TheVariants as actions
use Rattle.tv_catalog.specs.declared.action.Reply.TheVariants as replies
use Rattle.tv_device.specs.Images.{KeepsDisk}
use Rattle.tv_device.specs.View.{OnlyReads}
use Rattle.tv_device.specs.ViewLaws.{kept_itself}
use Rattle.tv_formats.proofs.Results.{on_err}
use Rattle.tv_store.proofs.DurableFiles.{reopened_stored, unopened_stored}
use Rattle.tv_store.proofs.FilesHeld.{short_same}
use Rattle.tv_store.proofs.Holding.{same_holds}
use Rattle.tv_store.proofs.KeptLocks.{keeps_same}
use Rattle.tv_store.proofs.KeptMetaLock.{came_locked, gave_back, on_locks, reads_lock}
use Rattle.tv_store.proofs.Performing.{plain_faults, wants_memory}
use Rattle.tv_store.proofs.ReopenEvents.{left_all_holds}
use Rattle.tv_store.specs.Applying.{KeepsLocks}
use Rattle.tv_store.specs.Kept.{kept_of}
use Rattle.tv_store.proofs.perform.reopen.Goals as goal

pub returns-in_err-reopen-clause-performs : goal.returns-in_err-reopen-clause-performs
returns-in_err-reopen-clause-performs g c =
    let D = g.O.Directory in
    let old = c.args.files.now in
    let new = c.reopen.new.self in
    let others = c.reopen.ensures.others in
    let same : new.outside ≡ old.outside = ap (λ v. v.outside) others in
    let asks : OnlyReads D.told (D.view old.outside) (D.view new.outside) = subst (λ o. OnlyReads D.told (D.view old.outside) (D.view o)) (sym same) (record { kept = kept_itself D.told (D.view old.outside); content = λ tells n. refl }) in
    let below = reads_lock D old new asks in
    on_locks D actions.Reopen old new c.from_residual.result below (search rules) (came_locked D actions.Reopen old new c.from_residual.result below (λ tells s h whole suits. search rules))
    (λ bound short. short_same bound 0 new.open_files new.open_files refl (c.reopen.ensures.lens bound short)) (search rules)
    (plain_faults D actions.Reopen old new c.from_residual.result (wants_memory D old new c.from_residual.result same (search rules)) (λ spent. spent) (λ takes. takes, tt)) (ap (λ v. v.form) others) below.watched
    (λ tells. keeps_same old.locked new.locked _ _ (sym (ap (λ v. v.locked) others)) (asks.kept.frame.locks tells)) (search rules) (on_err c.from_residual.result (ap (λ v. v.locked) others))

pub returns-clause-performs : goal.returns-clause-performs
returns-clause-performs g c =
    let D = g.O.Directory in
    let old = c.args.files.now in
    let mid = c.reopen.new.self in
    let new = c.give_back.new.self in
    let others = c.reopen.ensures.others in
    let told = c.in_ok-reopen.ensures.reopened in
    let back = c.give_back.ensures.gives in
    let same : mid.outside ≡ old.outside = ap (λ v. v.outside) others in
    let asks : OnlyReads D.told (D.view old.outside) (D.view mid.outside) = subst (λ o. OnlyReads D.told (D.view old.outside) (D.view o)) (sym same) (record { kept = kept_itself D.told (D.view old.outside); content = λ tells n. refl }) in
    let gave = gave_back D old mid new asks (ap (λ v. v.locked) others) back.below in
    let open_files : new.open_files ≡ mid.open_files = ap (λ v. v.open_files) back.rest in
    let collections : new.collections ≡ mid.collections = ap (λ v. v.collections) back.rest in
    let locked : new.locked ≡ false = ap (λ v. v.locked) back.rest in
    on_locks D actions.Reopen old new (Ok replies.Done) gave.below refl
    (came_locked D actions.Reopen old new (Ok replies.Done) gave.below (λ tells s h whole suits. record {
      reply_is = refl;
      held = same_holds (D.view mid.outside).reads (D.view new.outside).reads (kept_of s.catalog mid) (kept_of s.catalog new) (after s actions.Reopen replies.Done) (back.below.frame.content tells) (ap (kept_of s.catalog) back.rest) (left_all_holds D s.catalog old mid s h others told);
      same = λ some stays. record { reads = gave.below.content tells; watched = gave.below.watched };
      saves = λ commit e. absurd cc;
    }))
    (λ bound short. short_same bound 0 mid.open_files new.open_files open_files (c.reopen.ensures.lens bound short)) (omega (arith, ap (λ k. k.next) collections, ap (λ k. k.next) told.collections))
    (record { quiet = back.below.faults ∙ ap (λ o. (D.view o).faults) same; free = λ tells takes. absurd takes; fits = λ spent. spent; cause = tt })
    (ap (λ v. v.form) back.rest ∙ ap (λ v. v.form) others) gave.below.watched
    (λ tells. subst (λ b. KeepsLocks old.locked b (D.view old.outside).locks (D.view new.outside).locks) (sym locked) (gave.locks tells)) locked tt

pub returns-clause-images : goal.returns-clause-images
returns-clause-images g c tells s h whole suits can d =
    let D = g.O.Directory in
    let old = c.args.files.now in
    let others = c.reopen.ensures.others in
    let rest = c.give_back.ensures.gives.rest in
    let told = c.in_ok-reopen.ensures.reopened in
    let managed = ap (λ v. v.managed) rest ∙ ap (λ v. v.managed) others in
    let collections = ap (λ v. v.collections) rest ∙ told.collections in
    reopened_stored D old s (g.met.O.Directory.stands old.outside tells) h d c.give_back.new.self (ap (λ v. v.form) rest ∙ ap (λ v. v.form) others) (rw (managed, collections) refl)
    (subst (λ o. KeepsDisk (D.disk o) (D.disk c.give_back.new.self.outside)) (ap (λ v. v.outside) others) (c.give_back.ensures.images tells))

pub returns-in_err-reopen-clause-images : goal.returns-in_err-reopen-clause-images
returns-in_err-reopen-clause-images g c tells s h whole suits can d =
    unopened_stored g.O.Directory c.args.files.now s (g.met.O.Directory.stands c.args.files.now.outside tells) h d c.reopen.new.self c.from_residual.result c.from_residual.ensures.0 c.reopen.ensures.others
