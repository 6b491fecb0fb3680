use Rattle.std.proofs.Common.{◌≡◌, [], None, true, refl, ap, sym, subst, ◌∙◌, Ok}
use Rattle.std.specs.Prelude.{IfSome}
use Rattle.std.proofs.lemmas.Result.{err_from_is_err_and}
use Rattle.tv_formats.specs.Names.{has}
use Rattle.tv_store.proofs.Saved.{saved, still_held, unasked, unsaved, unsealed}
use Rattle.tv_formats.proofs.Results.{handed_on, no_answer}
use Rattle.tv_store.proofs.Durable.{asked_stored, keeps_all}
use Rattle.tv_store.proofs.DurableCommits.{all_sealed, later_stored, save_means, saved_stored, unsaved_stored}
use Rattle.tv_catalog.specs.Actions.{first_open, unless_open}
use Rattle.tv_catalog.specs.declared.action.Action.TheVariants as actions
use Rattle.tv_catalog.specs.declared.action.Reply.TheVariants as replies
use Rattle.tv_store.proofs.perform.save.Goals as goal

pub returns-in_err-name-clause-performs : goal.returns-in_err-name-clause-performs
returns-in_err-name-clause-performs g c =
    let failed = c.in_err-name.ensures in
    let e = err_from_is_err_and c.from_residual.result c.from_residual.ensures.1 in
    rw (e.1, e.2) (unasked g.O.Directory c.args.commit c.args.text c.args.required c.args.files.now c.first_unsealed.new.files failed.frame c.in_err-name.field-0.0 failed.faults.cause)

pub returns-in-Some-clause-performs : goal.returns-in-Some-clause-performs
returns-in-Some-clause-performs g c =
    let asked = c.in_ok-name.ensures in
    let names = c.args.required.items in
    unsealed g.O.Directory c.args.commit c.args.text c.args.required c.args.files.now c.first_unsealed.new.files asked.frame c.in-Some.name
    (subst (λ o. IfSome o (λ name. has names name ≡ true)) c.in-Some.is asked.among)
    (λ tells s h. sym c.in-Some.is ∙ asked.found tells s h c.requires.1.each) asked.faults.quiet

pub returns-in_err-save_meta-clause-performs : goal.returns-in_err-save_meta-clause-performs
returns-in_err-save_meta-clause-performs g c =
    let asked = c.in_ok-name.ensures in
    let failed = c.in_err-save_meta.ensures in
    let e = err_from_is_err_and c.from_residual-in_err-save_meta.result c.from_residual-in_err-save_meta.ensures.1 in
    rw (e.1, e.2)
    (unsaved g.O.Directory c.args.commit c.args.text c.args.required c.args.files.now c.first_unsealed.new.files c.save_meta.new.self c.requires.0 c.requires.1 asked.frame asked.faults.quiet
    (λ tells s h. sym c.in_default.is ∙ asked.found tells s h c.requires.1.each) c.as_slice.result.now c.as_slice.ensures.value failed.others failed.frame
    c.in_err-save_meta.field-0.0 failed.leaves.either failed.leaves.memory failed.faults.cause)

pub returns-clause-performs : goal.returns-clause-performs
returns-clause-performs g c =
    let asked = c.in_ok-name.ensures in
    let done = c.in_ok-save_meta.ensures in
    saved g.O.Directory c.args.commit c.args.text c.args.required c.args.files.now c.first_unsealed.new.files c.save_meta.new.self c.requires.0 c.requires.1 asked.frame asked.faults.quiet
    (λ tells s h. sym c.in_default.is ∙ asked.found tells s h c.requires.1.each) c.as_slice.result.now c.as_slice.ensures.value done.others done.frame done.saves done.faults.quiet

pub returns-in_err-name-clause-images : goal.returns-in_err-name-clause-images
returns-in_err-name-clause-images g c tells s h whole suits can d =
    asked_stored g.O.Directory c.args.files.now s (g.met.O.Directory.stands c.args.files.now.outside tells) h d (actions.Save c.args.commit c.args.text c.args.required) c.first_unsealed.new.files c.from_residual.result c.first_unsealed.ensures.frame (c.first_unsealed.ensures.images tells) (no_answer c.from_residual.result _ c.from_residual.ensures.0)

pub returns-in-Some-clause-images : goal.returns-in-Some-clause-images
returns-in-Some-clause-images g c tells s h whole suits can d =
    asked_stored g.O.Directory c.args.files.now s (g.met.O.Directory.stands c.args.files.now.outside tells) h d (actions.Save c.args.commit c.args.text c.args.required) c.first_unsealed.new.files (Ok (replies.Unsealed c.in-Some.name)) c.first_unsealed.ensures.frame (c.first_unsealed.ensures.images tells) (keeps_all s)

pub returns-in_err-save_meta-clause-images : goal.returns-in_err-save_meta-clause-images
returns-in_err-save_meta-clause-images g c tells s h whole suits can d =
    let D = g.O.Directory in
    let old = c.args.files.now in
    let mid = c.first_unsealed.new.files in
    let asked = c.in_ok-name.ensures in
    let content = g.met.O.Directory.tells_more tells in
    let asks = asked_stored g.O.Directory c.args.files.now s (g.met.O.Directory.stands c.args.files.now.outside tells) h d actions.Nothing mid (Ok replies.Done) asked.frame (asked.images tells) (keeps_all s) in
    let held = still_held D old mid asked.frame s content h in
    let none : None ≡ first_open s c.args.required.items = sym c.in_default.is ∙ asked.found content s h can.each in
    let sealed = all_sealed s c.args.required.items c.args.commit can.files none in
    let means = save_means D old mid s c.args.commit c.args.text.items c.as_slice.result.now h can.prints asked.frame.managed.form c.as_slice.ensures.value in
    later_stored D (actions.Save c.args.commit c.args.text c.args.required) old mid c.save_meta.new.self s c.from_residual-in_err-save_meta.result asked.frame.managed.form (asks.moments [])
    (unsaved_stored D mid s (g.met.O.Directory.stands mid.outside tells) held asks.durable c.args.commit c.save_meta.new.self c.as_slice.result.now means sealed can.live c.args.text c.args.required (λ deletes. ap (unless_open c.args.commit) (sym none)) c.in_err-save_meta.field-0.0 c.from_residual-in_err-save_meta.result c.from_residual-in_err-save_meta.ensures.0 (handed_on c.from_residual-in_err-save_meta.result c.in_err-save_meta.field-0.0 (λ e. e ≡ c.in_err-save_meta.field-0.0) c.from_residual-in_err-save_meta.ensures.1 refl) (c.in_err-save_meta.ensures.safe tells))

pub returns-clause-images : goal.returns-clause-images
returns-clause-images g c tells s h whole suits can d =
    let D = g.O.Directory in
    let old = c.args.files.now in
    let mid = c.first_unsealed.new.files in
    let asked = c.in_ok-name.ensures in
    let content = g.met.O.Directory.tells_more tells in
    let asks = asked_stored g.O.Directory c.args.files.now s (g.met.O.Directory.stands c.args.files.now.outside tells) h d actions.Nothing mid (Ok replies.Done) asked.frame (asked.images tells) (keeps_all s) in
    let held = still_held D old mid asked.frame s content h in
    let none : None ≡ first_open s c.args.required.items = sym c.in_default.is ∙ asked.found content s h can.each in
    let sealed = all_sealed s c.args.required.items c.args.commit can.files none in
    let means = save_means D old mid s c.args.commit c.args.text.items c.as_slice.result.now h can.prints asked.frame.managed.form c.as_slice.ensures.value in
    later_stored D (actions.Save c.args.commit c.args.text c.args.required) old mid c.save_meta.new.self s (Ok (replies.Saved c.args.commit)) asked.frame.managed.form (asks.moments [])
    (saved_stored D mid s (g.met.O.Directory.stands mid.outside tells) held asks.durable c.args.commit c.save_meta.new.self c.as_slice.result.now means sealed can.live c.args.text c.args.required (λ deletes. ap (unless_open c.args.commit) (sym none)) tt c.in_ok-save_meta.ensures.frame.form (c.in_ok-save_meta.ensures.safe tells))
