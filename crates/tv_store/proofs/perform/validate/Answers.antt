use Rattle.std.proofs.Common.{refl}
use Rattle.std.proofs.lemmas.Result.{IfOk-weaker}
use Rattle.tv_store.proofs.Performing.{asks_only, plain_faults}
use Rattle.tv_store.proofs.ValidatedFiles.{unsaved_report}
use Rattle.tv_catalog.specs.declared.action.Action.TheVariants as actions
use Rattle.tv_store.proofs.Durable.{any_answer, asked_stored, keeps_all, untouched_stored}
use Rattle.tv_formats.proofs.Results.{no_answer}
use Rattle.tv_store.proofs.perform.validate.Goals as goal

pub returns-clause-performs : goal.returns-clause-performs
returns-clause-performs g c =
    let D = g.O.Directory in
    let action = actions.Validate c.args.names in
    let old = c.args.files.now in
    let new = c.find_damaged.new.files in
    asks_only D action old new c.find_damaged.result c.find_damaged.ensures.gives
    (λ tells s held whole suits. IfOk-weaker c.find_damaged.result _ _ (λ reply is. (is, refl, λ commit e. unsaved_report s c.args.names.items commit reply is e)) (c.find_damaged.ensures.found tells s held suits))
    (plain_faults D action old new c.find_damaged.result c.find_damaged.ensures.faults (λ never. never) (λ never. never, tt)) c.find_damaged.ensures.frame refl refl

pub returns-clause-images : goal.returns-clause-images
returns-clause-images g c tells s h whole suits can d =
    asked_stored g.O.Directory c.args.files.now s (g.met.O.Directory.stands c.args.files.now.outside tells) h d (actions.Validate c.args.names) c.find_damaged.new.files c.find_damaged.result c.find_damaged.ensures.frame (c.find_damaged.ensures.images tells) (any_answer c.find_damaged.result (λ reply. keeps_all s))

pub returns-in_err-room-clause-images : goal.returns-in_err-room-clause-images
returns-in_err-room-clause-images g c tells s h whole suits can d =
    untouched_stored g.O.Directory c.args.files.now s (g.met.O.Directory.stands c.args.files.now.outside tells) h d (actions.Validate c.args.names) c.from_residual.result (no_answer c.from_residual.result _ c.from_residual.ensures.0)
