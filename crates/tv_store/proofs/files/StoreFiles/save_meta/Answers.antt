use Rattle.std.proofs.Common.{ap, subst, ◌∙◌}
use Rattle.tv_index.specs.Saving.{SavesMeta}
use Rattle.tv_store.specs.Kept.{names_below}
use Rattle.tv_store.proofs.SavedFiles.{saved_below, unsaved_below}
use Rattle.tv_store.proofs.files.StoreFiles.save_meta.Goals as goal

pub returns-clause-saves : goal.returns-clause-saves
returns-clause-saves g c =
    subst (λ d. SavesMeta g.O.Directory d c.save_meta_text.new.directory c.args.text.now) (c.directory_mut.ensures.value ∙ ap names_below c.self.view_is) c.in_ok-save_meta_text.ensures.saves

pub returns-clause-safe : goal.returns-clause-safe
returns-clause-safe g c t = saved_below g.O.Directory c.args.text.now (c.directory_mut.ensures.value ∙ ap names_below c.self.view_is) c.in_ok-save_meta_text.field-0 tt (c.in_ok-save_meta_text.ensures.safe t)

pub returns-in_err-save_meta_text-clause-safe : goal.returns-in_err-save_meta_text-clause-safe
returns-in_err-save_meta_text-clause-safe g c t =
    unsaved_below g.O.Directory c.args.text.now (c.directory_mut.ensures.value ∙ ap names_below c.self.view_is) c.in_err-save_meta_text.field-0.0 c.from_residual.result c.from_residual.ensures.0 c.from_residual.ensures.1
    (c.in_err-save_meta_text.ensures.safe t)
