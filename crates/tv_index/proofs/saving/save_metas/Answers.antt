use Rattle.std.proofs.Common.{◌∙◌, refl}
use Rattle.tv_formats.specs.Names.{meta_name}
use Rattle.tv_base.specs.declared.error.TantivyError.TheVariants as errors
use Rattle.tv_metas.specs.TrackedMetas.{tracked_form}
use Rattle.tv_index.proofs.Managing.{manages_err, manages_none, manages_ok}
use Rattle.tv_index.proofs.Openings.{notes_unless, same_memory}
use Rattle.tv_index.proofs.SavedSafely.{saves_err, saves_none, saves_ok}
use Rattle.tv_index.proofs.Saves.{saved, unprinted, unsaved}
use Rattle.tv_index.proofs.saving.save_metas.Goals as goal

pub returns-in_err-text-clause-saves : goal.returns-in_err-text-clause-saves
returns-in_err-text-clause-saves g c commit order =
    let meta = c.args.meta.now in
    let learned = c.learn_commit.ensures in
    unprinted g.D.Directory c.args.directory.now c.args.directory.now (tracked_form meta) commit learned.schema learned.blocksize (learned.commit commit order) c.from_residual.result c.from_residual.ensures.1 refl

pub returns-in_err-save_meta_text-clause-saves : goal.returns-in_err-save_meta_text-clause-saves
returns-in_err-save_meta_text-clause-saves g c commit order =
    let meta = c.args.meta.now in
    let learned = c.learn_commit.ensures in
    let saving = c.from_residual-in_err-save_meta_text in
    unsaved g.D.Directory c.args.directory.now c.save_meta_text.new.directory (tracked_form meta) commit learned.schema learned.blocksize (learned.commit commit order) saving.result c.as_slice.result.now
    c.in_err-save_meta_text.field-0.0 saving.ensures.1 (c.as_slice.ensures.value ∙ c.in_ok-text.ensures commit order) c.in_err-save_meta_text.ensures.leaves

pub returns-clause-saves : goal.returns-clause-saves
returns-clause-saves g c commit order =
    let meta = c.args.meta.now in
    let learned = c.learn_commit.ensures in
    saved g.D.Directory c.args.directory.now c.save_meta_text.new.directory (tracked_form meta) commit learned.schema learned.blocksize (learned.commit commit order) _ c.as_slice.result.now
    (c.as_slice.ensures.value ∙ c.in_ok-text.ensures commit order) tt c.in_ok-save_meta_text.ensures.saves

pub returns-in_err-text-clause-manages : goal.returns-in_err-text-clause-manages
returns-in_err-text-clause-manages g c =
    let old = c.args.directory.now in
    manages_none g.D.Directory old old old old (λ t n. refl) refl (λ t n. refl) refl c.from_residual.result c.from_residual.ensures.0 refl

pub returns-in_err-save_meta_text-clause-manages : goal.returns-in_err-save_meta_text-clause-manages
returns-in_err-save_meta_text-clause-manages g c =
    let saving = c.from_residual-in_err-save_meta_text in
    manages_err g.D.Directory c.args.directory.now c.save_meta_text.new.directory c.save_meta_text.result saving.result saving.ensures.0 c.save_meta_text.ensures.manages

pub returns-clause-manages : goal.returns-clause-manages
returns-clause-manages g c =
    manages_ok g.D.Directory c.args.directory.now c.save_meta_text.new.directory _ _ tt tt c.in_ok-save_meta_text.ensures.manages

pub returns-in_err-save_meta_text-clause-frame : goal.returns-in_err-save_meta_text-clause-frame
returns-in_err-save_meta_text-clause-frame g c =
    let saving = c.from_residual-in_err-save_meta_text in
    notes_unless (same_memory saving.result c.in_err-save_meta_text.field-0.0 saving.ensures.1) c.in_err-save_meta_text.ensures.frame

pub returns-in_err-text-clause-safe : goal.returns-in_err-text-clause-safe
returns-in_err-text-clause-safe g c tells commit order = saves_none g.D.Directory meta_name _ errors.Memory c.from_residual.result c.from_residual.ensures.0

pub returns-in_err-save_meta_text-clause-safe : goal.returns-in_err-save_meta_text-clause-safe
returns-in_err-save_meta_text-clause-safe g c tells commit order =
    let saving = c.from_residual-in_err-save_meta_text in
    saves_err g.D.Directory c.in_err-save_meta_text.field-0.0 saving.result saving.ensures.0 saving.ensures.1 (c.as_slice.ensures.value ∙ c.in_ok-text.ensures commit order) (c.in_err-save_meta_text.ensures.safe tells)

pub returns-clause-safe : goal.returns-clause-safe
returns-clause-safe g c tells commit order = saves_ok g.D.Directory tt _ (c.as_slice.ensures.value ∙ c.in_ok-text.ensures commit order) (c.in_ok-save_meta_text.ensures.safe tells)
