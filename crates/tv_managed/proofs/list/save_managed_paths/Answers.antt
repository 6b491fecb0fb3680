use Rattle.std.proofs.Common.{map, string_bytes, ◌∙◌}
use Rattle.tv_formats.specs.Listing.{list_text}
use Rattle.tv_managed.specs.Crashes.{SavesText}
use Rattle.tv_managed.specs.Managed.{SavesNames}
use Rattle.tv_managed.proofs.Results.{handed}
use Rattle.tv_managed.proofs.Saving.{saves_none, saves_refused, saves_synced, saves_unsynced, text_none, text_refused, text_synced, text_unsynced}
use Rattle.tv_managed.proofs.list.save_managed_paths.Goals as goal

pub returns-in_err-text-clause-saves : goal.returns-in_err-text-clause-saves
returns-in_err-text-clause-saves g c =
    let names = map string_bytes c.args.names.now.keys in
    handed (SavesNames g.D.Directory c.args.directory.now c.args.directory.now names) c.from_residual.result _ c.from_residual.ensures.1 (saves_none g.D.Directory c.args.directory.now names)

pub returns-in_err-text-clause-images : goal.returns-in_err-text-clause-images
returns-in_err-text-clause-images g c = λ tells.
    let text = list_text (map string_bytes c.args.names.now.keys) in
    let disk = g.D.Directory.disk c.args.directory.now in
    handed (SavesText disk disk text) c.from_residual.result _ c.from_residual.ensures.1 (text_none disk text)

pub returns-in_err-atomic_write-clause-saves : goal.returns-in_err-atomic_write-clause-saves
returns-in_err-atomic_write-clause-saves g c =
    let e = c.in_err-atomic_write.ensures in
    handed (SavesNames g.D.Directory c.args.directory.now c.atomic_write.new.self (map string_bytes c.args.names.now.keys)) c.from_residual-in_err-atomic_write.result _ c.from_residual-in_err-atomic_write.ensures.1
    (saves_refused g.D.Directory (c.as_slice.ensures.value ∙ c.in_ok-text.ensures) e.gives e.notes e.faults e.frame)

pub returns-in_err-atomic_write-clause-images : goal.returns-in_err-atomic_write-clause-images
returns-in_err-atomic_write-clause-images g c = λ tells.
    let D = g.D.Directory in
    handed (SavesText (D.disk c.args.directory.now) (D.disk c.atomic_write.new.self) (list_text (map string_bytes c.args.names.now.keys))) c.from_residual-in_err-atomic_write.result _ c.from_residual-in_err-atomic_write.ensures.1
    (text_refused (c.as_slice.ensures.value ∙ c.in_ok-text.ensures) (c.in_err-atomic_write.ensures.images tells))

pub returns-in_err-sync_directory-clause-saves : goal.returns-in_err-sync_directory-clause-saves
returns-in_err-sync_directory-clause-saves g c =
    let w = c.in_ok-atomic_write.ensures in
    let e = c.in_err-sync_directory.ensures in
    handed (SavesNames g.D.Directory c.args.directory.now c.sync_directory.new.self (map string_bytes c.args.names.now.keys)) c.from_residual-in_err-sync_directory.result _ c.from_residual-in_err-sync_directory.ensures.1
    (saves_unsynced g.D.Directory (c.as_slice.ensures.value ∙ c.in_ok-text.ensures) w.gives w.notes w.faults w.frame e.faults e.frame)

pub returns-in_err-sync_directory-clause-images : goal.returns-in_err-sync_directory-clause-images
returns-in_err-sync_directory-clause-images g c = λ tells.
    let D = g.D.Directory in
    let e = c.in_err-sync_directory.ensures in
    handed (SavesText (D.disk c.args.directory.now) (D.disk c.sync_directory.new.self) (list_text (map string_bytes c.args.names.now.keys))) c.from_residual-in_err-sync_directory.result _ c.from_residual-in_err-sync_directory.ensures.1
    (text_unsynced (c.as_slice.ensures.value ∙ c.in_ok-text.ensures) (c.in_ok-atomic_write.ensures.images tells) (e.images tells) e.faults.cause.0)

pub returns-clause-saves : goal.returns-clause-saves
returns-clause-saves g c =
    let w = c.in_ok-atomic_write.ensures in
    let s = c.in_ok-sync_directory.ensures in
    saves_synced g.D.Directory _ (c.as_slice.ensures.value ∙ c.in_ok-text.ensures) w.gives w.notes w.faults w.frame s.faults s.frame

pub returns-clause-images : goal.returns-clause-images
returns-clause-images g c = λ tells. text_synced _ (c.as_slice.ensures.value ∙ c.in_ok-text.ensures) (c.in_ok-atomic_write.ensures.images tells) (c.in_ok-sync_directory.ensures.images tells)
