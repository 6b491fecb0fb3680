use Rattle.std.proofs.Common.{Ok, refl}
use Rattle.tv_formats.specs.Names.{meta_name}
use Rattle.tv_base.specs.declared.io.IoError.TheVariants as io
use Rattle.tv_index.proofs.Managing.{manages_between, manages_err, manages_none}
use Rattle.tv_index.proofs.Openings.{not_written, notes_unless, reads_unless, same_error, unless_before, unless_later, wrote}
use Rattle.tv_index.proofs.SavedSafely.{saves_kept, saves_unkept, saves_unsynced, saves_unwritten}
use Rattle.tv_index.proofs.saving.save_meta_text.Goals as goal

pub returns-in_err-sync_directory-clause-manages : goal.returns-in_err-sync_directory-clause-manages
returns-in_err-sync_directory-clause-manages g c =
    let old = c.args.directory.now in
    let synced = c.in_err-sync_directory.ensures.frame in
    manages_none g.D.Directory old old old c.sync_directory.new.self (λ t n. refl) refl synced.below.content synced.names c.from_residual.result c.from_residual.ensures.0 refl

pub returns-in_err-atomic_write-clause-manages : goal.returns-in_err-atomic_write-clause-manages
returns-in_err-atomic_write-clause-manages g c =
    let old = c.args.directory.now in
    let now = c.atomic_write.new.self in
    let synced = c.in_ok-sync_directory.ensures.frame in
    let wrote = c.in_err-atomic_write.ensures in
    manages_err g.D.Directory old now c.atomic_write.result c.from_residual-in_err-atomic_write.result c.from_residual-in_err-atomic_write.ensures.0
    (manages_between g.D.Directory old c.sync_directory.new.self now now synced.below.content synced.names (λ t n. refl) refl c.atomic_write.result c.atomic_write.ensures.manages)

pub returns-in_err-sync_directory-2-clause-manages : goal.returns-in_err-sync_directory-2-clause-manages
returns-in_err-sync_directory-2-clause-manages g c =
    let old = c.args.directory.now in
    let new = c.sync_directory-2.new.self in
    let synced = c.in_ok-sync_directory.ensures.frame in
    let later = c.in_err-sync_directory-2.ensures.frame in
    manages_err g.D.Directory old new c.atomic_write.result c.from_residual-in_err-sync_directory-2.result c.from_residual-in_err-sync_directory-2.ensures.0
    (manages_between g.D.Directory old c.sync_directory.new.self c.atomic_write.new.self new synced.below.content synced.names later.below.content later.names c.atomic_write.result c.atomic_write.ensures.manages)

pub returns-clause-manages : goal.returns-clause-manages
returns-clause-manages g c =
    let old = c.args.directory.now in
    let new = c.sync_directory-2.new.self in
    let synced = c.in_ok-sync_directory.ensures.frame in
    let later = c.in_ok-sync_directory-2.ensures.frame in
    manages_between g.D.Directory old c.sync_directory.new.self c.atomic_write.new.self new synced.below.content synced.names later.below.content later.names (Ok c.in_ok-atomic_write.field-0) c.in_ok-atomic_write.ensures.manages

pub returns-in_err-sync_directory-clause-frame : goal.returns-in_err-sync_directory-clause-frame
returns-in_err-sync_directory-clause-frame g c = reads_unless c.in_err-sync_directory.ensures.frame.below

pub returns-in_err-atomic_write-clause-frame : goal.returns-in_err-atomic_write-clause-frame
returns-in_err-atomic_write-clause-frame g c =
    let synced = c.in_ok-sync_directory.ensures.frame in
    let answer = c.from_residual-in_err-atomic_write in
    unless_later synced.below (same_error answer.result c.in_err-atomic_write.field-0.0 answer.ensures.1) (not_written c.in_err-atomic_write.field-0.0 c.in_err-atomic_write.ensures.frame)

pub returns-in_err-sync_directory-2-clause-frame : goal.returns-in_err-sync_directory-2-clause-frame
returns-in_err-sync_directory-2-clause-frame g c =
    let synced = c.in_ok-sync_directory.ensures.frame in
    let later = c.in_err-sync_directory-2.ensures.frame in
    let answer = c.from_residual-in_err-sync_directory-2 in
    notes_unless (same_error answer.result (io.Fault c.in_err-sync_directory-2.field-0.0) answer.ensures.1)
    (notes_unless (λ e. absurd cc) (unless_before (unless_later synced.below (λ m. m) (wrote (Ok c.in_ok-atomic_write.field-0) c.in_ok-atomic_write.ensures.frame)) later.below))

pub returns-clause-frame : goal.returns-clause-frame
returns-clause-frame g c =
    let synced = c.in_ok-sync_directory.ensures.frame in
    let later = c.in_ok-sync_directory-2.ensures.frame in
    unless_before (unless_later synced.below (λ m. m) (wrote (Ok c.in_ok-atomic_write.field-0) c.in_ok-atomic_write.ensures.frame)) later.below

pub returns-in_err-sync_directory-clause-safe : goal.returns-in_err-sync_directory-clause-safe
returns-in_err-sync_directory-clause-safe g c tells = saves_unsynced g.D.Directory meta_name c.args.text.now io.Memory c.from_residual.result c.from_residual.ensures.0 (c.in_err-sync_directory.ensures.safe tells)

pub returns-in_err-atomic_write-clause-safe : goal.returns-in_err-atomic_write-clause-safe
returns-in_err-atomic_write-clause-safe g c tells =
    let synced = c.in_ok-sync_directory.ensures in
    let answer = c.from_residual-in_err-atomic_write in
    saves_unwritten g.D.Directory meta_name c.args.text.now c.in_err-atomic_write.field-0.0 (synced.safe tells) synced.frame.names (c.in_err-atomic_write.ensures.safe tells) answer.result answer.ensures.0 answer.ensures.1

pub returns-in_err-sync_directory-2-clause-safe : goal.returns-in_err-sync_directory-2-clause-safe
returns-in_err-sync_directory-2-clause-safe g c tells =
    let synced = c.in_ok-sync_directory.ensures in
    let answer = c.from_residual-in_err-sync_directory-2 in
    saves_unkept g.D.Directory meta_name c.args.text.now (synced.safe tells) synced.frame.names (c.in_ok-atomic_write.ensures.safe tells) answer.result c.in_err-sync_directory-2.field-0.0 answer.ensures.0 answer.ensures.1 (c.in_err-sync_directory-2.ensures.safe tells)

pub returns-clause-safe : goal.returns-clause-safe
returns-clause-safe g c tells =
    let synced = c.in_ok-sync_directory.ensures in
    saves_kept g.D.Directory meta_name c.args.text.now io.Memory tt (synced.safe tells) synced.frame.names (c.in_ok-atomic_write.ensures.safe tells) (c.in_ok-sync_directory-2.ensures.safe tells)
