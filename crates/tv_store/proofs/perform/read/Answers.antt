use Rattle.std.proofs.Common.{◌≡◌, Ok, false, refl, ap, ◌∙◌}
use Rattle.std.proofs.lemmas.Result.{err_from_is_err_and}
use Rattle.tv_catalog.specs.declared.action.Action.TheVariants as actions
use Rattle.tv_catalog.specs.declared.action.Reply.TheVariants as replies
use Rattle.tv_formats.proofs.Results.{no_answer}
use Rattle.tv_formats.specs.Segments.{all_required}
use Rattle.tv_machine.specs.State.{Snapshot}
use Rattle.tv_managed.specs.TrackLaws.{keeps_then}
use Rattle.tv_store.proofs.Asking.{kept_rest}
use Rattle.tv_store.proofs.Durable.{asked_stored, disk_stays, keeps_all}
use Rattle.tv_store.proofs.KeptMetaLock.{gave_back, locks_only, reads_lock}
use Rattle.tv_store.proofs.NotedFiles.{noted_fails, noted_sealed}
use Rattle.tv_store.proofs.Performing.{same_kept}
use Rattle.tv_store.specs.Bodies.{AreSealed}
use Rattle.tv_store.specs.Kept.{FilesState, names_below}
use Rattle.tv_store.proofs.perform.read.Goals as goal

pub returns-in_err-shown-clause-performs : goal.returns-in_err-shown-clause-performs
returns-in_err-shown-clause-performs g c =
    let D = g.O.Directory in
    let old = c.args.files.now in
    let new = c.read_files.new.files in
    let failed = c.in_err-shown.ensures in
    let e = err_from_is_err_and c.from_residual.result c.from_residual.ensures.1 in
    let asks = failed.frame.managed.below in
    rw (e.1, e.2)
    (locks_only D (actions.Read c.args.commit) old new _ (reads_lock D old new asks) old.locked (kept_rest old new failed.frame) tt (λ tells s h whole suits. tt)
    (record { quiet = tt; free = λ tells takes. tt; fits = tt; cause = record { cause = noted_fails D old new c.args.commit c.in_err-shown.field-0.0 failed.faults.cause; readable = λ tells s h whole noted. tt } })
    asks.kept.watched (λ tells. same_kept old.locked _ _ (asks.kept.frame.locks tells)) tt refl)

pub returns-in_err-shown-clause-images : goal.returns-in_err-shown-clause-images
returns-in_err-shown-clause-images g c tells s h whole suits can d =
    asked_stored g.O.Directory c.args.files.now s (g.met.O.Directory.stands c.args.files.now.outside tells) h d (actions.Read c.args.commit) c.read_files.new.files c.from_residual.result c.read_files.ensures.frame (c.read_files.ensures.images tells) (no_answer c.from_residual.result _ c.from_residual.ensures.0)

pub returns-clause-performs : goal.returns-clause-performs
returns-clause-performs g c =
    let D = g.O.Directory in
    let old = c.args.files.now in
    let mid = c.read_files.new.files in
    let new = c.give_back.new.self in
    let read = c.in_ok-shown.ensures in
    let back = c.give_back.ensures.gives in
    let gave = gave_back D old mid new read.frame.managed.below read.frame.managed.locked back.below in
    locks_only D (actions.Read c.args.commit) old new (Ok (replies.Loaded c.in_ok-shown.shown)) gave.below false
    (back.rest ∙ ap (λ (v : FilesState _). record v { outside = new.outside; locked = false }) (kept_rest old mid read.frame)) (c.in_ok-shown.shown, refl)
    (λ tells s h whole suits.
    let sealed : AreSealed s (all_required c.args.commit.segments) = record { each = noted_sealed s c.args.commit whole suits } in
    (ap (λ (x : Snapshot). replies.Loaded x) (read.shown tells s h sealed).0, refl, λ commit e. cc))
    (record {
      quiet = back.below.faults ∙ read.faults.quiet;
      free = λ tells takes. absurd takes;
      fits = λ never. never;
      cause = record { cause = tt; readable = λ tells s h whole noted. (read.shown tells s h (record { each = noted_sealed s c.args.commit whole noted })).1 };
    })
    gave.below.watched gave.locks refl tt

pub returns-clause-images : goal.returns-clause-images
returns-clause-images g c tells s h whole suits can d =
    let old = c.args.files.now in
    let new = c.give_back.new.self in
    let rest : new ≡ record old { outside = new.outside; locked = false } =
    c.give_back.ensures.gives.rest ∙ ap (λ (v : FilesState _). record v { outside = new.outside; locked = false }) (kept_rest old c.read_files.new.files c.read_files.ensures.frame) in
    disk_stays g.O.Directory old s (g.met.O.Directory.stands old.outside tells) h d (actions.Read c.args.commit) new _ (ap (λ v. v.form) rest) (ap (λ v. (names_below v).1) rest)
    (keeps_then (c.read_files.ensures.images tells) (c.give_back.ensures.images tells)) (keeps_all s)
