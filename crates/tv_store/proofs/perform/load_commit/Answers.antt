use Rattle.std.proofs.Common.{ap, refl}
use Rattle.std.proofs.lemmas.Result.{err_from_is_err_and}
use Rattle.tv_machine.specs.State.{Snapshot}
use Rattle.tv_store.proofs.Performing.{asks_only}
use Rattle.tv_catalog.specs.declared.action.Action.TheVariants as actions
use Rattle.tv_catalog.specs.declared.action.Reply.TheVariants as replies
use Rattle.tv_formats.proofs.Results.{no_answer}
use Rattle.tv_store.proofs.Durable.{asked_stored, keeps_all}
use Rattle.tv_store.proofs.perform.load_commit.Goals as goal

pub returns-clause-performs : goal.returns-clause-performs
returns-clause-performs g c =
    let loaded = c.in_ok-shown.ensures in
    asks_only g.O.Directory (actions.Load c.args.generation) c.args.files.now c.load.new.files _ (c.in_ok-shown.shown, refl)
    (λ tells s h whole suits. (ap (λ (x : Snapshot). replies.Loaded x) (loaded.shown tells s h whole).0, refl, λ commit e. cc))
    (record {
      quiet = loaded.faults.quiet;
      free = λ locks takes. loaded.faults.free locks;
      fits = λ never. never;
      cause = record { faults = record { quiet = loaded.faults.quiet; free = loaded.faults.free; reads = λ locks. tt; cause = tt }; readable = λ tells s h whole. (loaded.shown tells s h whole).1 };
    })
    loaded.frame refl refl

pub returns-in_err-shown-clause-performs : goal.returns-in_err-shown-clause-performs
returns-in_err-shown-clause-performs g c =
    let failed = c.in_err-shown.ensures in
    let e = err_from_is_err_and c.from_residual.result c.from_residual.ensures.1 in
    rw (e.1, e.2)
    (asks_only g.O.Directory (actions.Load c.args.generation) c.args.files.now c.load.new.files _ tt (λ tells s h whole suits. tt) (record {
      quiet = tt;
      free = λ locks takes. tt;
      fits = tt;
      cause = record { faults = record { quiet = tt; free = λ locks. tt; reads = failed.faults.reads; cause = failed.faults.cause }; readable = λ tells s h whole. tt };
    })
    failed.frame refl refl)

pub returns-clause-images : goal.returns-clause-images
returns-clause-images g c tells s h whole suits can d =
    asked_stored g.O.Directory c.args.files.now s (g.met.O.Directory.stands c.args.files.now.outside tells) h d (actions.Load c.args.generation) c.load.new.files _ c.load.ensures.frame (c.load.ensures.images tells) (keeps_all s)

pub returns-in_err-shown-clause-images : goal.returns-in_err-shown-clause-images
returns-in_err-shown-clause-images g c tells s h whole suits can d =
    asked_stored g.O.Directory c.args.files.now s (g.met.O.Directory.stands c.args.files.now.outside tells) h d (actions.Load c.args.generation) c.load.new.files c.from_residual.result c.load.ensures.frame (c.load.ensures.images tells) (no_answer c.from_residual.result _ c.from_residual.ensures.0)
