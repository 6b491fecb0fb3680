use Rattle.std.proofs.Common.{◌≡◌, ℕ, true, false, refl, sym, ap, ◌∙◌, inl, inr, subst}
use Rattle.std.proofs.Math.Logic.{⊎_map}
use Rattle.std.proofs.lemmas.Result.{IfOk-weaker, IfErr-weaker}
use Rattle.tv_formats.specs.Names.{meta_name}
use Rattle.tv_formats.specs.Files.{Rose}
use Rattle.tv_formats.specs.Commits.{Commit}
use Rattle.tv_machine.specs.State.{Catalog}
use Rattle.tv_machine.specs.Lines.{opening_of}
use Rattle.tv_store.specs.Telling.{TellsLine}
use Rattle.tv_store.specs.OpeningCauses.{opening_facts}
use Rattle.tv_store.specs.StoreCauses.{writer_lock_name}
use Rattle.tv_replay.specs.AppliedEvents.{Runs, FailsRun, StopsRun}
use Rattle.tv_replay.specs.Replays.{Replays, ReplayCause, IsQuietAt, IsReadOut, FailsReplay, StopsReplay, replay_call, replay_facts}
use Rattle.tv_replay.proofs.AppliedEvents.{replays, run_cause, either_rose, reads_whole, if_err_both}
use Rattle.tv_replay.proofs.Complete.{only_memory}
use Rattle.tv_replay.proofs.ReplayFrames.{noted_since, run_frame}
use Rattle.tv_replay.proofs.Stopping.{stops_report, opening_cause, opening_told, busy_since_opening, either_behind, meta_since, none_behind, none_met}
use Rattle.tv_replay.proofs.Surviving.{survives_opened, survives_refused, survives_run}
use Rattle.tv_replay.proofs.replaying.replay.Goals as goal

pub returns-in-Err-clause-stops : goal.returns-in-Err-clause-stops
returns-in-Err-clause-stops g c tells =
    let D = g.O.Directory in
    let before = D.view c.args.outside in
    let refused = c.in-Err.ensures in
    let now = D.view c.in-Err.field-0.directory in
    inl (record {
      silent = refused.tells.err;
      unread = refl;
      leaves = refused.leaves.leaves tells;
      stood = λ some. refused.frame.stood (tells, some);
      unchanged = refused.leaves.unchanged tells;
      unnoted = refused.frame.unnoted;
      cause = opening_told (opening_facts D c.args.outside c.in-Err.field-0.directory) (D.told.locks → before.locks writer_lock_name ≡ true) c.args.schema.now before.reads c.in-Err.field-0.error tells (λ busy. busy.told) refused.faults.cause;
    })

pub returns-in-Err-clause-faults : goal.returns-in-Err-clause-faults
returns-in-Err-clause-faults g c =
    let D = g.O.Directory in
    let before = D.view c.args.outside in
    let now = D.view c.in-Err.field-0.directory in
    let script = g.R.Source.view c.args.script.now in
    let refused = c.in-Err.ensures in
    record {
      quiet = tt;
      free = λ t. tt;
      cause =
          opening_cause (opening_facts D c.args.outside c.in-Err.field-0.directory) (replay_facts D.told before now.faults script script) c.args.schema.now before.reads script.left c.in-Err.field-0.error
          (record {
            tells = λ t. t;
            busy = λ busy. record { told = λ t. inl (busy.told t); untold = busy.untold };
            refused = inl;
            quiet = λ quiet. (quiet, refl);
            refused_behind = λ behind. inl (⊎_map (λ rose. rose) (λ out. ((out.0.0, refl), out.1)) behind);
            quiet_behind = λ behind. (⊎_map (λ quiet. quiet) (λ out. ((out.0.0, refl), out.1)) behind, refl);
          })
          refused.faults.cause;
    }

pub returns-in-Err-clause-complete : goal.returns-in-Err-clause-complete
returns-in-Err-clause-complete g c all =
    let D = g.O.Directory in
    let before = D.view c.args.outside in
    let now = D.view c.in-Err.field-0.directory in
    let script = g.R.Source.view c.args.script.now in
    only_memory D.told (replay_call D c.args.outside c.in-Err.field-0.directory c.args.schema.now script script) (replay_facts D.told before now.faults script script) c.in-Err.field-0.error
    all.content all.content all.ready (none_met D.told.locks before.locks (Rose before.faults now.faults) all.locks all.ready.sound.free) all.quiet
    (none_behind D.told before script script now.faults (Rose script.faults script.faults) all.locks all.ready.sound.free all.quiet)
    (returns-in-Err-clause-faults g c).cause (returns-in-Err-clause-stops g c)

pub returns-clause-frame : goal.returns-clause-frame
returns-clause-frame g c = run_frame c.in-Ok.ensures.frame.ok c.in-Ok.ensures.locks.ok c.apply_all-outcome.ensures.frame c.into_outside.ensures.frees

pub returns-clause-faults : goal.returns-clause-faults
returns-clause-faults g c =
    let D = g.O.Directory in
    let opened = c.in-Ok.ensures in
    let before = D.view c.args.outside in
    let mid = D.view c.in-Ok.store.outside in
    let new = D.view c.apply_all-outcome.new.store.outside in
    let now = D.view c.into_outside.result in
    let script = g.R.Source.view c.args.script.now in
    let script_now = g.R.Source.view c.apply_all-outcome.new.script in
    let more = Rose script.faults script_now.faults in
    let same = script_now.faults ≡ script.faults in
    let faults = c.into_outside.ensures.frees.faults in
    record {
      quiet = IfOk-weaker c.apply_all-outcome.result (λ tally. IsQuietAt mid new script script_now) (λ tally. IsQuietAt before now script script_now) (λ tally quiet. (faults ∙ quiet.0 ∙ opened.faults.quiet, quiet.1)) c.apply_all-outcome.ensures.faults.quiet;
      free = λ told. IfOk-weaker c.apply_all-outcome.result (λ tally. IsQuietAt mid new script script_now) (λ tally. before.locks writer_lock_name ≡ false) (λ tally quiet. (opened.locks.ok told).was_free) c.apply_all-outcome.ensures.faults.quiet;
      cause =
          IfErr-weaker c.apply_all-outcome.result (FailsRun D c.in-Ok.store c.apply_all-outcome.new.store script script_now) (FailsReplay D.told (replay_call D c.args.outside c.into_outside.result c.args.schema.now script script_now))
          (λ error cause.
          subst (λ (n : ℕ). ReplayCause (replay_facts D.told before n script script_now) c.args.schema.now before.reads script.left error) (sym faults)
          (run_cause D c.in-Ok.store c.apply_all-outcome.new.store script script_now (replay_facts D.told before new.faults script script_now) c.args.schema.now before.reads error cause
          (c.in-Ok.store.kept.form.schema, opened.opens.spelled) (λ tells. (opened.opens.found tells).0)
          (busy_since_opening D.told.locks before.locks mid.locks before.faults mid.faults new.faults opened.locks.ok opened.faults.quiet)
          (either_rose before.faults mid.faults new.faults more opened.faults.quiet)
          (λ quiet. (quiet.0 ∙ opened.faults.quiet, quiet.1)) (either_behind before.faults new.faults) (λ quiet. (inl quiet.0, quiet.1))
          (λ tells index none. let held = opened.opens.holds tells index in none tells index.state held.1 (reads_whole index held.2))))
          c.apply_all-outcome.ensures.faults.cause;
    }

pub returns-clause-done : goal.returns-clause-done
returns-clause-done g c =
    let D = g.O.Directory in
    let opened = c.in-Ok.ensures in
    let freed = c.into_outside.ensures in
    let text = (g.R.Source.view c.args.script.now).left in
    let left = (g.R.Source.view c.apply_all-outcome.new.script).left in
    IfOk-weaker c.apply_all-outcome.result (Runs D c.in-Ok.store c.apply_all-outcome.new.store text left) (Replays D c.args.outside c.into_outside.result c.args.schema.now text)
    (λ tally runs.
    replays D c.args.outside c.args.schema.now c.in-Ok.store c.apply_all-outcome.new.store c.into_outside.result text left tally opened.opens opened.tells.ok opened.frame.ok.deletes_none.refusals
    freed.holds freed.frees.frame.tells_none.heard freed.frees.frame.tells_none.deletes_none.goes_on.clock freed.frees.frame.tells_none.deletes_none.refusals
    (λ locks held. meta_since (D.view c.args.outside).locks (D.view c.in-Ok.store.outside).locks (opened.locks.ok locks) ∙ held)
    (λ tells none. noted_since (D.view c.args.outside).watched (opened.frame.made tells none) c.apply_all-outcome.ensures.frame.watched freed.frees.frame.watched)
    (λ turns applied t th locks sound.
    survives_run D c.args.outside c.args.schema.now c.in-Ok.store c.apply_all-outcome.new.store c.into_outside.result (g.met.O.Directory.tells_more t) opened.opens (opened.survives t th locks sound) (freed.images t)
    freed.frees.frame.tells_none.heard turns (λ s held whole durable. (applied.survives t th s held whole durable).runs.runs)) runs)
    c.apply_all-outcome.ensures.done

pub returns-clause-read_out : goal.returns-clause-read_out
returns-clause-read_out g c =
    let script = g.R.Source.view c.args.script.now in
    let script_now = g.R.Source.view c.apply_all-outcome.new.script in
    IfOk-weaker c.apply_all-outcome.result (Runs g.O.Directory c.in-Ok.store c.apply_all-outcome.new.store script.left script_now.left) (λ tally. IsReadOut script script_now)
    (λ tally runs text told. (runs.lines text told).1)
    c.apply_all-outcome.ensures.done

pub returns-clause-stops : goal.returns-clause-stops
returns-clause-stops g c =
    let D = g.O.Directory in
    let opened = c.in-Ok.ensures in
    let before = D.view c.args.outside in
    let store = c.in-Ok.store in
    let mid = D.view store.outside in
    let new = D.view c.apply_all-outcome.new.store.outside in
    let now = D.view c.into_outside.result in
    let script = g.R.Source.view c.args.script.now in
    let script_now = g.R.Source.view c.apply_all-outcome.new.script in
    let freed = c.into_outside.ensures in
    IfErr-weaker c.apply_all-outcome.result (StopsRun D store c.apply_all-outcome.new.store script script_now) (StopsReplay D.told (replay_call D c.args.outside c.into_outside.result c.args.schema.now script script_now))
    (λ error stopped tells. inr (record {
      found = (opened.opens.found tells).0;
      files = (opened.opens.found tells).1;
      stops = λ index.
          let held = opened.opens.holds tells index in
          stops_report D.told store.kept.form index.form script script_now index.state before mid new now error
          held.0 (λ th. subst (λ (commit : Commit). TellsLine before.heard mid.heard before.moment mid.moment (opening_of commit)) (ap (λ (catalog : Catalog). catalog.commit) held.1.catalog) (opened.tells.ok th))
          opened.locks.ok opened.faults.quiet opened.frame.ok.deletes_none.refusals freed.frees.frame.tells_none.deletes_none.refusals freed.frees.faults
          freed.frees.frame.tells_none.heard freed.frees.frame.tells_none.deletes_none.goes_on.clock (freed.frees.frame.content tells meta_name) (stopped tells index.state held.1 (reads_whole index held.2));
    }))
    c.apply_all-outcome.ensures.stops

pub returns-clause-complete : goal.returns-clause-complete
returns-clause-complete g c all =
    let D = g.O.Directory in
    let before = D.view c.args.outside in
    let now = D.view c.into_outside.result in
    let script = g.R.Source.view c.args.script.now in
    let script_now = g.R.Source.view c.apply_all-outcome.new.script in
    if_err_both c.apply_all-outcome.result
    (λ error cause stops.
    only_memory D.told (replay_call D c.args.outside c.into_outside.result c.args.schema.now script script_now) (replay_facts D.told before now.faults script script_now) error
    all.content all.content all.ready (none_met D.told.locks before.locks (Rose before.faults now.faults) all.locks all.ready.sound.free) all.quiet
    (none_behind D.told before script script_now now.faults (Rose script.faults script_now.faults) all.locks all.ready.sound.free all.quiet) cause stops)
    (returns-clause-faults g c).cause (returns-clause-stops g c)

pub returns-in-Err-clause-survives : goal.returns-in-Err-clause-survives
returns-in-Err-clause-survives g c t th locks sound = survives_refused g.O.Directory c.args.outside c.args.schema.now _ c.in-Err.field-0 (c.in-Err.ensures.survives t th locks sound)

pub returns-clause-survives : goal.returns-clause-survives
returns-clause-survives g c t th locks sound =
    let D = g.O.Directory in
    let freed = c.into_outside.ensures in
    let ran = c.apply_all-outcome.ensures.survives in
    survives_opened D c.args.outside c.args.schema.now c.in-Ok.store c.apply_all-outcome.new.store c.into_outside.result (g.met.O.Directory.tells_more t) c.in-Ok.ensures.opens (c.in-Ok.ensures.survives t th locks sound)
    (freed.images t) freed.frees.frame.tells_none.heard (g.R.Source.view c.args.script.now).left (g.met.O.Directory.stands c.args.outside t) ((returns-clause-frame g c).locks locks) ran (ran.runs t th) sound
