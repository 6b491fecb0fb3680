use Rattle.std.proofs.Common.{◌≡◌, ◌≢◌, ◌<◌, ◌+◌, ◌*◌, ◌^◌, ℕ, [], length, true≢false, refl, sym, ap, subst, ◌∙◌, inl, inr, arith}
use Rattle.tv_machine.specs.State.{Catalog}
use Rattle.tv_machine.specs.Machine.{after}
use Rattle.tv_formats.specs.Names.{meta_name}
use Rattle.tv_formats.specs.Files.{Rose}
use Rattle.tv_store.specs.Applying.{event_facts}
use Rattle.tv_catalog.specs.Exhausted.{IsExhausted}
use Rattle.tv_machine.specs.Living.{is_busy}
use Rattle.tv_replay.proofs.KeptLocks.{free_since, lock_since}
use Rattle.tv_catalog.specs.Effects.{LoadsCommit, TakesMetaLock}
use Rattle.tv_script.specs.ScriptLines.{IsNoEvent, IsTooLong, pending}
use Rattle.std.proofs.lemmas.Result.{err_from_is_err_and, IfErr-weaker, on_ok_weaker}
use Rattle.tv_events.specs.Script.{line_limit}
use Rattle.tv_replay.specs.AppliedEvents.{FailsRun, run_causes}
use Rattle.tv_store.specs.Kept.{AtMost}
use Rattle.tv_catalog.specs.ReaderNumbers.{FewNumbers}
use Rattle.tv_managed.specs.Collecting.{meta_lock_name}
use Rattle.tv_replay.proofs.Progress.{begins_next}
use Rattle.tv_replay.proofs.Stopping.{stops_between, stops_in, event_stops, script_stops, end_stops, refused_next, nothing_ahead, busy_since}
use Rattle.tv_replay.proofs.ReadAhead.{event_known, end_known}
use Rattle.tv_replay.proofs.ReplayFrames.{frame_then, may_note, no_time}
use Rattle.tv_replay.proofs.Surviving.{in_event, in_part}
use Rattle.tv_replay.proofs.AppliedEvents.{starts, goes_on, ends, stops_at_line, stops_at_long, stops_at_last, event_cause, script_cause, end_cause, fails, if_err_both, if_ok_both, meta_stands, rose_from}
use Rattle.tv_replay.proofs.Spending.{one_more_line, never_spent, written_within}
use Rattle.tv_replay.proofs.replaying.apply_all.Goals as goal

pub loop-events-init : goal.loop-events-init
loop-events-init g c = record {
  run = starts g.O.Directory c.args.store.now c.in_ok-buffer.buffer (g.R.Source.view c.args.script.now).left c.in_ok-buffer.ensures;
  held = omega (arith, ap length c.in_ok-buffer.ensures);
  is_open = c.requires.open;
  short = c.requires.short;
  few = c.requires.few;
  quiet = (refl, refl);
  frame = no_time g.O.Directory.told (is_busy c.args.store.now.kept.catalog) (g.O.Directory.view c.args.store.now.outside) c.requires.idle;
}

pub loop-events-preserved : goal.loop-events-preserved
loop-events-preserved g c =
    let before = c.loop-events.invariant in
    let taken = rw c.in-Ok-Some.field-0-is at c.in-Ok-Some.ensures.event in
    let line = rw c.in-Ok-Some.field-0-is at c.in-Ok-Some.ensures.fits in
    let applied = c.in_ok-_answer.ensures in
    let idle_at : (locks : g.O.Directory.told.locks) → TakesMetaLock c.loop-events.store.kept.catalog c.in-Ok-Some.event → (g.O.Directory.view c.loop-events.store.outside).locks meta_lock_name ≡ (g.O.Directory.view c.args.store.now.outside).locks meta_lock_name
    = λ locks takes. lock_since g.O.Directory.told.locks c.loop-events.store.kept.catalog c.in-Ok-Some.event _ _ before.frame.locks locks takes in
    record {
      run = goes_on g.O.Directory c.args.store.now c.loop-events.store c.apply.new.self _ _ _ c.loop-events.events c.in-Ok-Some.event c.in_ok-_answer._answer before.run taken line.fits applied.frame.form
          (λ locks held takes. true≢false (sym (idle_at locks takes ∙ held) ∙ applied.faults.free locks takes)) applied.step applied.tells.ok (g.met.O.Directory.tells_more, applied.survives);
      held = c.in-Ok-Some.ensures.held;
      is_open = applied.frame.is_open;
      short = subst (λ (bound : ℕ). AtMost bound c.apply.new.self.kept) (one_more_line c.loop-events.events) (applied.grows.lens (c.loop-events.events * line_limit) line_limit (written_within _ line.small) before.short);
      few = subst (λ (bound : ℕ). FewNumbers bound c.apply.new.self.kept.catalog.reading c.apply.new.self.kept.collections) (one_more_line c.loop-events.events) (applied.grows.numbers (c.loop-events.events * line_limit) line_limit (written_within _ line.small) before.few);
      quiet = (applied.faults.quiet ∙ before.quiet.0, c.in-Ok-Some.ensures.faults.quiet ∙ before.quiet.1);
      frame = frame_then {now = is_busy c.apply.new.self.kept.catalog} before.frame applied.frame.dotted applied.frame.goes_on applied.frame.locks (may_note c.in-Ok-Some.event _ _ applied.frame.watched);
    }

pub returns-in-Ok-None-clause-done : goal.returns-in-Ok-None-clause-done
returns-in-Ok-None-clause-done g c =
    let taken = rw c.in-Ok-None.field-0-is at c.in-Ok-None.ensures.event in
    ends g.O.Directory c.args.store.now c.loop-events.store _ _ c.next_event.new.buffer (g.R.Source.view c.next_event.new.source).left c.loop-events.events _ c.loop-events.invariant.run taken refl

pub returns-in-Err-clause-faults : goal.returns-in-Err-clause-faults
returns-in-Err-clause-faults g c =
    let before = c.loop-events.invariant in
    let script = g.R.Source.view c.args.script.now in
    fails (script_cause (run_causes g.O.Directory c.args.store.now c.loop-events.store script (g.R.Source.view c.next_event.new.source)) _ c.in-Err.error (c.loop-events.events + 1) c.script_error.result c.script_error.ensures c.in-Err.ensures.faults.cause
    (λ rose. inr (rose_from _ _ _ before.quiet.1 rose)) (λ quiet. (before.quiet.0, quiet ∙ before.quiet.1))
    (stops_at_line (c.loop-events.events + 1) before.run refl) (stops_at_long (c.loop-events.events + 1) before.run refl))

pub returns-in_err-_answer-clause-faults : goal.returns-in_err-_answer-clause-faults
returns-in_err-_answer-clause-faults g c =
    let before = c.loop-events.invariant in
    let event = c.in-Ok-Some.event in
    let line = rw c.in-Ok-Some.field-0-is at c.in-Ok-Some.ensures.fits in
    let few : c.loop-events.events < 2 ^ 32 = omega (arith, c.loop-events-test.true) in
    let e = err_from_is_err_and c.from_residual-in_err-_answer.result c.from_residual-in_err-_answer.ensures.1 in
    let script = g.R.Source.view c.args.script.now in
    rw (e.1, e.2) (fails (event_cause (run_causes g.O.Directory c.args.store.now c.apply.new.self script (g.R.Source.view c.next_event.new.source))
    (event_facts g.O.Directory (IsExhausted c.loop-events.store.kept event) c.loop-events.store c.apply.new.self event)
    (LoadsCommit c.loop-events.store.kept.catalog event) g.O.Directory.told.content c.loop-events.store.kept.form.schema ((g.O.Directory.view c.loop-events.store.outside).reads meta_name) c.in_err-_answer.field-0.0 c.in_err-_answer.ensures.faults.cause
    (λ b. busy_since _ _ _ _ _ (λ told held. sym (lock_since g.O.Directory.told.locks c.loop-events.store.kept.catalog event _ _ before.frame.locks told b.0) ∙ held) before.quiet.0 b.1)
    (λ rose. inl (rose_from _ _ _ before.quiet.0 rose)) (λ quiet. (quiet ∙ before.quiet.0, c.in-Ok-Some.ensures.faults.quiet ∙ before.quiet.1))
    (never_spent c.loop-events.store.kept event c.loop-events.events few (written_within _ line.small) before.short before.few)
    (λ wrong t s held whole. meta_stands g.O.Directory.told.content (g.O.Directory.view c.loop-events.store.outside).reads c.loop-events.store.kept wrong t (after s before.run.turns) (before.run.applied.holds t s held whole))))

pub returns-clause-faults : goal.returns-clause-faults
returns-clause-faults g c =
    let before = c.loop-events.invariant in
    let all : c.loop-events.events ≡ 4294967295 = omega (arith, c.loop-events-test.false, c.loop-events.auto.events-end) in
    let script = g.R.Source.view c.args.script.now in
    let causes = run_causes g.O.Directory c.args.store.now c.loop-events.store script (g.R.Source.view c.end_of.new.script) in
    record {
      quiet = on_ok_weaker c.end_of.result (λ quiet. (before.quiet.0, quiet ∙ before.quiet.1)) c.end_of.ensures.faults.quiet;
      cause =
          IfErr-weaker c.end_of.result _ (FailsRun g.O.Directory c.args.store.now c.loop-events.store script (g.R.Source.view c.end_of.new.script))
          (λ error cause. end_cause causes error cause (λ rose. inr (rose_from _ _ _ before.quiet.1 rose)) (λ quiet. (before.quiet.0, quiet ∙ before.quiet.1)) (stops_at_last before.run all)) c.end_of.ensures.faults.cause;
    }

pub returns-clause-done : goal.returns-clause-done
returns-clause-done g c =
    if_ok_both c.end_of.result
    (λ tally count end.
    let all : tally.events ≡ c.loop-events.events = omega (arith, c.loop-events-test.false, c.loop-events.auto.events-end, count) in
    ends g.O.Directory c.args.store.now c.loop-events.store _ _ c.end_of.new.buffer (g.R.Source.view c.end_of.new.script).left c.loop-events.events tally c.loop-events.invariant.run end all)
    c.end_of.ensures.count c.end_of.ensures.end

pub returns-in_err-buffer-clause-stops : goal.returns-in_err-buffer-clause-stops
returns-in_err-buffer-clause-stops g c =
    let e = err_from_is_err_and c.from_residual.result c.from_residual.ensures.1 in
    let left = (g.R.Source.view c.args.script.now).left in
    rw (e.1, e.2) (stops_between g.O.Directory c.args.store.now c.args.store.now (g.R.Source.view c.args.script.now) (g.R.Source.view c.args.script.now) (pending [] left) 0 _ (starts g.O.Directory c.args.store.now [] left refl) (λ quiet. nothing_ahead left) (λ s. tt))

pub returns-in-Err-clause-stops : goal.returns-in-Err-clause-stops
returns-in-Err-clause-stops g c =
    let run = c.loop-events.invariant.run in
    let text = (g.R.Source.view c.args.script.now).left in
    stops_between g.O.Directory c.args.store.now c.loop-events.store (g.R.Source.view c.args.script.now) (g.R.Source.view c.next_event.new.source) _ _ _ run
    (λ quiet. event_known _ (Rose (g.R.Source.view c.loop-events.script).faults (g.R.Source.view c.next_event.new.source).faults) ((g.R.Source.view c.next_event.new.source).faults ≡ (g.R.Source.view c.loop-events.script).faults) _ c.in-Err.error c.in-Err.ensures.faults.cause c.in-Err.ensures.ahead.err
    (λ rose. quiet (rose_from _ _ _ c.loop-events.invariant.quiet.1 rose)))
    (λ s. script_stops text s run.turns _ _ (Rose (g.R.Source.view c.loop-events.script).faults (g.R.Source.view c.next_event.new.source).faults) ((g.R.Source.view c.next_event.new.source).faults ≡ (g.R.Source.view c.loop-events.script).faults) _ c.in-Err.error (c.loop-events.events + 1) c.script_error.result (ap (λ (n : ℕ). n + 1) run.counted) c.script_error.ensures c.in-Err.ensures.faults.cause
    (refused_next text _ run.turns IsNoEvent run.read) (refused_next text _ run.turns IsTooLong run.read))

pub returns-in_err-_answer-clause-stops : goal.returns-in_err-_answer-clause-stops
returns-in_err-_answer-clause-stops g c =
    let before = c.loop-events.invariant in
    let run = before.run in
    let event = c.in-Ok-Some.event in
    let text = (g.R.Source.view c.args.script.now).left in
    let taken = rw c.in-Ok-Some.field-0-is at c.in-Ok-Some.ensures.event in
    let line = rw c.in-Ok-Some.field-0-is at c.in-Ok-Some.ensures.fits in
    let few : c.loop-events.events < 2 ^ 32 = omega (arith, c.loop-events-test.true) in
    let e = err_from_is_err_and c.from_residual-in_err-_answer.result c.from_residual-in_err-_answer.ensures.1 in
    let failed = c.in_err-_answer.ensures in
    rw (e.1, e.2) (stops_in g.O.Directory c.args.store.now c.loop-events.store c.apply.new.self (g.R.Source.view c.args.script.now) (g.R.Source.view c.next_event.new.source) _ _ c.in_err-_answer.field-0.0 run _ event taken (λ quiet. c.in-Ok-Some.ensures.ahead.ok) before.quiet.0 failed.frame.goes_on failed.tells.err failed.leaves.meta failed.leaves.memory
    (λ tells s held whole. event_stops text s run.turns _ _ (event_facts g.O.Directory (IsExhausted c.loop-events.store.kept event) c.loop-events.store c.apply.new.self event)
    (LoadsCommit c.loop-events.store.kept.catalog event) g.O.Directory.told.content c.loop-events.store.kept.form.schema ((g.O.Directory.view c.loop-events.store.outside).reads meta_name)
    event c.in_err-_answer.field-0.0 (begins_next text _ _ run.turns event run.read taken) failed.faults.cause
    (λ b. (subst (λ (k : Catalog). TakesMetaLock k event) held.catalog b.0, λ told. sym (lock_since g.O.Directory.told.locks c.loop-events.store.kept.catalog event _ _ before.frame.locks told b.0) ∙ b.1.told told))
    (never_spent c.loop-events.store.kept event c.loop-events.events few (written_within _ line.small) before.short before.few)
    (λ wrong. meta_stands g.O.Directory.told.content (g.O.Directory.view c.loop-events.store.outside).reads c.loop-events.store.kept wrong tells (after s run.turns) held)
    (λ error bad. bad.1 tells (after s run.turns) held whole) (λ path none. none.1 tells (after s run.turns) held whole)
    (λ read error bad told. free_since g.O.Directory.told.locks c.loop-events.store.kept.catalog event _ _ before.frame.locks (λ locks takes. failed.faults.reads locks takes read) told bad.0)))

pub returns-clause-stops : goal.returns-clause-stops
returns-clause-stops g c =
    let run = c.loop-events.invariant.run in
    let text = (g.R.Source.view c.args.script.now).left in
    let all : c.loop-events.events ≡ 4294967295 = omega (arith, c.loop-events-test.false, c.loop-events.auto.events-end) in
    let start = (g.R.Source.view c.loop-events.script).faults in
    let end = (g.R.Source.view c.end_of.new.script).faults in
    if_err_both c.end_of.result
    (λ error cause known.
    stops_between g.O.Directory c.args.store.now c.loop-events.store (g.R.Source.view c.args.script.now) (g.R.Source.view c.end_of.new.script) _ _ error run
    (λ quiet. end_known _ _ (Rose start end) (end ≡ start) error cause known (λ rose. quiet (rose_from _ _ _ c.loop-events.invariant.quiet.1 rose)))
    (λ s. end_stops text s run.turns _ _ (Rose start end) (end ≡ start) error (sym run.counted ∙ all) cause (refused_next text _ run.turns (λ rest. rest ≢ []) run.read)))
    c.end_of.ensures.faults.cause c.end_of.ensures.ahead.err

pub returns-in_err-buffer-clause-survives : goal.returns-in_err-buffer-clause-survives
returns-in_err-buffer-clause-survives g c =
    let left = (g.R.Source.view c.args.script.now).left in
    in_part g.O.Directory c.args.store.now c.args.store.now left _ 0 (starts g.O.Directory c.args.store.now [] left refl)

pub returns-in-Ok-None-clause-survives : goal.returns-in-Ok-None-clause-survives
returns-in-Ok-None-clause-survives g c = in_part g.O.Directory c.args.store.now c.loop-events.store _ _ _ c.loop-events.invariant.run

pub returns-in-Err-clause-survives : goal.returns-in-Err-clause-survives
returns-in-Err-clause-survives g c = in_part g.O.Directory c.args.store.now c.loop-events.store _ _ _ c.loop-events.invariant.run

pub returns-clause-survives : goal.returns-clause-survives
returns-clause-survives g c = in_part g.O.Directory c.args.store.now c.loop-events.store _ _ _ c.loop-events.invariant.run

pub returns-in_err-_answer-clause-frame : goal.returns-in_err-_answer-clause-frame
returns-in_err-_answer-clause-frame g c =
    let failed = c.in_err-_answer.ensures.frame in
    frame_then {now = is_busy c.apply.new.self.kept.catalog} c.loop-events.invariant.frame failed.dotted failed.goes_on failed.locks (may_note c.in-Ok-Some.event _ _ failed.watched)

pub returns-in_err-_answer-clause-survives : goal.returns-in_err-_answer-clause-survives
returns-in_err-_answer-clause-survives g c =
    let taken = rw c.in-Ok-Some.field-0-is at c.in-Ok-Some.ensures.event in
    let line = rw c.in-Ok-Some.field-0-is at c.in-Ok-Some.ensures.fits in
    in_event g.O.Directory c.args.store.now c.loop-events.store c.apply.new.self _ _ _ _ c.in-Ok-Some.event c.in_err-_answer.field-0.0 c.loop-events.invariant.run taken line.fits
    (g.met.O.Directory.tells_more, c.in_err-_answer.ensures.survives)
