use Rattle.std.proofs.Common.{refl, inl, inr, sym, ap, ◌∙◌, Some}
use Rattle.std.specs.Prelude.{is_some}
use Rattle.tv_replay.specs.Replays.{replay_facts}
use Rattle.tv_replay.proofs.Runs.{schema_absent, schema_cause, lend_cause, schema_line_is, folder_line_is, not_begun, why_since, kept_then, reports_since, stopped_with, error_no_feed, texts_then}
use Rattle.tv_replay.proofs.program.run_replay.Goals as goal

pub returns-in-Err-clause-ends : goal.returns-in-Err-clause-ends
returns-in-Err-clause-ends g c =
    not_begun _ c.in-Err.ensures.frame (schema_cause _ _ c.in-Err.error c.in-Err.ensures.faults.cause) (schema_line_is _ _ c.in-Err.error c.in-Err.ensures.faults.cause) (rw c.from.ensures at c.say_error.ensures) refl
    (λ other refused. inl (λ told. schema_absent _ c.in-Err.error (c.in-Err.ensures.absent told) other, refused))

pub returns-in-Err-lend-clause-ends : goal.returns-in-Err-lend-clause-ends
returns-in-Err-lend-clause-ends g c =
    let had_schema = c.in-Ok.ensures in
    let refused = c.in-Err-lend.ensures in
    let free = had_schema.frame.folders.lent ∙ c.requires.free in
    let kept = kept_then had_schema.frame (record { folders = record { texts = refused.frame.texts; folders = refused.lends.folders; lent = refused.lends.free ∙ sym free }; said = refused.frame.said }) in
    not_begun _ kept (why_since had_schema.faults.quiet (lend_cause _ _ c.in-Err-lend.refusal refused.faults.cause)) (folder_line_is c.in-Err-lend.refusal) (rw c.from-in-Err-lend.ensures at c.say_error-in-Err-lend.ensures) refl
    (λ other refused. inr (λ told. ap is_some (had_schema.bytes told), refused))

pub give_back_after-requires-clause-feed : goal.give_back_after-requires-clause-feed
give_back_after-requires-clause-feed g c =
    let D = g.P.Out.Directory in
    let before = D.view c.in-Ok-lend.outside in
    let now = D.view c.replay-outside.result.outside in
    let script = g.R.Source.view c.args.script.now in
    let script_now = g.R.Source.view c.replay-outside.new.script in
    error_no_feed (replay_facts D.told before now.faults script script_now) c.as_slice.result.now before.reads script.left c.in-Err-outcome.error
    (rw c.in-Err-outcome.is at c.replay-outside.ensures.faults.cause)

pub returns-clause-ends : goal.returns-clause-ends
returns-clause-ends g c =
    let lent = c.in-Ok-lend.ensures in
    let had_schema = c.in-Ok.ensures in
    stopped_with _ c.give_back_after.ensures (λ line reports. record {
      before = c.in-Ok-lend.outside;
      stopped = c.replay-outside.result.outside;
      schema = c.as_slice.result.now;
      lent = λ told. sym (had_schema.frame.folders.folders told c.args.folder.now) ∙ lent.lends.given told;
      schema_is = λ told. had_schema.bytes told ∙ ap Some (sym c.as_slice.ensures.value);
      cause = rw c.in-Err-outcome.is at c.replay-outside.ensures.faults.cause;
      stops = rw c.in-Err-outcome.is at c.replay-outside.ensures.stops;
      frame = c.replay-outside.ensures.frame;
      survives = c.replay-outside.ensures.survives;
      reports = reports_since (g.P.Place.view c.args.place.now) (texts_then had_schema.frame.folders.texts lent.frame.texts) (lent.faults.quiet ∙ had_schema.faults.quiet) (lent.frame.said ∙ had_schema.frame.said) lent.lends.lent reports;
    })
