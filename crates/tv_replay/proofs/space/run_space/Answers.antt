use Rattle.std.proofs.Common.{refl, inl, inr, sym, ap, ◌∙◌, Some}
use Rattle.std.specs.Prelude.{is_some}
use Rattle.tv_replay.proofs.Runs.{schema_absent, schema_cause, lend_cause, schema_line_is, folder_line_is, why_since, kept_then, reports_since, texts_then}
use Rattle.tv_replay.proofs.SpaceCauses.{measure_no_feed}
use Rattle.tv_replay.proofs.SpaceRuns.{no_schema, not_measured, stopped_measuring, was_measured}
use Rattle.tv_replay.proofs.space.run_space.Goals as goal

pub returns-in-Err-clause-ends : goal.returns-in-Err-clause-ends
returns-in-Err-clause-ends g c =
    not_measured (record { folder = c.args.folder.now; path = c.args.path.now; old = g.P.Place.view c.args.place.now; new = g.P.Place.view c.say_error.new.place }) c.in-Err.ensures.frame (schema_cause _ _ c.in-Err.error c.in-Err.ensures.faults.cause) (schema_line_is _ _ c.in-Err.error c.in-Err.ensures.faults.cause) (rw c.from.ensures at c.say_error.ensures)
    (λ other refused. inl (λ told. schema_absent _ c.in-Err.error (c.in-Err.ensures.absent told) other, refused))

pub returns-in-Err-from_bytes-clause-ends : goal.returns-in-Err-from_bytes-clause-ends
returns-in-Err-from_bytes-clause-ends g c =
    let had_schema = c.in-Ok.ensures in
    no_schema (record { folder = c.args.folder.now; path = c.args.path.now; old = g.P.Place.view c.args.place.now; new = g.P.Place.view c.say_error-in-Err-from_bytes.new.place }) c.as_slice.result.now had_schema.frame had_schema.faults.quiet (λ told. had_schema.bytes told ∙ ap Some (sym c.as_slice.ensures.value)) c.in-Err-from_bytes.ensures.err c.say_error-in-Err-from_bytes.ensures

pub returns-in-Err-lend-clause-ends : goal.returns-in-Err-lend-clause-ends
returns-in-Err-lend-clause-ends g c =
    let had_schema = c.in-Ok.ensures in
    let refused = c.in-Err-lend.ensures in
    let free = had_schema.frame.folders.lent ∙ c.requires.free in
    let kept = kept_then had_schema.frame (record { folders = record { texts = refused.frame.texts; folders = refused.lends.folders; lent = refused.lends.free ∙ sym free }; said = refused.frame.said }) in
    not_measured (record { folder = c.args.folder.now; path = c.args.path.now; old = g.P.Place.view c.args.place.now; new = g.P.Place.view c.say_error-in-Err-lend.new.place }) kept (why_since had_schema.faults.quiet (lend_cause _ _ c.in-Err-lend.refusal refused.faults.cause)) (folder_line_is c.in-Err-lend.refusal) (rw c.from-in-Err-lend.ensures at c.say_error-in-Err-lend.ensures)
    (λ other refused. inr (inr (c.as_slice.result.now, (λ told. had_schema.bytes told ∙ ap Some (sym c.as_slice.ensures.value)), refused)))

pub give_back_after-requires-clause-feed : goal.give_back_after-requires-clause-feed
give_back_after-requires-clause-feed g c = measure_no_feed g.P.Out.Directory c.in-Ok-lend.outside c.measure-directory.result.directory c.in-Ok-from_bytes.schema c.in-Err-outcome.error (rw c.in-Err-outcome.is at c.measure-directory.ensures.faults.cause)

pub returns-clause-ends : goal.returns-clause-ends
returns-clause-ends g c =
    let lent = c.in-Ok-lend.ensures in
    let had_schema = c.in-Ok.ensures in
    stopped_measuring (record { folder = c.args.folder.now; path = c.args.path.now; old = g.P.Place.view c.args.place.now; new = g.P.Place.view c.give_back_after.new.place }) c.give_back_after.ensures (λ line reports. record {
      before = c.in-Ok-lend.outside;
      stopped = c.measure-directory.result.directory;
      schema = c.as_slice.result.now;
      form = c.in-Ok-from_bytes.schema;
      lent = λ told. sym (had_schema.frame.folders.folders told c.args.folder.now) ∙ lent.lends.given told;
      schema_is = λ told. had_schema.bytes told ∙ ap Some (sym c.as_slice.ensures.value);
      spelled = c.in-Ok-from_bytes.ensures.ok;
      cause = rw c.in-Err-outcome.is at c.measure-directory.ensures.faults.cause;
      frame = c.measure-directory.ensures.frame;
      images = c.measure-directory.ensures.images;
      reports = reports_since (g.P.Place.view c.args.place.now) (texts_then had_schema.frame.folders.texts lent.frame.texts) (lent.faults.quiet ∙ had_schema.faults.quiet) (lent.frame.said ∙ had_schema.frame.said) lent.lends.lent reports;
    })

pub returns-in-Ok-outcome-clause-ends : goal.returns-in-Ok-outcome-clause-ends
returns-in-Ok-outcome-clause-ends g c =
    let lent = c.in-Ok-lend.ensures in
    let had_schema = c.in-Ok.ensures in
    let back = c.give_back.ensures in
    let says = c.say_text.ensures in
    was_measured (record { folder = c.args.folder.now; path = c.args.path.now; old = g.P.Place.view c.args.place.now; new = g.P.Place.view c.say_text.new.place }) (back.frame.said ∙ lent.frame.said ∙ had_schema.frame.said) (back.faults ∙ lent.faults.quiet ∙ had_schema.faults.quiet) (record {
      before = c.in-Ok-lend.outside;
      now = c.measure-directory.result.directory;
      schema = c.as_slice.result.now;
      form = c.in-Ok-from_bytes.schema;
      lent = λ told. sym (had_schema.frame.folders.folders told c.args.folder.now) ∙ lent.lends.given told;
      given_back = λ told. says.frame.folders told c.args.folder.now ∙ back.takes_back.kept told c.args.folder.now lent.lends.lent;
      schema_is = λ told. had_schema.bytes told ∙ ap Some (sym c.as_slice.ensures.value);
      spelled = c.in-Ok-from_bytes.ensures.ok;
      measured = λ told. rw (c.in-Ok-outcome.is, sym c.as_slice-in-Ok-outcome.ensures.value) at c.measure-directory.ensures.report told;
      quiet = rw c.in-Ok-outcome.is at c.measure-directory.ensures.faults.quiet;
      frame = c.measure-directory.ensures.frame;
      images = c.measure-directory.ensures.images;
      texts = texts_then had_schema.frame.folders.texts (texts_then lent.frame.texts (texts_then back.frame.texts says.frame.texts));
    }) says
