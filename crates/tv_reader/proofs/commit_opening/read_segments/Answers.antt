use Rattle.std.proofs.Common.{◌<◌, ◌+◌, ◌∙◌, map, drop, length, arith}
use Rattle.std.specs.List.{flat_map}
use Rattle.tv_formats.specs.Segments.{all_required, required_names}
use Rattle.tv_managed.specs.TrackLaws.{keeps_then}
use Rattle.tv_metas.specs.Segments.{entry_of}
use Rattle.tv_reader.proofs.Bodies.{index_then, unread_faults}
use Rattle.tv_reader.proofs.CommitBodies.{all_read, entries_more, required_split, segment_more}
use Rattle.tv_reader.specs.ReadLaws.{cause_back}
use Rattle.tv_reader.specs.Bodies.{shown_entry}
use Rattle.tv_reader.proofs.commit_opening.read_segments.Goals as goal

pub returns-in_err-reader-clause-faults : goal.returns-in_err-reader-clause-faults
returns-in_err-reader-clause-faults g c =
    let D = g.D.Directory in
    let segments = c.args.segments.now in
    let so_far = c.loop-segment.invariant in
    let at = c.loop-segment.segment-index in
    let done = c.loop-segment.readers.items in
    let x = c.segment-item.result in
    let within : c.loop-segment.segment-index < length c.args.segments.now = omega arith in
    let why = c.in_err-reader.field-0.0 in
    unread_faults D c.args.index.now.directory.0 c.open_files.new.index.directory.0 (all_required (map entry_of segments)) c.from_residual.result why c.from_residual.ensures.1
    (cause_back D c.args.index.now.directory.0 c.loop-segment.index.directory.0 c.open_files.new.index.directory.0 so_far.frame.form.directory.below so_far.quiet
    (all_required (map shown_entry done)) (required_names x.segment_id c.live.result) (all_required (map entry_of (drop (at + 1) segments))) (all_required (map entry_of segments))
    (required_split segments at x c.live.result done within c.segment-item.is c.live.ensures so_far.segments)
    (λ t. (flat_map (λ s. s.bodies) done, all_read (D.view c.args.index.now.directory.0).reads done (so_far.bodies t)))
    why c.in_err-reader.ensures.faults.cause)

pub returns-in_err-reader-clause-frame : goal.returns-in_err-reader-clause-frame
returns-in_err-reader-clause-frame g c = index_then c.loop-segment.invariant.frame c.in_err-reader.ensures.frame

pub returns-in_err-reader-clause-images : goal.returns-in_err-reader-clause-images
returns-in_err-reader-clause-images g c t = keeps_then (c.loop-segment.invariant.images t) (c.in_err-reader.ensures.images t)

pub returns-in_err-push-clause-images : goal.returns-in_err-push-clause-images
returns-in_err-push-clause-images g c t = keeps_then (c.loop-segment.invariant.images t) (c.in_ok-reader.ensures.images t)

pub loop-segment-preserved : goal.loop-segment-preserved
loop-segment-preserved g c =
    let D = g.D.Directory in
    let so_far = c.loop-segment.invariant in
    let asked = c.in_ok-reader.ensures in
    let x = c.segment-item.result in
    let within : c.loop-segment.segment-index < length c.args.segments.now = omega arith in
    record {
      segments =
          entries_more c.args.segments.now c.loop-segment.segment-index x c.live.result c.loop-segment.readers.items c.push.new.self.items c.in_ok-reader.reader within c.segment-item.is c.live.ensures
          asked.segment.0 asked.segment.1 c.in_ok-push.ensures.items so_far.segments;
      bodies = λ t.
          segment_more (D.view c.args.index.now.directory.0).reads (D.view c.loop-segment.index.directory.0).reads c.loop-segment.readers.items c.push.new.self.items c.in_ok-reader.reader x.segment_id c.live.result
          (so_far.frame.form.directory.below.content t) asked.segment.0 asked.segment.1 c.in_ok-push.ensures.items (asked.bodies t) (so_far.bodies t);
      frame = index_then so_far.frame asked.frame;
      images = λ t. keeps_then (so_far.images t) (asked.images t);
      quiet = asked.faults.quiet ∙ so_far.quiet;
    }
