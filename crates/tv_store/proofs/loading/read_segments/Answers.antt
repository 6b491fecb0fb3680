use Rattle.std.proofs.Common.{◌≡◌, ◌<◌, List, ℕ, length, map, subst, ap, ◌∙◌, arith, rules}
use Rattle.std.proofs.lemmas.List.{map_push, take_all}
use Rattle.tv_formats.specs.Files.{Rose}
use Rattle.tv_formats.specs.Segments.{all_required}
use Rattle.tv_formats.specs.declared.segment.LiveSegment.{LiveSegment}
use Rattle.tv_formats.proofs.Results.{handed_on}
use Rattle.tv_device.specs.ViewLaws.{reads_then}
use Rattle.tv_store.specs.Bodies.{AreGood, FailsAt, ReadsSegments}
use Rattle.tv_snapshots.specs.declared.snapshot.SegmentReader.{SegmentReader}
use Rattle.tv_store.proofs.CheckedFiles.{files_then}
use Rattle.tv_store.proofs.LoadedFiles.{held_later}
use Rattle.tv_store.proofs.ReaderEvents.{segments_fail, segments_good, segment_is_sealed, read_more}
use Rattle.tv_managed.specs.TrackLaws.{keeps_then}
use Rattle.tv_store.proofs.loading.read_segments.Goals as goal

pub returns-in_err-reader-clause-faults : goal.returns-in_err-reader-clause-faults
returns-in_err-reader-clause-faults g c =
    let D = g.O.Directory in
    let so_far = c.loop-entry.invariant in
    let within : c.loop-entry.entry-index < length c.args.segments.now = omega arith in
    record {
      quiet = search rules;
      cause =
          handed_on c.from_residual.result c.in_err-reader.field-0.0
          (FailsAt D.told.content (D.view c.args.files.now.outside).reads (all_required c.args.segments.now) (Rose (D.view c.args.files.now.outside).faults (D.view c.read_segment.new.files.outside).faults) ((D.view c.read_segment.new.files.outside).faults ≡ (D.view c.args.files.now.outside).faults))
          c.from_residual.ensures.1
          (segments_fail D.told.content (D.view c.args.files.now.outside).reads (D.view c.loop-entry.files.outside).reads c.args.segments.now c.loop-entry.entry-index c.entry-item.result
          (D.view c.args.files.now.outside).faults (D.view c.loop-entry.files.outside).faults (D.view c.read_segment.new.files.outside).faults c.in_err-reader.field-0.0
          so_far.frame.managed.below.content so_far.quiet within c.entry-item.is so_far.good c.in_err-reader.ensures.faults.cause);
    }

pub loop-entry-preserved : goal.loop-entry-preserved
loop-entry-preserved g c =
    let D = g.O.Directory in
    let so_far = c.loop-entry.invariant in
    let asked = c.in_ok-reader.ensures in
    let items = c.args.segments.now in
    let i = c.loop-entry.entry-index in
    let entry = c.entry-item.result in
    let within : i < length items = omega arith in
    record {
      read = λ tells s held all.
          let now = held_later D c.args.files.now c.loop-entry.files s tells so_far.frame held in
          read_more s items i entry c.in_ok-reader.reader.id c.in_ok-reader.reader.segment c.in_ok-reader.reader.bodies.items
          (map (λ (r : SegmentReader). (r.id, r.segment)) c.loop-entry.readers.items) (map (λ (r : SegmentReader). (r.id, r.segment)) c.push.new.self.items)
          (map (λ (r : SegmentReader). r.bodies.items) c.loop-entry.readers.items) (map (λ (r : SegmentReader). r.bodies.items) c.push.new.self.items)
          within c.entry-item.is (asked.reader tells s now (segment_is_sealed s items i entry within c.entry-item.is all))
          (ap (map (λ (r : SegmentReader). (r.id, r.segment))) c.in_ok-push.ensures.items ∙ map_push (λ (r : SegmentReader). (r.id, r.segment)) c.loop-entry.readers.items c.in_ok-reader.reader)
          (ap (map (λ (r : SegmentReader). r.bodies.items)) c.in_ok-push.ensures.items ∙ map_push (λ (r : SegmentReader). r.bodies.items) c.loop-entry.readers.items c.in_ok-reader.reader)
          (so_far.read tells s held all);
      good = λ tells.
          segments_good (D.view c.args.files.now.outside).reads (D.view c.loop-entry.files.outside).reads items i entry (so_far.frame.managed.below.content tells) within c.entry-item.is (so_far.good tells) (asked.good tells);
      frame = files_then reads_then so_far.frame asked.frame;
      images = λ t. keeps_then (so_far.images t) (asked.images t);
      quiet = asked.faults.quiet ∙ so_far.quiet;
    }

pub returns-clause-good : goal.returns-clause-good
returns-clause-good g c tells =
    subst (λ (es : List (List ℕ × LiveSegment)). AreGood (g.O.Directory.view c.args.files.now.outside).reads (all_required es)) (take_all c.loop-entry.entry-index c.args.segments.now (omega arith)) (c.loop-entry.invariant.good tells)

pub returns-in_err-reader-clause-frame : goal.returns-in_err-reader-clause-frame
returns-in_err-reader-clause-frame g c = files_then reads_then c.loop-entry.invariant.frame c.in_err-reader.ensures.frame

pub returns-in_err-push-clause-frame : goal.returns-in_err-push-clause-frame
returns-in_err-push-clause-frame g c = files_then reads_then c.loop-entry.invariant.frame c.in_ok-reader.ensures.frame

pub returns-clause-readers : goal.returns-clause-readers
returns-clause-readers g c tells s held all =
    subst (λ (es : List (List ℕ × LiveSegment)). ReadsSegments s es (map (λ (r : SegmentReader). (r.id, r.segment)) c.loop-entry.readers.items) (map (λ (r : SegmentReader). r.bodies.items) c.loop-entry.readers.items))
    (take_all c.loop-entry.entry-index c.args.segments.now (omega arith)) (c.loop-entry.invariant.read tells s held all)

pub returns-clause-frame : goal.returns-clause-frame
returns-clause-frame g c = c.loop-entry.invariant.frame

pub returns-in_err-reader-clause-images : goal.returns-in_err-reader-clause-images
returns-in_err-reader-clause-images g c t = keeps_then (c.loop-entry.invariant.images t) (c.in_err-reader.ensures.images t)

pub returns-in_err-push-clause-images : goal.returns-in_err-push-clause-images
returns-in_err-push-clause-images g c t = keeps_then (c.loop-entry.invariant.images t) (c.in_ok-reader.ensures.images t)

pub returns-clause-images : goal.returns-clause-images
returns-clause-images g c t = c.loop-entry.invariant.images t
