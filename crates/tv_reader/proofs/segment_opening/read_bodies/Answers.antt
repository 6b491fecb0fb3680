use Rattle.std.proofs.Common.{◌<◌, ◌∙◌, map, length, arith, rules}
use Rattle.tv_base.specs.Errors.{of_open_read}
use Rattle.tv_formats.specs.declared.segment.SegmentComponent.TheVariants.{Postings}
use Rattle.tv_managed.specs.TrackLaws.{keeps_then}
use Rattle.tv_formats.specs.Segments.{name_of}
use Rattle.tv_reader.proofs.Bodies.{bodies_more, index_then, unread_cause, unread_faults}
use Rattle.tv_reader.proofs.segment_opening.read_bodies.Goals as goal

pub returns-in_err-body-clause-faults : goal.returns-in_err-body-clause-faults
returns-in_err-body-clause-faults g c =
    let D = g.D.Directory in
    let f = name_of c.args.id c.args.live.deletes in
    let so_far = c.loop-component.invariant in
    let within : c.loop-component.component-index < length c.args.components.now = omega arith in
    let why = c.in_err-body.field-0.0 in
    unread_faults D c.args.index.now.directory.0 c.open_body.new.index.directory.0 (map f c.args.components.now) c.from_residual.result (of_open_read why) c.from_residual.ensures.1
    (unread_cause D c.args.index.now.directory.0 c.loop-component.index.directory.0 c.open_body.new.index.directory.0 f c.args.components.now c.loop-component.component-index Postings c.loop-component.bodies.items
    so_far.frame.form.directory.below so_far.quiet within so_far.bodies why c.in_err-body.ensures.faults)

pub returns-in_err-body-clause-images : goal.returns-in_err-body-clause-images
returns-in_err-body-clause-images g c t = keeps_then (c.loop-component.invariant.images t) (c.in_err-body.ensures.images t)

pub returns-in_err-push-clause-images : goal.returns-in_err-push-clause-images
returns-in_err-push-clause-images g c t = keeps_then (c.loop-component.invariant.images t) (c.in_ok-body.ensures.images t)

pub loop-component-preserved : goal.loop-component-preserved
loop-component-preserved g c =
    let D = g.D.Directory in
    let f = name_of c.args.id c.args.live.deletes in
    let so_far = c.loop-component.invariant in
    let asked = c.in_ok-body.ensures in
    let within : c.loop-component.component-index < length c.args.components.now = omega arith in
    record {
      each = search rules;
      bodies = λ t.
          bodies_more (D.view c.args.index.now.directory.0).reads (D.view c.loop-component.index.directory.0).reads f c.args.components.now c.loop-component.component-index Postings c.loop-component.bodies.items c.push.new.self.items c.in_ok-body.body
          (so_far.frame.form.directory.below.content t) within c.in_ok-push.ensures.items (asked.body t) (so_far.bodies t);
      frame = index_then so_far.frame asked.frame;
      images = λ t. keeps_then (so_far.images t) (asked.images t);
      quiet = asked.faults.quiet ∙ so_far.quiet;
    }
