use Rattle.std.proofs.Common.{◌≡◌, ◌<◌, length, sym, subst, ◌∙◌, arith, rules}
use Rattle.std.proofs.lemmas.List.{take_all}
use Rattle.tv_formats.specs.Files.{Rose}
use Rattle.tv_formats.proofs.Results.{handed_on}
use Rattle.tv_device.specs.ViewLaws.{reads_then}
use Rattle.tv_store.specs.Bodies.{AreBodies, AreGood, FailsAt}
use Rattle.tv_store.specs.Kept.{kept_of}
use Rattle.tv_store.proofs.CheckedFiles.{files_then}
use Rattle.tv_store.proofs.LoadedFiles.{held_later}
use Rattle.tv_store.proofs.ReaderEvents.{fails_here, bodies_more, good_more}
use Rattle.tv_managed.specs.TrackLaws.{keeps_then}
use Rattle.tv_store.proofs.loading.read_bodies.Goals as goal

pub returns-in_err-body-clause-faults : goal.returns-in_err-body-clause-faults
returns-in_err-body-clause-faults g c =
    let tells = g.O.Directory.told.content in
    let D = g.O.Directory in
    let so_far = c.loop-name.invariant in
    let within : c.loop-name.name-index < length c.args.names.now = omega arith in
    record {
      quiet = search rules;
      cause =
          handed_on c.from_residual.result c.in_err-body.field-0.0
          (FailsAt tells (D.view c.args.files.now.outside).reads c.args.names.now (Rose (D.view c.args.files.now.outside).faults (D.view c.open_read.new.self.outside).faults) ((D.view c.open_read.new.self.outside).faults ≡ (D.view c.args.files.now.outside).faults))
          c.from_residual.ensures.1
          (fails_here tells (D.view c.args.files.now.outside).reads (D.view c.loop-name.files.outside).reads c.args.names.now c.loop-name.name-index c.name-item.result
          (D.view c.args.files.now.outside).faults (D.view c.loop-name.files.outside).faults (D.view c.open_read.new.self.outside).faults c.in_err-body.field-0.0
          so_far.frame.managed.below.content so_far.quiet within c.name-item.is so_far.good c.in_err-body.ensures.faults.cause);
    }

pub loop-name-preserved : goal.loop-name-preserved
loop-name-preserved g c =
    let D = g.O.Directory in
    let so_far = c.loop-name.invariant in
    let asked = c.in_ok-body.ensures in
    record {
      read = λ tells s held sealed.
          let now = held_later D c.args.files.now c.loop-name.files s tells so_far.frame held in
          let within : c.loop-name.name-index < length c.args.names.now = omega arith in
          bodies_more (D.view c.loop-name.files.outside).reads (kept_of s.catalog c.loop-name.files) s c.args.names.now c.loop-name.name-index c.name-item.result c.in_ok-body.body c.loop-name.bodies.items c.push.new.self.items
          within c.name-item.is sealed now (asked.body tells) c.in_ok-push.ensures.items (so_far.read tells s held sealed);
      good = λ tells.
          let within : c.loop-name.name-index < length c.args.names.now = omega arith in
          good_more (D.view c.args.files.now.outside).reads c.args.names.now c.loop-name.name-index c.name-item.result c.in_ok-body.body within c.name-item.is
          (let read = asked.body tells in (read.0, sym (so_far.frame.managed.below.content tells c.name-item.result) ∙ read.1, read.2)) (so_far.good tells);
      frame = files_then reads_then so_far.frame asked.frame;
      images = λ t. keeps_then (so_far.images t) (asked.images t);
      quiet = asked.faults.quiet ∙ so_far.quiet;
    }

pub returns-clause-good : goal.returns-clause-good
returns-clause-good g c tells =
    subst (AreGood (g.O.Directory.view c.args.files.now.outside).reads) (take_all c.loop-name.name-index c.args.names.now (omega arith)) (c.loop-name.invariant.good tells)

pub returns-in_err-body-clause-frame : goal.returns-in_err-body-clause-frame
returns-in_err-body-clause-frame g c = files_then reads_then c.loop-name.invariant.frame c.in_err-body.ensures.frame

pub returns-in_err-push-clause-frame : goal.returns-in_err-push-clause-frame
returns-in_err-push-clause-frame g c = files_then reads_then c.loop-name.invariant.frame c.in_ok-body.ensures.frame

pub returns-clause-bodies : goal.returns-clause-bodies
returns-clause-bodies g c tells s held sealed =
    subst (λ names. AreBodies s names c.loop-name.bodies.items) (take_all c.loop-name.name-index c.args.names.now c.loop-name-test.false) (c.loop-name.invariant.read tells s held sealed)

pub returns-clause-frame : goal.returns-clause-frame
returns-clause-frame g c = c.loop-name.invariant.frame

pub returns-in_err-body-clause-images : goal.returns-in_err-body-clause-images
returns-in_err-body-clause-images g c t = keeps_then (c.loop-name.invariant.images t) (c.in_err-body.ensures.images t)

pub returns-in_err-push-clause-images : goal.returns-in_err-push-clause-images
returns-in_err-push-clause-images g c t = keeps_then (c.loop-name.invariant.images t) (c.in_ok-body.ensures.images t)

pub returns-clause-images : goal.returns-clause-images
returns-clause-images g c t = c.loop-name.invariant.images t
