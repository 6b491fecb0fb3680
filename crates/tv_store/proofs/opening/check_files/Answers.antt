use Rattle.std.proofs.Common.{◌≡◌, sym, ap, subst, ◌∙◌}
use Rattle.std.specs.List.{AllByRecursion}
use Rattle.tv_device.specs.View.{OnlyReads}
use Rattle.tv_device.specs.ViewLaws.{reads_then}
use Rattle.tv_index.specs.Crashes.{OnlyLooks}
use Rattle.tv_index.specs.CrashLaws.{looks_kept, looks_then}
use Rattle.tv_machine.specs.Index.{IsFileOf}
use Rattle.tv_store.specs.Stays.{KeepsFiles}
use Rattle.tv_store.proofs.CheckedFiles.{files_then, reads_more, unchecked, unread_next}
use Rattle.tv_store.proofs.opening.check_files.Goals as goal

pub returns-in_err-_body : goal.returns-in_err-_body
returns-in_err-_body g c =
    let D = g.O.Directory in
    let so_far = c.loop-name.invariant in
    let failed = c.in_err-_body.ensures in
    unchecked D c.args.files.now c.open_read.new.self c.from_residual.result c.in_err-_body.field-0.0 c.from_residual.ensures.1 failed.faults.file failed.faults.lock
    (λ t. looks_then D (so_far.looks t) (looks_kept D (failed.images t))) c.args.names.items
    (unread_next D.told.content (D.view c.args.files.now.outside).reads (D.view c.loop-name.files.outside).reads c.args.names.items _ _ c.in-Some.name
    (D.view c.args.files.now.outside).faults (D.view c.loop-name.files.outside).faults (D.view c.open_read.new.self.outside).faults c.in_err-_body.field-0.0
    so_far.frame.managed.below.content so_far.quiet c.in-Some.ensures.steps.0 so_far.so_far failed.faults.cause)
    (files_then reads_then so_far.frame failed.frame)

pub loop-name-preserved-in_ok-_body : goal.loop-name-preserved-in_ok-_body
loop-name-preserved-in_ok-_body g c =
    let D = g.O.Directory in
    let so_far = c.loop-name.invariant in
    let asked = c.in_ok-_body.ensures in
    let same : c.remember.new.self ≡ c.open_read.new.self = c.remember.ensures in
    record {
      next = tt;
      finite = tt;
      so_far =
          reads_more D.told.content (D.view c.args.files.now.outside).reads c.args.names.items _ _ c.in-Some.name c.in-Some.ensures.steps.0
          (λ t. let read = asked.body t in (read.0, sym (so_far.frame.managed.below.content t c.in-Some.name) ∙ read.1, record { body = c.in_ok-_body._body; has_body = read.2 })) so_far.so_far;
      each = (subst (AllByRecursion IsFileOf) c.in-Some.ensures.steps.0 so_far.each).1;
      frame = subst (λ f. KeepsFiles (OnlyReads D.told) D.view c.args.files.now f) (sym same) (files_then reads_then so_far.frame asked.frame);
      quiet = ap (λ f. (D.view f.outside).faults) same ∙ asked.faults.quiet ∙ so_far.quiet;
      looks = λ t. subst (λ f. OnlyLooks D c.args.files.now.outside f.outside) (sym same) (looks_then D (so_far.looks t) (looks_kept D (asked.images t)));
    }

pub loop-name-preserved : goal.loop-name-preserved
loop-name-preserved g c =
    let D = g.O.Directory in
    let so_far = c.loop-name.invariant in
    let asked = c.in_ok-_body.ensures in
    let same : c.remember.new.self ≡ c.open_read.new.self = c.remember.ensures in
    record {
      next = tt;
      finite = tt;
      so_far =
          reads_more D.told.content (D.view c.args.files.now.outside).reads c.args.names.items _ _ c.in-Some.name c.in-Some.ensures.steps.0
          (λ t. let read = asked.body t in (read.0, sym (so_far.frame.managed.below.content t c.in-Some.name) ∙ read.1, record { body = c.in_ok-_body._body; has_body = read.2 })) so_far.so_far;
      each = (subst (AllByRecursion IsFileOf) c.in-Some.ensures.steps.0 so_far.each).1;
      frame = subst (λ f. KeepsFiles (OnlyReads D.told) D.view c.args.files.now f) (sym same) (files_then reads_then so_far.frame asked.frame);
      quiet = ap (λ f. (D.view f.outside).faults) same ∙ asked.faults.quiet ∙ so_far.quiet;
      looks = λ t. subst (λ f. OnlyLooks D c.args.files.now.outside f.outside) (sym same) (looks_then D (so_far.looks t) (looks_kept D (asked.images t)));
    }
