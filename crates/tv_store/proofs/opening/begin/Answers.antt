use Rattle.std.proofs.Common.{◌≡◌, ℕ, ◌≤◌, ◌++◌, ◌∷◌, [], true, List, Err, sym, subst, ◌∙◌, arith}
use Rattle.std.specs.List.{AllByRecursion}
use Rattle.tv_base.specs.declared.error.TantivyError.TheVariants as errors
use Rattle.tv_device.specs.View.{OnlyReads}
use Rattle.tv_device.specs.ViewLaws.{reads_then}
use Rattle.tv_index.specs.CrashLaws.{looks_kept, looks_then}
use Rattle.tv_formats.specs.Commits.{IsCommit}
use Rattle.tv_formats.specs.Files.{Heard, Rose}
use Rattle.tv_formats.specs.Names.{has}
use Rattle.tv_machine.specs.Index.{IsFileOf}
use Rattle.tv_machine.specs.Lines.{opening_of}
use Rattle.tv_machine.specs.State.{Catalog}
use Rattle.tv_store.specs.Making.{ChecksFiles}
use Rattle.tv_store.specs.Stays.{KeepsFiles}
use Rattle.tv_store.specs.Telling.{TellsFirstPart, TellsLine, TellsNoLine}
use Rattle.tv_store.proofs.CheckedFiles.{files_then, line_is, required_is, room_reads, tells_behind, unasked, unbegun}
use Rattle.tv_catalog.proofs.SharedLaws.{all_required_are_files}
use Rattle.tv_store.proofs.opening.begin.Goals as goal

pub check_files-requires : goal.check_files-requires
check_files-requires g c =
    subst (AllByRecursion IsFileOf) (sym c.opening.invariant.reads) (all_required_are_files c.opening.inside.catalog.commit.segments (subst (λ (k : Catalog). IsCommit k.commit) (sym c.opening.view_is) c.requires).segments)

pub returns-in_err-check_files-clause-opens : goal.returns-in_err-check_files-clause-opens
returns-in_err-check_files-clause-opens g c =
    let D = g.O.Directory in
    let error = c.in_err-check_files.field-0.0 in
    let checked = subst (λ ns. ChecksFiles D c.args.files.now c.check_files.new.files ns (Err error)) (required_is c.opening.inside.required.items c.opening.inside.line c.opening.invariant c.opening.view_is) c.in_err-check_files.ensures in
    unasked D c.args.files.now c.check_files.new.files c.from_residual.result error c.from_residual.ensures.1 checked.file checked.lock checked.looks c.args.opening.commit checked.cause checked.frame

pub returns-in_err-ready-clause-opens : goal.returns-in_err-ready-clause-opens
returns-in_err-ready-clause-opens g c =
    let D = g.O.Directory in
    let checked = c.in_ok-check_files.ensures in
    let ready = c.in_err-ready.ensures in
    unasked D c.args.files.now c.ready.new.self c.from_residual-in_err-ready.result errors.Memory c.from_residual-in_err-ready.ensures.1 tt tt
    (λ t. looks_then D (checked.looks t) (looks_kept D (ready.images t))) c.args.opening.commit (ready.room.managed.below.faults ∙ checked.quiet)
    (files_then reads_then checked.frame (room_reads ready.room))

pub returns-in_err-tell-clause-opens : goal.returns-in_err-tell-clause-opens
returns-in_err-tell-clause-opens g c =
    let D = g.O.Directory in
    let before = D.view c.args.files.now.outside in
    let after = D.view c.tell.new.self.outside in
    let checked = c.in_ok-check_files.ensures in
    let ready = c.in_ok-ready.ensures in
    let told = c.in_err-tell.ensures in
    let read : KeepsFiles (OnlyReads D.told) D.view c.args.files.now c.ready.new.self = files_then reads_then checked.frame (room_reads ready.room) in
    let heard : (D.view c.ready.new.self.outside).heard ≡ before.heard = read.managed.below.kept.frame.tells_none.heard in
    unbegun D c.args.files.now c.tell.new.self c.from_residual-in_err-tell.result (errors.IoError c.in_err-tell.field-0.0) c.from_residual-in_err-tell.ensures.1 tt tt
    (λ t. looks_then D (looks_then D (checked.looks t) (looks_kept D (ready.images t))) (looks_kept D (told.images t))) c.args.opening.commit
    (told.faults.cause.0, subst (λ (n : ℕ). Rose n after.faults) (ready.room.managed.below.faults ∙ checked.quiet) told.faults.cause.1)
    (λ t. subst (λ (h : Heard). TellsNoLine h after.heard) heard (told.tells.err t))
    (λ t. subst (λ (h : Heard). TellsFirstPart h after.heard (opening_of c.args.opening.commit)) heard (subst (TellsFirstPart (D.view c.ready.new.self.outside).heard after.heard) (line_is c.opening.inside.required.items c.opening.inside.line c.opening.invariant c.opening.view_is) (told.tells.part t)))
    (files_then tells_behind read told.frame)

pub returns-clause-opens : goal.returns-clause-opens
returns-clause-opens g c =
    let D = g.O.Directory in
    let before = D.view c.args.files.now.outside in
    let mid = D.view c.ready.new.self.outside in
    let after = D.view c.tell.new.self.outside in
    let names = required_is c.opening.inside.required.items c.opening.inside.line c.opening.invariant c.opening.view_is in
    let checked = c.in_ok-check_files.ensures in
    let ready = c.in_ok-ready.ensures in
    let told = c.in_ok-tell.ensures in
    let read : KeepsFiles (OnlyReads D.told) D.view c.args.files.now c.ready.new.self = files_then reads_then checked.frame (room_reads ready.room) in
    let heard : mid.heard ≡ before.heard = read.managed.below.kept.frame.tells_none.heard in
    let clock : before.moment ≤ mid.moment = read.managed.below.kept.frame.tells_none.deletes_none.goes_on.clock in
    record {
      good = λ t n required. checked.good t n (subst (λ (ns : List (List ℕ)). has ns n ≡ true) (sym names) required);
      told = λ t.
          let line = subst (TellsLine mid.heard after.heard mid.moment after.moment) (line_is c.opening.inside.required.items c.opening.inside.line c.opening.invariant c.opening.view_is) (told.tells.ok t) in
          record { moment = line.moment; later = omega (arith, clock, line.later); sooner = line.sooner; heard = subst (λ (h : Heard). after.heard ≡ h ++ (line.moment, opening_of c.args.opening.commit ++ 10 ∷ []) ∷ []) heard line.heard };
      untold = λ t. tt;
      part = λ t. tt;
      quiet = told.faults.quiet ∙ ready.room.managed.below.faults ∙ checked.quiet;
      cause = tt;
      file = tt;
      lock = tt;
      frame = files_then tells_behind read told.frame;
      looks = λ t. looks_then D (looks_then D (checked.looks t) (looks_kept D (ready.images t))) (looks_kept D (told.images t));
    }
