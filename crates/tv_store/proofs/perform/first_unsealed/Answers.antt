use Rattle.std.proofs.Common.{◌≡◌, [], ap, sym, subst, ◌∙◌, arith}
use Rattle.std.proofs.lemmas.List.{nil_from_length}
use Rattle.std.specs.List.{AllByRecursion}
use Rattle.std.specs.Vec.Iter.{into_iter_items}
use Rattle.tv_device.specs.View.{OnlyReads}
use Rattle.tv_device.specs.ViewLaws.{reads_then}
use Rattle.tv_machine.specs.Index.{IsFileOf}
use Rattle.tv_store.proofs.CheckedFiles.{files_then}
use Rattle.tv_store.proofs.KeptFiles.{fails_after}
use Rattle.tv_store.proofs.Saved.{has_behind, has_first, open_first, sealed_first, sealed_so}
use Rattle.tv_catalog.specs.Actions.{first_open}
use Rattle.tv_store.specs.Stays.{KeepsFiles}
use Rattle.tv_device.specs.Images.{KeepsDisk}
use Rattle.tv_managed.specs.TrackLaws.{keeps_then}
use Rattle.tv_store.proofs.perform.first_unsealed.Goals as goal

pub loop-name-preserved : goal.loop-name-preserved
loop-name-preserved g c =
    let so_far = c.loop-name.invariant in
    let names = into_iter_items c.loop-name.name-iterator in
    let rest = into_iter_items c.next.new.self in
    let name = c.in-Some.name in
    let first = c.in-Some.ensures.steps.0 in
    let asked = c.in_ok-is_sealed.ensures in
    record {
      next = tt;
      finite = tt;
      found = λ tells s h files.
          let each = subst (AllByRecursion IsFileOf) first (so_far.each files) in
          sealed_first s name names rest first
          (sym (sealed_so g.O.Directory c.args.files.now c.loop-name.files so_far.frame s tells h name _ each.0 (asked.answer tells)) ∙ c.if-not-branch.false)
          ∙ so_far.found tells s h files;
      each = λ files. (subst (AllByRecursion IsFileOf) first (so_far.each files)).1;
      among = λ n there. so_far.among n (has_behind name n names rest first there);
      frame = subst (λ f. KeepsFiles (OnlyReads g.O.Directory.told) g.O.Directory.view c.args.files.now f) (sym c.remember.ensures) (files_then reads_then so_far.frame asked.frame);
      images = λ t. subst (λ f. KeepsDisk (g.O.Directory.disk c.args.files.now.outside) (g.O.Directory.disk f.outside)) (sym c.remember.ensures) (keeps_then (so_far.images t) (asked.images t));
      quiet = ap (λ f. (g.O.Directory.view f.outside).faults) c.remember.ensures ∙ asked.faults.quiet ∙ so_far.quiet;
    }

pub returns-then-not-branch-clause-found : goal.returns-then-not-branch-clause-found
returns-then-not-branch-clause-found g c tells s h files =
    let so_far = c.loop-name.invariant in
    let name = c.in-Some.name in
    let first = c.in-Some.ensures.steps.0 in
    let each = subst (AllByRecursion IsFileOf) first (so_far.each files) in
    open_first s name (into_iter_items c.loop-name.name-iterator) (into_iter_items c.next.new.self) first
    (sym (sealed_so g.O.Directory c.args.files.now c.loop-name.files so_far.frame s tells h name _ each.0 (c.in_ok-is_sealed.ensures.answer tells)) ∙ c.if-not-branch.true)
    ∙ so_far.found tells s h files

pub returns-then-not-branch-clause-among : goal.returns-then-not-branch-clause-among
returns-then-not-branch-clause-among g c =
    c.loop-name.invariant.among c.in-Some.name
    (has_first c.in-Some.name (into_iter_items c.loop-name.name-iterator) (into_iter_items c.next.new.self) c.in-Some.ensures.steps.0)

pub returns-then-not-branch-clause-faults : goal.returns-then-not-branch-clause-faults
returns-then-not-branch-clause-faults g c =
    record { quiet = c.in_ok-is_sealed.ensures.faults.quiet ∙ c.loop-name.invariant.quiet; fits = λ never. never; cause = tt }

pub returns-then-not-branch-clause-frame : goal.returns-then-not-branch-clause-frame
returns-then-not-branch-clause-frame g c = files_then reads_then c.loop-name.invariant.frame c.is_sealed.ensures.frame

pub returns-in_err-is_sealed-clause-faults : goal.returns-in_err-is_sealed-clause-faults
returns-in_err-is_sealed-clause-faults g c =
    fails_after g.O.Directory c.args.files.now.outside c.loop-name.files.outside c.is_sealed.new.self.outside c.from_residual.result c.in_err-is_sealed.field-0.0 c.from_residual.ensures.1
    c.loop-name.invariant.quiet c.in_err-is_sealed.ensures.faults.cause

pub returns-in_err-is_sealed-clause-frame : goal.returns-in_err-is_sealed-clause-frame
returns-in_err-is_sealed-clause-frame g c = files_then reads_then c.loop-name.invariant.frame c.is_sealed.ensures.frame

pub returns-clause-found : goal.returns-clause-found
returns-clause-found g c tells s h files =
    let none : into_iter_items c.loop-name.name-iterator ≡ [] = nil_from_length (into_iter_items c.loop-name.name-iterator) (omega (arith, c.in-None.ensures.steps.0)) in
    sym (ap (first_open s) none) ∙ c.loop-name.invariant.found tells s h files

pub returns-clause-faults : goal.returns-clause-faults
returns-clause-faults g c = record { quiet = c.loop-name.invariant.quiet; fits = λ never. never; cause = tt }

pub returns-clause-frame : goal.returns-clause-frame
returns-clause-frame g c = c.loop-name.invariant.frame

pub returns-then-not-branch-clause-images : goal.returns-then-not-branch-clause-images
returns-then-not-branch-clause-images g c t = keeps_then (c.loop-name.invariant.images t) (c.in_ok-is_sealed.ensures.images t)

pub returns-in_err-is_sealed-clause-images : goal.returns-in_err-is_sealed-clause-images
returns-in_err-is_sealed-clause-images g c t = keeps_then (c.loop-name.invariant.images t) (c.in_err-is_sealed.ensures.images t)

pub returns-clause-images : goal.returns-clause-images
returns-clause-images g c t = c.loop-name.invariant.images t
