use Rattle.std.proofs.Common.{refl, sym, ap, subst, ◌∙◌, Ok}
use Rattle.tv_device.specs.View.{Kept}
use Rattle.tv_store.proofs.KeptFiles.{io_fails, kept_managed}
use Rattle.tv_store.proofs.KnownFiles.{beside_there, may_know, sealed_there}
use Rattle.tv_store.proofs.OpenFiles.{still_files, left_files, with_known, there_is, found_open, must_be_open, same_body_is, isnt_open, bodies_left, others_kept, sealed_is, AreFiles}
use Rattle.tv_store.specs.Kept.{names_below}
use Rattle.tv_formats.proofs.Results.{no_ok}
use Rattle.tv_store.proofs.FileStates.{isnt_list_name, sealed_below}
use Rattle.tv_store.proofs.files.StoreFiles.seal.Goals as goal

pub unreachable-requires : goal.unreachable-requires
unreachable-requires g c = must_be_open (λ w. (g.O.Directory.state_of w).written) c.self.inside.files.entries c.args.self.now.open_files c.args.name c.remove.result (ap (λ v. v.open_files) c.self.view_is) c.remove.ensures.value c.in_default.is c.requires.is_open

pub terminate-requires : goal.terminate-requires
terminate-requires g c = (found_open g.O.Directory c.directory_mut.result.now.0 c.self.inside.files.entries c.args.name c.in-Some.file c.in-Some.ensures.value (subst (λ d. AreFiles g.O.Directory d c.self.inside.files.entries c.self.inside.known.keys) (sym c.directory_mut.ensures.value) c.self.invariant).0).opened_is

pub invariant_of-self : goal.invariant_of-self
invariant_of-self g c =
    let D = g.O.Directory in
    let whole = subst (λ d. AreFiles D d c.self.inside.files.entries c.self.inside.known.keys) (sym c.directory_mut.ensures.value) c.self.invariant in
    let file = found_open D c.directory_mut.result.now.0 c.self.inside.files.entries c.args.name c.in-Some.file c.in-Some.ensures.value whole.0 in
    still_files D c.directory_mut.result.now c.terminate.new.self c.remove.new.self.entries c.self.inside.known.keys c.terminate.ensures.frame.below.frame.tells_none.deletes_none (ap (λ n. n.collections) c.terminate.ensures.frame.names)
    (λ tells. beside_there _ _ _ _ refl (c.terminate.ensures.seals.others tells) (c.terminate.ensures.seals.there tells (file.lives_is tells)))
    (left_files D c.directory_mut.result.now c.self.inside.files.entries c.remove.new.self.entries c.self.inside.known.keys _ c.remove.ensures.entries whole)

pub returns-in_err-terminate-clause-open_files : goal.returns-in_err-terminate-clause-open_files
returns-in_err-terminate-clause-open_files g c = bodies_left (λ w. (g.O.Directory.state_of w).written) c.self.inside.files.entries c.remove.new.self.entries c.args.self.now.open_files _ c.remove.ensures.entries (ap (λ v. v.open_files) c.self.view_is)

pub invariant_of-self-2 : goal.invariant_of-self-2
invariant_of-self-2 g c =
    let D = g.O.Directory in
    let whole = subst (λ d. AreFiles D d c.self.inside.files.entries c.self.inside.known.keys) (sym c.directory_mut.ensures.value) c.self.invariant in
    let file = found_open D c.directory_mut.result.now.0 c.self.inside.files.entries c.args.name c.in-Some.file c.in-Some.ensures.value whole.0 in
    let still =
    still_files D c.directory_mut.result.now c.terminate.new.self c.remove.new.self.entries c.self.inside.known.keys c.terminate.ensures.frame.below.frame.tells_none.deletes_none (ap (λ n. n.collections) c.terminate.ensures.frame.names)
    (λ tells. beside_there _ _ _ _ refl (c.terminate.ensures.seals.others tells) (c.terminate.ensures.seals.there tells (file.lives_is tells)))
    (left_files D c.directory_mut.result.now c.self.inside.files.entries c.remove.new.self.entries c.self.inside.known.keys _ c.remove.ensures.entries whole) in
    with_known D c.terminate.new.self c.remove.new.self.entries c.self.inside.known.keys _
    (λ tells. may_know (D.view c.terminate.new.self.0).reads c.self.inside.known.keys _ c.args.name c.insert-added.result c.insert-added.ensures.keys c.insert-added.ensures.err
    (c.requires.file, there_is (D.view c.terminate.new.self.0).reads _ _ file.name_is (sealed_there _ _ _ _ (c.in_ok-terminate.ensures.seals.ok tells (file.lives_is tells) file.summed_is))) (still.2 tells)) still

pub returns-clause-sealed : goal.returns-clause-sealed
returns-clause-sealed g c tells body there =
    let file = found_open g.O.Directory c.directory_mut.result.now.0 c.self.inside.files.entries c.args.name c.in-Some.file c.in-Some.ensures.value (subst (λ d. AreFiles g.O.Directory d c.self.inside.files.entries c.self.inside.known.keys) (sym c.directory_mut.ensures.value) c.self.invariant).0 in
    sealed_is (λ d. (g.O.Directory.view d).reads) c.directory_mut.result.now.0 c.args.self.now.outside c.terminate.new.self.0 (g.O.Directory.state_of c.in-Some.file.writer.writer).name c.args.name (g.O.Directory.state_of c.in-Some.file.writer.writer).written body
    (ap (λ d. d.0) c.directory_mut.ensures.value ∙ ap (λ v. v.outside) c.self.view_is) file.name_is
    (same_body_is (λ w. (g.O.Directory.state_of w).written) c.self.inside.files.entries c.args.self.now.open_files c.args.name c.in-Some.file body (ap (λ v. v.open_files) c.self.view_is) c.in-Some.ensures.value there)
    (c.in_ok-terminate.ensures.seals.ok tells (file.lives_is tells) file.summed_is)

pub returns-clause-open_files : goal.returns-clause-open_files
returns-clause-open_files g c = bodies_left (λ w. (g.O.Directory.state_of w).written) c.self.inside.files.entries c.remove.new.self.entries c.args.self.now.open_files _ c.remove.ensures.entries (ap (λ v. v.open_files) c.self.view_is)

pub returns-in_err-terminate-clause-closed : goal.returns-in_err-terminate-clause-closed
returns-in_err-terminate-clause-closed g c = isnt_open (λ w. (g.O.Directory.state_of w).written) c.remove.new.self.entries _ c.args.name refl (sym c.remove.ensures.updates.1)

pub returns-clause-closed : goal.returns-clause-closed
returns-clause-closed g c = isnt_open (λ w. (g.O.Directory.state_of w).written) c.remove.new.self.entries _ c.args.name refl (sym c.remove.ensures.updates.1)

pub returns-in_err-terminate-clause-others : goal.returns-in_err-terminate-clause-others
returns-in_err-terminate-clause-others g c tells =
    let file = found_open g.O.Directory c.directory_mut.result.now.0 c.self.inside.files.entries c.args.name c.in-Some.file c.in-Some.ensures.value (subst (λ d. AreFiles g.O.Directory d c.self.inside.files.entries c.self.inside.known.keys) (sym c.directory_mut.ensures.value) c.self.invariant).0 in
    others_kept (λ d. (g.O.Directory.view d).reads) c.directory_mut.result.now.0 c.args.self.now.outside c.terminate.new.self.0 (g.O.Directory.state_of c.in-Some.file.writer.writer).name c.args.name (ap (λ d. d.0) c.directory_mut.ensures.value ∙ ap (λ v. v.outside) c.self.view_is) file.name_is
    (c.terminate.ensures.seals.others tells)

pub returns-clause-others : goal.returns-clause-others
returns-clause-others g c tells =
    let file = found_open g.O.Directory c.directory_mut.result.now.0 c.self.inside.files.entries c.args.name c.in-Some.file c.in-Some.ensures.value (subst (λ d. AreFiles g.O.Directory d c.self.inside.files.entries c.self.inside.known.keys) (sym c.directory_mut.ensures.value) c.self.invariant).0 in
    others_kept (λ d. (g.O.Directory.view d).reads) c.directory_mut.result.now.0 c.args.self.now.outside c.terminate.new.self.0 (g.O.Directory.state_of c.in-Some.file.writer.writer).name c.args.name (ap (λ d. d.0) c.directory_mut.ensures.value ∙ ap (λ v. v.outside) c.self.view_is) file.name_is
    (c.terminate.ensures.seals.others tells)

pub returns-in_err-terminate-clause-rest : goal.returns-in_err-terminate-clause-rest
returns-in_err-terminate-clause-rest g c =
    let D = g.O.Directory in
    record {
      faults = io_fails D c.args.self.now.outside c.directory_mut.result.now.0 c.terminate.new.self.0 c.from_residual.result c.in_err-terminate.field-0.0 (ap (λ d. d.0) c.directory_mut.ensures.value ∙ ap (λ v. v.outside) c.self.view_is) c.from_residual.ensures.1 c.in_err-terminate.ensures.faults;
      frame = kept_managed (Kept D.told) D.view _ _ _ _ c.directory_mut.result.now c.terminate.new.self _ c.directory_mut.ensures.value c.self.view_is _ c.terminate.ensures.frame;
    }

pub returns-clause-rest : goal.returns-clause-rest
returns-clause-rest g c =
    let D = g.O.Directory in
    record {
      faults = record { quiet = c.in_ok-terminate.ensures.faults.quiet ∙ ap (λ d. (D.view d.0).faults) c.directory_mut.ensures.value ∙ ap (λ v. (D.view v.outside).faults) c.self.view_is; fits = λ never. never; cause = tt };
      frame = kept_managed (Kept D.told) D.view _ _ _ _ c.directory_mut.result.now c.terminate.new.self _ c.directory_mut.ensures.value c.self.view_is _ c.terminate.ensures.frame;
    }

pub returns-in_err-terminate-clause-safe : goal.returns-in_err-terminate-clause-safe
returns-in_err-terminate-clause-safe g c tells body there =
    let D = g.O.Directory in
    let file = found_open D c.directory_mut.result.now.0 c.self.inside.files.entries c.args.name c.in-Some.file c.in-Some.ensures.value (subst (λ d. AreFiles D d c.self.inside.files.entries c.self.inside.known.keys) (sym c.directory_mut.ensures.value) c.self.invariant).0 in
    let body_is = same_body_is (λ w. (D.state_of w).written) c.self.inside.files.entries c.args.self.now.open_files c.args.name c.in-Some.file body (ap (λ v. v.open_files) c.self.view_is) c.in-Some.ensures.value there in
    sealed_below D (c.directory_mut.ensures.value ∙ ap names_below c.self.view_is) c.in-Some.file.writer _ c.from_residual.result file.name_is (sym body_is) (file.lives_is (g.met.O.Directory.tells_more tells)) file.summed_is (λ P _. no_ok P c.from_residual.result c.from_residual.ensures.0) (c.in_err-terminate.ensures.safe tells (λ is. isnt_list_name c.args.name c.requires.file (sym file.name_is ∙ is)))

pub returns-clause-safe : goal.returns-clause-safe
returns-clause-safe g c tells body there =
    let D = g.O.Directory in
    let file = found_open D c.directory_mut.result.now.0 c.self.inside.files.entries c.args.name c.in-Some.file c.in-Some.ensures.value (subst (λ d. AreFiles D d c.self.inside.files.entries c.self.inside.known.keys) (sym c.directory_mut.ensures.value) c.self.invariant).0 in
    let body_is = same_body_is (λ w. (D.state_of w).written) c.self.inside.files.entries c.args.self.now.open_files c.args.name c.in-Some.file body (ap (λ v. v.open_files) c.self.view_is) c.in-Some.ensures.value there in
    sealed_below D (c.directory_mut.ensures.value ∙ ap names_below c.self.view_is) c.in-Some.file.writer _ (Ok tt) file.name_is (sym body_is) (file.lives_is (g.met.O.Directory.tells_more tells)) file.summed_is (λ P h. h) (c.in_ok-terminate.ensures.safe tells (λ is. isnt_list_name c.args.name c.requires.file (sym file.name_is ∙ is)))
