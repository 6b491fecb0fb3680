use Rattle.std.proofs.Common.{ap, [], refl, ◌∙◌}
use Rattle.tv_formats.proofs.Results.{on_err}
use Rattle.tv_device.specs.View.{Kept, WriterState}
use Rattle.tv_managed.specs.Writers.{IsNewManaged}
use Rattle.tv_store.specs.Kept.{names_below}
use Rattle.tv_store.proofs.KeptFiles.{kept_made, wants_then}
use Rattle.tv_store.proofs.NewFiles.{failed_then, found_faults, found_so, made_so, made_then, opened_so, others_then, quiet_then, was_made}
use Rattle.tv_store.proofs.KnownFiles.{created_there}
use Rattle.tv_store.proofs.Removals.{one_forgotten}
use Rattle.tv_store.proofs.OpenFiles.{still_files, put_files, same_files, kept_collections, new_open, bodies, bodies_put}
use Rattle.tv_store.proofs.FileStates.{opened_below}
use Rattle.tv_store.proofs.files.StoreFiles.open.Goals as goal

pub invariant_of-self : goal.invariant_of-self
invariant_of-self g c = still_files g.O.Directory c.directory_mut.result.now c.open_write-opened.new.self c.self.inside.files.entries c.remove-known.new.self.keys c.open_write-opened.ensures.frame.frame.tells_none.deletes_none (kept_collections g.O.Directory c.directory_mut.result.now c.open_write-opened.new.self c.as_str.result.now _ c.open_write-opened.ensures.manages) (created_there g.O.Directory c.directory_mut.result.now c.open_write-opened.new.self _ _ c.open_write-opened.ensures.creates) (one_forgotten g.O.Directory c.self.inside.index.directory c.directory_mut.result.now c.self.inside.files.entries c.self.inside.known.keys c.remove-known.new.self.keys c.args.name c.directory_mut.ensures.value c.remove-known.ensures.updates.0 c.self.invariant)

pub invariant_of-self-in_default : goal.invariant_of-self-in_default
invariant_of-self-in_default g c = still_files g.O.Directory c.directory_mut.result.now c.open_write-opened.new.self c.self.inside.files.entries c.remove-known.new.self.keys c.open_write-opened.ensures.frame.frame.tells_none.deletes_none (kept_collections g.O.Directory c.directory_mut.result.now c.open_write-opened.new.self c.as_str.result.now _ c.open_write-opened.ensures.manages) (created_there g.O.Directory c.directory_mut.result.now c.open_write-opened.new.self _ _ c.open_write-opened.ensures.creates) (one_forgotten g.O.Directory c.self.inside.index.directory c.directory_mut.result.now c.self.inside.files.entries c.self.inside.known.keys c.remove-known.new.self.keys c.args.name c.directory_mut.ensures.value c.remove-known.ensures.updates.0 c.self.invariant)

pub returns-in_err-writer-clause-others : goal.returns-in_err-writer-clause-others
returns-in_err-writer-clause-others g c = others_then g.O.Directory c.directory_mut.result.now c.open_write-opened.new.self c.args.self.now (c.directory_mut.ensures.value ∙ ap names_below c.self.view_is) c.as_str.result.now c.args.name c.as_str.ensures.text c.open_write-opened.ensures.creates.others

pub returns-in_err-writer-clause-kept : goal.returns-in_err-writer-clause-kept
returns-in_err-writer-clause-kept g c = on_err c.from_residual.result (ap (λ v. v.open_files) c.self.view_is)

pub returns-in_err-writer-clause-faults : goal.returns-in_err-writer-clause-faults
returns-in_err-writer-clause-faults g c =
    failed_then g.O.Directory c.directory_mut.result.now c.open_write-opened.new.self c.args.self.now (c.directory_mut.ensures.value ∙ ap names_below c.self.view_is) c.as_str.result.now c.args.name c.as_str.ensures.text
    c.from_residual.result c.open_write-opened.result c.in_err-writer.field-0.0 c.from_residual.ensures.1 c.in_err-writer.ensures c.open_write-opened.ensures.faults

pub returns-in_err-writer-clause-frame : goal.returns-in_err-writer-clause-frame
returns-in_err-writer-clause-frame g c =
    kept_made (Kept g.O.Directory.told) g.O.Directory.view _ _ _ _ c.directory_mut.result.now c.open_write-opened.new.self _ c.directory_mut.ensures.value c.self.view_is _
    (kept_collections g.O.Directory c.directory_mut.result.now c.open_write-opened.new.self c.as_str.result.now _ c.open_write-opened.ensures.manages) c.open_write-opened.ensures.frame

pub returns-in_default-clause-found : goal.returns-in_default-clause-found
returns-in_default-clause-found g c none =
    found_so g.O.Directory c.directory_mut.result.now c.open_write-opened.new.self c.args.self.now (c.directory_mut.ensures.value ∙ ap names_below c.self.view_is) c.as_str.result.now c.args.name c.as_str.ensures.text
    c.open_write-opened.result _ c.in_ok-writer.ensures c.in_default.is c.open_write-opened.ensures.faults _ refl (ap (λ v. v.open_files) c.self.view_is) (ap (λ v. v.left) c.self.view_is) c.open_write-opened.ensures.creates

pub returns-in_default-clause-others : goal.returns-in_default-clause-others
returns-in_default-clause-others g c = others_then g.O.Directory c.directory_mut.result.now c.open_write-opened.new.self c.args.self.now (c.directory_mut.ensures.value ∙ ap names_below c.self.view_is) c.as_str.result.now c.args.name c.as_str.ensures.text c.open_write-opened.ensures.creates.others

pub returns-in_default-clause-faults : goal.returns-in_default-clause-faults
returns-in_default-clause-faults g c =
    found_faults g.O.Directory c.directory_mut.result.now c.open_write-opened.new.self c.args.self.now (c.directory_mut.ensures.value ∙ ap names_below c.self.view_is) c.as_str.result.now c.args.name c.as_str.ensures.text
    c.open_write-opened.result _ c.in_ok-writer.ensures c.in_default.is c.open_write-opened.ensures.faults _

pub returns-in_default-clause-frame : goal.returns-in_default-clause-frame
returns-in_default-clause-frame g c =
    kept_made (Kept g.O.Directory.told) g.O.Directory.view _ _ _ _ c.directory_mut.result.now c.open_write-opened.new.self _ c.directory_mut.ensures.value c.self.view_is _
    (kept_collections g.O.Directory c.directory_mut.result.now c.open_write-opened.new.self c.as_str.result.now _ c.open_write-opened.ensures.manages) c.open_write-opened.ensures.frame

pub invariant_of-self-in_err-insert : goal.invariant_of-self-in_err-insert
invariant_of-self-in_err-insert g c = same_files g.O.Directory c.open_write-opened.new.self c.self.inside.files.entries c.insert.new.self.entries c.remove-known.new.self.keys c.in_err-insert.ensures.err (still_files g.O.Directory c.directory_mut.result.now c.open_write-opened.new.self c.self.inside.files.entries c.remove-known.new.self.keys c.open_write-opened.ensures.frame.frame.tells_none.deletes_none (kept_collections g.O.Directory c.directory_mut.result.now c.open_write-opened.new.self c.as_str.result.now _ c.open_write-opened.ensures.manages) (created_there g.O.Directory c.directory_mut.result.now c.open_write-opened.new.self _ _ c.open_write-opened.ensures.creates) (one_forgotten g.O.Directory c.self.inside.index.directory c.directory_mut.result.now c.self.inside.files.entries c.self.inside.known.keys c.remove-known.new.self.keys c.args.name c.directory_mut.ensures.value c.remove-known.ensures.updates.0 c.self.invariant))

pub returns-in_err-insert-clause-others : goal.returns-in_err-insert-clause-others
returns-in_err-insert-clause-others g c = others_then g.O.Directory c.directory_mut.result.now c.open_write-opened.new.self c.args.self.now (c.directory_mut.ensures.value ∙ ap names_below c.self.view_is) c.as_str.result.now c.args.name c.as_str.ensures.text c.open_write-opened.ensures.creates.others

pub returns-in_err-insert-clause-kept : goal.returns-in_err-insert-clause-kept
returns-in_err-insert-clause-kept g c = on_err c.from_residual-in_err-insert.result (ap (λ es. bodies (λ w. (g.O.Directory.state_of w).written) es) c.in_err-insert.ensures.err ∙ ap (λ v. v.open_files) c.self.view_is)

pub returns-in_err-insert-clause-faults : goal.returns-in_err-insert-clause-faults
returns-in_err-insert-clause-faults g c =
    wants_then g.O.Directory c.args.self.now.outside c.directory_mut.result.now.0 c.open_write-opened.new.self.0 c.from_residual-in_err-insert.result (ap (λ d. d.0) c.directory_mut.ensures.value ∙ ap (λ v. v.outside) c.self.view_is) c.from_residual-in_err-insert.ensures.1
    (made_then c.open_write-opened.result c.in-Some.writer _ (was_made c.open_write-opened.result _ c.in-Some.writer c.in_ok-writer.ensures c.in-Some.is) c.open_write-opened.ensures.faults.quiet)

pub returns-in_err-insert-clause-frame : goal.returns-in_err-insert-clause-frame
returns-in_err-insert-clause-frame g c =
    kept_made (Kept g.O.Directory.told) g.O.Directory.view _ _ _ _ c.directory_mut.result.now c.open_write-opened.new.self _ c.directory_mut.ensures.value c.self.view_is _
    (kept_collections g.O.Directory c.directory_mut.result.now c.open_write-opened.new.self c.as_str.result.now _ c.open_write-opened.ensures.manages) c.open_write-opened.ensures.frame

pub invariant_of-self-2 : goal.invariant_of-self-2
invariant_of-self-2 g c =
    let made = was_made c.open_write-opened.result _ c.in-Some.writer c.in_ok-writer.ensures c.in-Some.is in
    put_files g.O.Directory c.open_write-opened.new.self c.self.inside.files.entries c.insert.new.self.entries c.remove-known.new.self.keys c.args.name _ c.in_ok-insert.ensures.entries
    (new_open g.O.Directory c.open_write-opened.new.self.0 c.as_str.result.now c.args.name c.in-Some.writer c.as_str.ensures.text (made_so c.open_write-opened.result c.in-Some.writer (IsNewManaged g.O.Directory c.open_write-opened.new.self.0 c.as_str.result.now) made c.open_write-opened.ensures.writer))
    (still_files g.O.Directory c.directory_mut.result.now c.open_write-opened.new.self c.self.inside.files.entries c.remove-known.new.self.keys c.open_write-opened.ensures.frame.frame.tells_none.deletes_none (kept_collections g.O.Directory c.directory_mut.result.now c.open_write-opened.new.self c.as_str.result.now _ c.open_write-opened.ensures.manages) (created_there g.O.Directory c.directory_mut.result.now c.open_write-opened.new.self _ _ c.open_write-opened.ensures.creates) (one_forgotten g.O.Directory c.self.inside.index.directory c.directory_mut.result.now c.self.inside.files.entries c.self.inside.known.keys c.remove-known.new.self.keys c.args.name c.directory_mut.ensures.value c.remove-known.ensures.updates.0 c.self.invariant))

pub returns-clause-opened : goal.returns-clause-opened
returns-clause-opened g c is_made =
    let made = was_made c.open_write-opened.result _ c.in-Some.writer c.in_ok-writer.ensures c.in-Some.is in
    let writer = made_so c.open_write-opened.result c.in-Some.writer (IsNewManaged g.O.Directory c.open_write-opened.new.self.0 c.as_str.result.now) made c.open_write-opened.ensures.writer in
    opened_so g.O.Directory c.directory_mut.result.now c.open_write-opened.new.self c.args.self.now (c.directory_mut.ensures.value ∙ ap names_below c.self.view_is) c.as_str.result.now c.args.name c.as_str.ensures.text
    c.open_write-opened.result c.in-Some.writer _ made refl
    (bodies_put (λ w. (g.O.Directory.state_of w).written) c.self.inside.files.entries c.insert.new.self.entries c.args.self.now.open_files c.args.name _ [] c.in_ok-insert.ensures.entries (ap (λ v. v.open_files) c.self.view_is) (ap (λ (s : WriterState). s.written) writer.writer.state))
    (ap (λ v. v.left) c.self.view_is) c.requires c.open_write-opened.ensures.creates c.open_write-opened.ensures.manages

pub returns-clause-others : goal.returns-clause-others
returns-clause-others g c = others_then g.O.Directory c.directory_mut.result.now c.open_write-opened.new.self c.args.self.now (c.directory_mut.ensures.value ∙ ap names_below c.self.view_is) c.as_str.result.now c.args.name c.as_str.ensures.text c.open_write-opened.ensures.creates.others

pub returns-clause-faults : goal.returns-clause-faults
returns-clause-faults g c = record {
  quiet =
      quiet_then g.O.Directory c.directory_mut.result.now c.open_write-opened.new.self c.args.self.now (c.directory_mut.ensures.value ∙ ap names_below c.self.view_is) c.as_str.result.now c.args.name c.as_str.ensures.text
      (made_then c.open_write-opened.result c.in-Some.writer _ (was_made c.open_write-opened.result _ c.in-Some.writer c.in_ok-writer.ensures c.in-Some.is) c.open_write-opened.ensures.faults.quiet);
  fits = λ never. never;
  cause = tt;
}

pub returns-clause-frame : goal.returns-clause-frame
returns-clause-frame g c =
    kept_made (Kept g.O.Directory.told) g.O.Directory.view _ _ _ _ c.directory_mut.result.now c.open_write-opened.new.self _ c.directory_mut.ensures.value c.self.view_is _
    (kept_collections g.O.Directory c.directory_mut.result.now c.open_write-opened.new.self c.as_str.result.now _ c.open_write-opened.ensures.manages) c.open_write-opened.ensures.frame

pub returns-in_err-writer-clause-safe : goal.returns-in_err-writer-clause-safe
returns-in_err-writer-clause-safe g c tells = opened_below g.O.Directory (c.directory_mut.ensures.value ∙ ap names_below c.self.view_is) c.open_write-opened.result c.as_str.ensures.text (c.open_write-opened.ensures.safe tells)

pub returns-in_default-clause-safe : goal.returns-in_default-clause-safe
returns-in_default-clause-safe g c tells = opened_below g.O.Directory (c.directory_mut.ensures.value ∙ ap names_below c.self.view_is) c.open_write-opened.result c.as_str.ensures.text (c.open_write-opened.ensures.safe tells)

pub returns-in_err-insert-clause-safe : goal.returns-in_err-insert-clause-safe
returns-in_err-insert-clause-safe g c tells = opened_below g.O.Directory (c.directory_mut.ensures.value ∙ ap names_below c.self.view_is) c.open_write-opened.result c.as_str.ensures.text (c.open_write-opened.ensures.safe tells)

pub returns-clause-safe : goal.returns-clause-safe
returns-clause-safe g c tells = opened_below g.O.Directory (c.directory_mut.ensures.value ∙ ap names_below c.self.view_is) c.open_write-opened.result c.as_str.ensures.text (c.open_write-opened.ensures.safe tells)
