use Rattle.std.proofs.Common.{◌≡◌, None, ap, rules, sym, subst, ◌∙◌}
use Rattle.tv_base.specs.Errors.{of_open_read}
use Rattle.tv_managed.specs.Collecting.{TakesNoLock}
use Rattle.tv_formats.specs.Files.{Rose}
use Rattle.tv_formats.proofs.Results.{handed_on}
use Rattle.tv_store.proofs.CheckedFiles.{reads_take_none}
use Rattle.tv_store.specs.Bodies.{RefusesAt}
use Rattle.tv_store.specs.ReadCauses.{ApplyCause, reading_facts}
use Rattle.tv_store.proofs.KnownFiles.{same_there}
use Rattle.tv_store.proofs.OpenFiles.{still_files, AreFiles}
use Rattle.tv_store.specs.StoreCauses.{MakesNoFile}
use Rattle.tv_store.proofs.ReaderEvents.{body_fails, reads_make_none}
use Rattle.tv_device.specs.View.{OnlyReads}
use Rattle.tv_store.proofs.KeptFiles.{kept_files}
use Rattle.tv_store.proofs.files.StoreFiles.open_read.Goals as goal

pub returns-in_err-body-clause-faults : goal.returns-in_err-body-clause-faults
returns-in_err-body-clause-faults g c =
    let D = g.O.Directory in
    let value = c.args.self.now.outside in
    let after = c.open_read.new.self.0 in
    let why = c.in_err-body.ensures.faults in
    record {
      quiet = search rules;
      cause =
          handed_on c.from_residual.result (of_open_read c.in_err-body.field-0.0)
          (ApplyCause (reading_facts (Rose (D.view value).faults (D.view after).faults) ((D.view after).faults ≡ (D.view value).faults) (λ error. D.told.content → RefusesAt (D.view value).reads c.args.name.now error) (λ path. (path ≡ c.args.name.now) × (D.told.content → (D.view value).reads path ≡ None))))
          c.from_residual.ensures.1
          (body_fails D.told.content (λ d. (D.view d).reads) (λ d. (D.view d).faults) c.directory_mut.result.now.0 value after c.args.name.now c.as_str.result.now c.in_err-body.field-0.0
          (ap (λ d. d.0) c.directory_mut.ensures.value ∙ ap (λ v. v.outside) c.self.view_is) c.as_str.ensures.text c.as_str.ensures.name why.cause why.path why.err why.outside);
      file = handed_on c.from_residual.result (of_open_read c.in_err-body.field-0.0) MakesNoFile c.from_residual.ensures.1 (reads_make_none c.in_err-body.field-0.0);
      lock = handed_on c.from_residual.result (of_open_read c.in_err-body.field-0.0) TakesNoLock c.from_residual.ensures.1 (reads_take_none c.in_err-body.field-0.0);
    }

pub invariant_of-self-2 : goal.invariant_of-self-2
invariant_of-self-2 g c = still_files g.O.Directory c.directory_mut.result.now c.open_read.new.self c.self.inside.files.entries c.self.inside.known.keys c.open_read.ensures.frame.below.kept.frame.tells_none.deletes_none (ap (λ n. n.collections) c.open_read.ensures.frame.names) (λ tells. same_there _ _ (c.open_read.ensures.frame.below.content tells)) (subst (λ d. AreFiles g.O.Directory d c.self.inside.files.entries c.self.inside.known.keys) (sym c.directory_mut.ensures.value) c.self.invariant)

pub returns-in_err-body-clause-frame : goal.returns-in_err-body-clause-frame
returns-in_err-body-clause-frame g c = kept_files (OnlyReads g.O.Directory.told) g.O.Directory.view _ _ _ _ _ _ _ c.directory_mut.ensures.value c.self.view_is c.open_read.ensures.frame

pub returns-clause-frame : goal.returns-clause-frame
returns-clause-frame g c = kept_files (OnlyReads g.O.Directory.told) g.O.Directory.view _ _ _ _ _ _ _ c.directory_mut.ensures.value c.self.view_is c.open_read.ensures.frame
