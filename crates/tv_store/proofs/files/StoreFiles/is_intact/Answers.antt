use Rattle.std.proofs.Common.{Some, sym, ap, subst, ◌∙◌}
use Rattle.tv_base.specs.declared.open_errors.OpenReadError.{OpenReadError}
use Rattle.tv_managed.specs.Reading.{HasNoFooter, OpenBodyCause, ReadsSuch}
use Rattle.tv_formats.specs.Names.{has, at}
use Rattle.tv_store.proofs.KnownFiles.{same_there}
use Rattle.tv_store.proofs.OpenFiles.{is_open, still_files, AreFiles}
use Rattle.tv_store.proofs.Removals.{had}
use Rattle.tv_store.proofs.ReportEvents.{fault_intact, intact_answer, left_intact, open_intact, tells_intact}
use Rattle.tv_device.specs.View.{OnlyReads}
use Rattle.tv_store.proofs.KeptFiles.{kept_files}
use Rattle.tv_store.specs.Kept.{names_below}
use Rattle.tv_store.proofs.FileStates.{disk_same, read_below}
use Rattle.tv_store.proofs.files.StoreFiles.is_intact.Goals as goal
use Rattle.tv_store.proofs.files.StoreFiles.is_intact.Goals.{then-contains_key-via-then-contains_key, then-contains_key-via-else-contains_key+then-contains}

pub returns-then-contains_key-clause-answer : goal.returns-then-contains_key-clause-answer
returns-then-contains_key-clause-answer g c tells =
    let name = c.args.name.now in
    let old = c.args.self.now in
    let read = (g.O.Directory.view old.outside).reads name in
    elim c.then-contains_key.branch [
      | then-contains_key-via-then-contains_key w ↦
          open_intact read (at old.open_files name) (has old.left name) (is_open (λ x. (g.O.Directory.state_of x).written) c.self.inside.files.entries c.args.self.now.open_files name _ (ap (λ v. v.open_files) c.self.view_is) w.if-contains_key.ensures)
      | then-contains_key-via-else-contains_key+then-contains w ↦
          left_intact read (at old.open_files name) (has old.left name) (sym (ap (λ v. has v.left name) c.self.view_is) ∙ sym (had c.self.inside.left.keys name) ∙ sym w.contains.ensures ∙ w.if-contains.true)
    ]

pub invariant_of-self : goal.invariant_of-self
invariant_of-self g c = still_files g.O.Directory c.directory_mut.result.now c.validate_checksum.new.self c.self.inside.files.entries c.self.inside.known.keys c.validate_checksum.ensures.frame.below.kept.frame.tells_none.deletes_none (ap (λ n. n.collections) c.validate_checksum.ensures.frame.names) (λ tells. same_there _ _ (c.validate_checksum.ensures.frame.below.content tells)) (subst (λ d. AreFiles g.O.Directory d c.self.inside.files.entries c.self.inside.known.keys) (sym c.directory_mut.ensures.value) c.self.invariant)

pub invariant_of-self-in-Err-FileDoesNotExist : goal.invariant_of-self-in-Err-FileDoesNotExist
invariant_of-self-in-Err-FileDoesNotExist g c = still_files g.O.Directory c.directory_mut.result.now c.validate_checksum.new.self c.self.inside.files.entries c.self.inside.known.keys c.validate_checksum.ensures.frame.below.kept.frame.tells_none.deletes_none (ap (λ n. n.collections) c.validate_checksum.ensures.frame.names) (λ tells. same_there _ _ (c.validate_checksum.ensures.frame.below.content tells)) (subst (λ d. AreFiles g.O.Directory d c.self.inside.files.entries c.self.inside.known.keys) (sym c.directory_mut.ensures.value) c.self.invariant)

pub invariant_of-self-in-Err-IoError : goal.invariant_of-self-in-Err-IoError
invariant_of-self-in-Err-IoError g c = still_files g.O.Directory c.directory_mut.result.now c.validate_checksum.new.self c.self.inside.files.entries c.self.inside.known.keys c.validate_checksum.ensures.frame.below.kept.frame.tells_none.deletes_none (ap (λ n. n.collections) c.validate_checksum.ensures.frame.names) (λ tells. same_there _ _ (c.validate_checksum.ensures.frame.below.content tells)) (subst (λ d. AreFiles g.O.Directory d c.self.inside.files.entries c.self.inside.known.keys) (sym c.directory_mut.ensures.value) c.self.invariant)

pub invariant_of-self-in-Err-Memory : goal.invariant_of-self-in-Err-Memory
invariant_of-self-in-Err-Memory g c = still_files g.O.Directory c.directory_mut.result.now c.validate_checksum.new.self c.self.inside.files.entries c.self.inside.known.keys c.validate_checksum.ensures.frame.below.kept.frame.tells_none.deletes_none (ap (λ n. n.collections) c.validate_checksum.ensures.frame.names) (λ tells. same_there _ _ (c.validate_checksum.ensures.frame.below.content tells)) (subst (λ d. AreFiles g.O.Directory d c.self.inside.files.entries c.self.inside.known.keys) (sym c.directory_mut.ensures.value) c.self.invariant)

pub returns-in-Ok-clause-answer : goal.returns-in-Ok-clause-answer
returns-in-Ok-clause-answer g c tells =
    let name = c.args.name.now in
    let old = c.args.self.now in
    intact_answer (λ d. (g.O.Directory.view d).reads) c.directory_mut.result.now.0 old.outside c.as_str.result.now name (at old.open_files name) (has old.left name) (Some c.in-Ok.is_right)
    (ap (λ d. d.0) c.directory_mut.ensures.value ∙ ap (λ v. v.outside) c.self.view_is) c.as_str.ensures.text (tells_intact _ c.in-Ok.is_right (c.in-Ok.ensures.answer tells))
    (is_open (λ w. (g.O.Directory.state_of w).written) c.self.inside.files.entries old.open_files name _ (ap (λ v. v.open_files) c.self.view_is) c.if-contains_key.ensures)
    (sym (ap (λ v. has v.left name) c.self.view_is) ∙ sym (had c.self.inside.left.keys name) ∙ sym c.contains.ensures ∙ c.if-contains.false)

pub returns-in-Err-IoError-clause-answer : goal.returns-in-Err-IoError-clause-answer
returns-in-Err-IoError-clause-answer g c tells =
    let name = c.args.name.now in
    let old = c.args.self.now in
    let bad = ReadsSuch ((g.O.Directory.view c.directory_mut.result.now.0).reads c.as_str.result.now) HasNoFooter in
    let why = subst (λ (e : OpenReadError). OpenBodyCause (Unit {0}) (λ fault. bad) (λ why. ⊥) (Unit {0}) (Unit {0}) e) c.in-Err-IoError.field-0-is (c.in-Err-IoError.ensures.faults.outside tells) in
    fault_intact (λ d. (g.O.Directory.view d).reads) c.directory_mut.result.now.0 old.outside c.as_str.result.now name (at old.open_files name) (has old.left name) c.in-Err-IoError.io_error c.unless_device.result
    c.unless_device.ensures.none c.unless_device.ensures.bytes (ap (λ d. d.0) c.directory_mut.ensures.value ∙ ap (λ v. v.outside) c.self.view_is) c.as_str.ensures.text why
    (is_open (λ w. (g.O.Directory.state_of w).written) c.self.inside.files.entries old.open_files name _ (ap (λ v. v.open_files) c.self.view_is) c.if-contains_key.ensures)
    (sym (ap (λ v. has v.left name) c.self.view_is) ∙ sym (had c.self.inside.left.keys name) ∙ sym c.contains.ensures ∙ c.if-contains.false)

pub returns-in-Ok-clause-frame : goal.returns-in-Ok-clause-frame
returns-in-Ok-clause-frame g c = kept_files (OnlyReads g.O.Directory.told) g.O.Directory.view _ _ _ _ _ _ _ c.directory_mut.ensures.value c.self.view_is c.validate_checksum.ensures.frame

pub returns-in-Err-FileDoesNotExist-clause-frame : goal.returns-in-Err-FileDoesNotExist-clause-frame
returns-in-Err-FileDoesNotExist-clause-frame g c = kept_files (OnlyReads g.O.Directory.told) g.O.Directory.view _ _ _ _ _ _ _ c.directory_mut.ensures.value c.self.view_is c.validate_checksum.ensures.frame

pub returns-in-Err-IoError-clause-frame : goal.returns-in-Err-IoError-clause-frame
returns-in-Err-IoError-clause-frame g c = kept_files (OnlyReads g.O.Directory.told) g.O.Directory.view _ _ _ _ _ _ _ c.directory_mut.ensures.value c.self.view_is c.validate_checksum.ensures.frame

pub returns-in-Err-Memory-clause-frame : goal.returns-in-Err-Memory-clause-frame
returns-in-Err-Memory-clause-frame g c = kept_files (OnlyReads g.O.Directory.told) g.O.Directory.view _ _ _ _ _ _ _ c.directory_mut.ensures.value c.self.view_is c.validate_checksum.ensures.frame

pub returns-then-contains_key-clause-images : goal.returns-then-contains_key-clause-images
returns-then-contains_key-clause-images g c tells = disk_same _

pub returns-in-Ok-clause-images : goal.returns-in-Ok-clause-images
returns-in-Ok-clause-images g c tells = read_below g.O.Directory (c.directory_mut.ensures.value ∙ ap names_below c.self.view_is) (c.validate_checksum.ensures.images tells)

pub returns-in-Err-FileDoesNotExist-clause-images : goal.returns-in-Err-FileDoesNotExist-clause-images
returns-in-Err-FileDoesNotExist-clause-images g c tells = read_below g.O.Directory (c.directory_mut.ensures.value ∙ ap names_below c.self.view_is) (c.validate_checksum.ensures.images tells)

pub returns-in-Err-IoError-clause-images : goal.returns-in-Err-IoError-clause-images
returns-in-Err-IoError-clause-images g c tells = read_below g.O.Directory (c.directory_mut.ensures.value ∙ ap names_below c.self.view_is) (c.validate_checksum.ensures.images tells)

pub returns-in-Err-Memory-clause-images : goal.returns-in-Err-Memory-clause-images
returns-in-Err-Memory-clause-images g c tells = read_below g.O.Directory (c.directory_mut.ensures.value ∙ ap names_below c.self.view_is) (c.validate_checksum.ensures.images tells)
