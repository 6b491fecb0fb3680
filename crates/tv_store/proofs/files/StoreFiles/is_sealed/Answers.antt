use Rattle.std.proofs.Common.{sym, ap, ◌∙◌, subst}
use Rattle.std.specs.Prelude.{IsSome}
use Rattle.tv_formats.specs.Names.{has}
use Rattle.tv_store.proofs.KnownFiles.{same_there}
use Rattle.tv_store.proofs.OpenFiles.{still_files, is_open, known_answer, open_answer, left_answer, sealed_answer, AreFiles}
use Rattle.tv_store.proofs.Removals.{had}
use Rattle.tv_device.specs.View.{OnlyReads}
use Rattle.tv_store.proofs.KeptFiles.{kept_files}
use Rattle.tv_store.specs.Kept.{names_below}
use Rattle.tv_store.proofs.FileStates.{disk_same, read_below}
use Rattle.tv_store.proofs.files.StoreFiles.is_sealed.Goals as goal
use Rattle.tv_store.proofs.files.StoreFiles.is_sealed.Goals.{then-contains_key-via-then-contains_key, then-contains_key-via-else-contains_key+then-contains}

pub returns-then-contains_key-clause-answer : goal.returns-then-contains_key-clause-answer
returns-then-contains_key-clause-answer g c tells =
    let name = c.args.name.now in
    elim c.then-contains_key.branch [
      | then-contains_key-via-then-contains_key w ↦
          open_answer _ _ _ (is_open (λ x. (g.O.Directory.state_of x).written) c.self.inside.files.entries c.args.self.now.open_files name _ (ap (λ v. v.open_files) c.self.view_is) w.if-contains_key.ensures)
      | then-contains_key-via-else-contains_key+then-contains w ↦
          left_answer _ _ _ (sym (ap (λ v. has v.left name) c.self.view_is) ∙ sym (had c.self.inside.left.keys name) ∙ sym w.contains.ensures ∙ w.if-contains.true)
    ]

pub invariant_of-self : goal.invariant_of-self
invariant_of-self g c = still_files g.O.Directory c.directory_mut.result.now c.exists.new.self c.self.inside.files.entries c.self.inside.known.keys c.exists.ensures.frame.below.kept.frame.tells_none.deletes_none (ap (λ n. n.collections) c.exists.ensures.frame.names) (λ tells. same_there _ _ (c.exists.ensures.frame.below.content tells)) (subst (λ d. AreFiles g.O.Directory d c.self.inside.files.entries c.self.inside.known.keys) (sym c.directory_mut.ensures.value) c.self.invariant)

pub returns-then-contains-2-clause-answer : goal.returns-then-contains-2-clause-answer
returns-then-contains-2-clause-answer g c tells =
    let name = c.args.name.now in
    known_answer _ _ _
    (subst (λ o. IsSome ((g.O.Directory.view o).reads name)) (ap (λ v. v.outside) c.self.view_is) (c.self.invariant.2 tells name (sym (had c.self.inside.known.keys name) ∙ sym c.contains-2.ensures ∙ c.if-contains-2.true)).1)
    (is_open (λ w. (g.O.Directory.state_of w).written) c.self.inside.files.entries c.args.self.now.open_files name _ (ap (λ v. v.open_files) c.self.view_is) c.if-contains_key.ensures)
    (sym (ap (λ v. has v.left name) c.self.view_is) ∙ sym (had c.self.inside.left.keys name) ∙ sym c.contains.ensures ∙ c.if-contains.false)

pub returns-in-Ok-clause-answer : goal.returns-in-Ok-clause-answer
returns-in-Ok-clause-answer g c tells =
    let name = c.args.name.now in
    sealed_answer (λ d. (g.O.Directory.view d).reads) c.directory_mut.result.now.0 c.args.self.now.outside c.as_str.result.now name c.in-Ok.found (has c.args.self.now.left name) _
    (ap (λ d. d.0) c.directory_mut.ensures.value ∙ ap (λ v. v.outside) c.self.view_is) c.as_str.ensures.text (c.in-Ok.ensures.answer tells)
    (is_open (λ w. (g.O.Directory.state_of w).written) c.self.inside.files.entries c.args.self.now.open_files name _ (ap (λ v. v.open_files) c.self.view_is) c.if-contains_key.ensures)
    (sym (ap (λ v. has v.left name) c.self.view_is) ∙ sym (had c.self.inside.left.keys name) ∙ sym c.contains.ensures ∙ c.if-contains.false)

pub invariant_of-self-in-Err-Memory : goal.invariant_of-self-in-Err-Memory
invariant_of-self-in-Err-Memory g c = still_files g.O.Directory c.directory_mut.result.now c.exists.new.self c.self.inside.files.entries c.self.inside.known.keys c.exists.ensures.frame.below.kept.frame.tells_none.deletes_none (ap (λ n. n.collections) c.exists.ensures.frame.names) (λ tells. same_there _ _ (c.exists.ensures.frame.below.content tells)) (subst (λ d. AreFiles g.O.Directory d c.self.inside.files.entries c.self.inside.known.keys) (sym c.directory_mut.ensures.value) c.self.invariant)

pub invariant_of-self-in-Err-IoError : goal.invariant_of-self-in-Err-IoError
invariant_of-self-in-Err-IoError g c = still_files g.O.Directory c.directory_mut.result.now c.exists.new.self c.self.inside.files.entries c.self.inside.known.keys c.exists.ensures.frame.below.kept.frame.tells_none.deletes_none (ap (λ n. n.collections) c.exists.ensures.frame.names) (λ tells. same_there _ _ (c.exists.ensures.frame.below.content tells)) (subst (λ d. AreFiles g.O.Directory d c.self.inside.files.entries c.self.inside.known.keys) (sym c.directory_mut.ensures.value) c.self.invariant)

pub returns-in-Ok-clause-frame : goal.returns-in-Ok-clause-frame
returns-in-Ok-clause-frame g c = kept_files (OnlyReads g.O.Directory.told) g.O.Directory.view _ _ _ _ _ _ _ c.directory_mut.ensures.value c.self.view_is c.exists.ensures.frame

pub returns-in-Err-IoError-clause-frame : goal.returns-in-Err-IoError-clause-frame
returns-in-Err-IoError-clause-frame g c = kept_files (OnlyReads g.O.Directory.told) g.O.Directory.view _ _ _ _ _ _ _ c.directory_mut.ensures.value c.self.view_is c.exists.ensures.frame

pub returns-in-Err-Memory-clause-frame : goal.returns-in-Err-Memory-clause-frame
returns-in-Err-Memory-clause-frame g c = kept_files (OnlyReads g.O.Directory.told) g.O.Directory.view _ _ _ _ _ _ _ c.directory_mut.ensures.value c.self.view_is c.exists.ensures.frame

pub returns-then-contains_key-clause-images : goal.returns-then-contains_key-clause-images
returns-then-contains_key-clause-images g c tells = disk_same _

pub returns-then-contains-2-clause-images : goal.returns-then-contains-2-clause-images
returns-then-contains-2-clause-images g c tells = disk_same _

pub returns-in-Ok-clause-images : goal.returns-in-Ok-clause-images
returns-in-Ok-clause-images g c tells = read_below g.O.Directory (c.directory_mut.ensures.value ∙ ap names_below c.self.view_is) (c.exists.ensures.images tells)

pub returns-in-Err-Memory-clause-images : goal.returns-in-Err-Memory-clause-images
returns-in-Err-Memory-clause-images g c tells = read_below g.O.Directory (c.directory_mut.ensures.value ∙ ap names_below c.self.view_is) (c.exists.ensures.images tells)

pub returns-in-Err-IoError-clause-images : goal.returns-in-Err-IoError-clause-images
returns-in-Err-IoError-clause-images g c tells = read_below g.O.Directory (c.directory_mut.ensures.value ∙ ap names_below c.self.view_is) (c.exists.ensures.images tells)
