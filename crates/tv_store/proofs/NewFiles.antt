-- What an attempt to make a file leaves of the files of a store: the file, or all as it was where its name is taken, or a fault.
use Rattle.std.proofs.Common.{◌≡◌, ◌⊎◌, inl, inr, ℕ, true, List, [], Option, Some, None, Result, Ok, Err, sym, ap, subst, ◌∙◌}
use Rattle.std.specs.Prelude.{IfErr, IfOk, IsErrAnd, IsSome, OnOk}
use Rattle.std.specs.BTreeMap.{insert_entry}
use Rattle.tv_base.specs.declared.error.TantivyError.{TantivyError}
use Rattle.tv_base.specs.declared.error.TantivyError.TheVariants as errors
use Rattle.tv_base.specs.declared.open_errors.OpenWriteError.{OpenWriteError}
use Rattle.tv_base.specs.declared.open_errors.OpenWriteError.TheVariants as write
use Rattle.tv_device.specs.declared.directory.Directory.{Ghosts}
use Rattle.tv_managed.specs.Managed.{CreateCause, CreateFaults, Creates, KeepsOtherFiles, MakesFile, ManagesFile}
use Rattle.tv_managed.specs.Names.{ManagedNames}
use Rattle.tv_formats.specs.Collections.{held}
use Rattle.tv_formats.specs.Files.{Rose, Same}
use Rattle.tv_formats.specs.Listing.{Listing}
use Rattle.tv_formats.specs.Names.{byte_cmp, has, is_plain}
use Rattle.tv_store.specs.FileCalls.{FindsFile, OpensFile, unless_taken}
use Rattle.tv_store.specs.Kept.{FilesState, names_below}
use Rattle.tv_store.specs.Stays.{EventFaults}
use Rattle.tv_store.specs.StoreCauses.{EventCause}
use Rattle.tv_store.proofs.KeptFiles.{fails_after}
use Rattle.tv_store.proofs.OpenFiles.{plain_registered}

-- ---- what came of the attempt

-- it was made
pub was_made : {V : Type 0} (made : Result V OpenWriteError) (given : Option V) (writer : V) → Ok given ≡ unless_taken made → given ≡ Some writer → made ≡ Ok writer
was_made (Ok v) given writer e is =
    let k : Ok given ≡ Ok (Some v) = e in
    let same : v ≡ writer = cc in
    ap Ok same
was_made (Err (write.FileAlreadyExists path)) given writer e is = let k : Ok given ≡ Ok None = e in absurd cc
was_made (Err (write.Leaving path)) given writer e is = let k : Ok given ≡ Ok None = e in absurd cc
was_made (Err (write.IoError fault path)) given writer e is = let k : Ok given ≡ Err (errors.OpenWriteError (write.IoError fault path)) = e in absurd cc
was_made (Err write.Memory) given writer e is = let k : Ok given ≡ Err errors.Memory = e in absurd cc

pub made_so : {V E : Type 0} (made : Result V E) (writer : V) (P : V → Type 0) → made ≡ Ok writer → IfOk made P → P writer
made_so made writer P e h = subst (λ r. IfOk r P) e h

pub made_then : {V E : Type 0} (made : Result V E) (writer : V) (P : Type 0) → made ≡ Ok writer → OnOk made P → P
made_then made writer P e h = subst (λ r. OnOk r P) e h

-- its name is taken
why_taken : {V : Type 0} (name : List ℕ) (there taken refused quiet : Type 0) (made : Result V OpenWriteError) (given : Option V) → Ok given ≡ unless_taken made → given ≡ None → IfErr made (CreateCause name there taken refused quiet) → there ⊎ taken
why_taken name there taken refused quiet (Ok v) given e is cause = let k : Ok given ≡ Ok (Some v) = e in absurd cc
why_taken name there taken refused quiet (Err (write.FileAlreadyExists path)) given e is (path_is, it) = inl it
why_taken name there taken refused quiet (Err (write.Leaving path)) given e is (path_is, it) = inr it
why_taken name there taken refused quiet (Err (write.IoError fault path)) given e is cause = let k : Ok given ≡ Err (errors.OpenWriteError (write.IoError fault path)) = e in absurd cc
why_taken name there taken refused quiet (Err write.Memory) given e is cause = let k : Ok given ≡ Err errors.Memory = e in absurd cc

-- it failed
why_failed : {V : Type 0} (name : List ℕ) (there taken refused quiet spent : Type 0) (made : Result V OpenWriteError) (error : TantivyError) → Err error ≡ unless_taken made → IfErr made (CreateCause name there taken refused quiet) → EventCause refused quiet spent error
why_failed name there taken refused quiet spent (Ok v) error e cause = let k : Err error ≡ Ok (Some v) = e in absurd cc
why_failed name there taken refused quiet spent (Err (write.FileAlreadyExists path)) error e cause = let k : Err error ≡ Ok None = e in absurd cc
why_failed name there taken refused quiet spent (Err (write.Leaving path)) error e cause = let k : Err error ≡ Ok None = e in absurd cc
why_failed name there taken refused quiet spent (Err (write.IoError fault path)) error e (path_is, device, it) =
    let k : Err error ≡ Err (errors.OpenWriteError (write.IoError fault path)) = e in
    let same : error ≡ errors.OpenWriteError (write.IoError fault path) = cc in
    subst (EventCause refused quiet spent) (sym same) (device, it)
why_failed name there taken refused quiet spent (Err write.Memory) error e cause =
    let k : Err error ≡ Err errors.Memory = e in
    let same : error ≡ errors.Memory = cc in
    subst (EventCause refused quiet spent) (sym same) cause

-- ---- what it leaves

module _ {O W C : Type 0} (g : Ghosts O W C) (now new : O × ManagedNames) (old : FilesState O) (same : now ≡ names_below old) (asked name : List ℕ) (text : asked ≡ name) where
  abbrev IsThere : Type 0
  IsThere = (g.told.content → IsSome ((g.view now.0).reads asked)) × ((g.view new.0).faults ≡ (g.view now.0).faults)

  abbrev IsHeld : Type 0
  IsHeld = (has (held now.1.collections) asked ≡ true) × (g.told.content → (g.view now.0).reads asked ≡ None) × ((g.view new.0).faults ≡ (g.view now.0).faults)

  pub quiet_then : (g.view new.0).faults ≡ (g.view now.0).faults → (g.view new.0).faults ≡ (g.view old.outside).faults
  quiet_then quiet = quiet ∙ ap (λ (d : O × ManagedNames). (g.view d.0).faults) same

  pub others_then : (g.told.content → KeepsOtherFiles (g.view now.0).reads (g.view new.0).reads asked) → g.told.content → KeepsOtherFiles (g.view old.outside).reads (g.view new.0).reads name
  others_then others tells =
      subst (λ (n : List ℕ). KeepsOtherFiles (g.view old.outside).reads (g.view new.0).reads n) text
      (subst (λ (d : O × ManagedNames). KeepsOtherFiles (g.view d.0).reads (g.view new.0).reads asked) same (others tells))

  -- a fault
  pub failed_then : {A V : Type 0} (result : Result A TantivyError) (made : Result V OpenWriteError) (error : TantivyError) → IsErrAnd result (λ e. e ≡ error) → Err error ≡ unless_taken made → CreateFaults g now new asked made
      → EventFaults ⊥ (g.view old.outside) (g.view new.0) result
  failed_then result made error is e h =
      fails_after g old.outside now.0 new.0 result error is (ap (λ (d : O × ManagedNames). (g.view d.0).faults) same)
      (why_failed asked IsThere IsHeld (Rose (g.view now.0).faults (g.view new.0).faults) ((g.view new.0).faults ≡ (g.view now.0).faults) ⊥ made error e h.cause)

  module _ {V : Type 0} (made : Result V OpenWriteError) (given : Option V) (e : Ok given ≡ unless_taken made) (is : given ≡ None) (faults : CreateFaults g now new asked made) where
    taken : IsThere ⊎ IsHeld
    taken = why_taken asked IsThere IsHeld (Rose (g.view now.0).faults (g.view new.0).faults) ((g.view new.0).faults ≡ (g.view now.0).faults) made given e is faults.cause

    taken_quiet : IsThere ⊎ IsHeld → (g.view new.0).faults ≡ (g.view now.0).faults
    taken_quiet (inl it) = it.1
    taken_quiet (inr it) = it.2

    -- no fault
    pub found_faults : {A : Type 0} (answer : A) → EventFaults ⊥ (g.view old.outside) (g.view new.0) (Ok answer)
    found_faults answer = record { quiet = quiet_then (taken_quiet taken); fits = λ never. never; cause = tt }

    found_there : IsThere ⊎ IsHeld → g.told.content → IsSome ((g.view now.0).reads asked) ⊎ (has (held now.1.collections) asked ≡ true)
    found_there (inl it) tells = inl (it.0 tells)
    found_there (inr it) tells = inr it.0

    found_same : Creates g now new asked made → IsThere ⊎ IsHeld → g.told.content → Same (g.view now.0).reads (g.view new.0).reads × (new.1 ≡ now.1)
    found_same creates (inl it) tells = creates.there tells (it.0 tells)
    found_same creates (inr it) tells = let h = creates.held it.0 in (h.below.content tells, h.names)

    -- all as it was
    pub found_so : (after : FilesState O) → names_below after ≡ new → after.open_files ≡ old.open_files → after.left ≡ old.left → Creates g now new asked made → FindsFile g old after name
    found_so after is_new open_files left creates = record {
      open_files = open_files;
      left = left;
      there = λ tells.
          subst (λ (n : List ℕ). IsSome ((g.view old.outside).reads n) ⊎ (has (held old.collections) n ≡ true)) text
          (subst (λ (d : O × ManagedNames). IsSome ((g.view d.0).reads asked) ⊎ (has (held d.1.collections) asked ≡ true)) same (found_there taken tells));
      same = λ tells.
          subst (λ (d : O × ManagedNames). Same (g.view old.outside).reads (g.view d.0).reads) (sym is_new)
          (subst (λ (d : O × ManagedNames). Same (g.view d.0).reads (g.view new.0).reads) same (found_same creates taken tells).0);
      names = λ tells.
          ap (λ (d : O × ManagedNames). d.1.managed) is_new ∙ ap (λ (names : ManagedNames). names.managed) (found_same creates taken tells).1 ∙ ap (λ (d : O × ManagedNames). d.1.managed) same;
    }

  -- the file
  pub opened_so : {V : Type 0} (made : Result V OpenWriteError) (writer : V) (after : FilesState O) → made ≡ Ok writer → names_below after ≡ new → after.open_files ≡ insert_entry byte_cmp old.open_files name [] → after.left ≡ old.left → is_plain name ≡ true
      → Creates g now new asked made → ManagesFile g now new asked made → OpensFile g old after name
  opened_so made writer after is is_new open_files left plain creates manages = record {
    names =
        ap (λ (d : O × ManagedNames). d.1.managed) is_new
        ∙ plain_registered now.1.managed old.managed new.1.managed asked name (ap (λ (names : ManagedNames). names.managed) (made_then made writer _ is manages.ok)) (ap (λ (d : O × ManagedNames). d.1.managed) same) text plain;
    open_files = open_files;
    left = left;
    makes = λ tells.
        subst (λ (d : O × ManagedNames). MakesFile (g.view old.outside).reads (g.view d.0).reads name) (sym is_new)
        (subst (λ (n : List ℕ). MakesFile (g.view old.outside).reads (g.view new.0).reads n) text
        (subst (λ (d : O × ManagedNames). MakesFile (g.view d.0).reads (g.view new.0).reads asked) same (made_then made writer _ is (creates.ok tells))));
    list = λ tells lists.
        subst (λ (d : O × ManagedNames). Listing (g.view d.0).reads d.1.managed) (sym is_new)
        (made_then made writer _ is (manages.saves.list tells (subst (λ (d : O × ManagedNames). Listing (g.view d.0).reads d.1.managed) (sym same) lists)));
  }
