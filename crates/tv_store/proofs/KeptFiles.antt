-- What a call leaves of a store and its files, and why one fails that comes after another.
use Rattle.std.proofs.Common.{◌≡◌, ℕ, Bool, List, Result, Ok, Err, sym, ap, subst, ◌∙◌}
use Rattle.std.specs.Prelude.{IsErrAnd}
use Rattle.tv_base.specs.Causes.{IoCause}
use Rattle.tv_base.specs.Errors.{of_io}
use Rattle.tv_base.specs.declared.error.TantivyError.{TantivyError}
use Rattle.tv_base.specs.declared.error.TantivyError.TheVariants as errors
use Rattle.tv_base.specs.declared.io.IoError.{IoError}
use Rattle.tv_base.specs.declared.io.IoError.TheVariants as io
use Rattle.tv_device.specs.Calls.{IoFaults}
use Rattle.tv_device.specs.View.{View}
use Rattle.tv_device.specs.declared.directory.Directory.{Ghosts}
use Rattle.tv_managed.specs.Frames.{KeepsNames}
use Rattle.tv_managed.specs.Names.{ManagedNames}
use Rattle.tv_formats.specs.Commits.{IndexForm}
use Rattle.tv_formats.specs.Files.{Rose}
use Rattle.tv_store.specs.Kept.{FilesState}
use Rattle.tv_store.specs.Stays.{EventFaults, KeepsFiles, KeepsMade, KeepsManaged}
use Rattle.tv_store.specs.StoreCauses.{EventCause}

module _ {O W : Type 0} {locked : Bool} (keeps : View W → View W → Type 0) (view : O → View W) (form : IndexForm) (open_files : List (List ℕ × List ℕ)) (left : List (List ℕ)) (d now new : O × ManagedNames) (old : FilesState O) (same : now ≡ d)
    (is : record { outside = d.0; form = form; managed = d.1.managed; collections = d.1.collections; open_files = open_files; left = left; locked = locked } ≡ old) where
  -- what a call on the directory keeps of it
  kept_below : keeps (view now.0) (view new.0) → keeps (view old.outside) (view new.0)
  kept_below h = subst (λ (o : O). keeps (view o) (view new.0)) (ap (λ (x : O × ManagedNames). x.0) same ∙ ap (λ (v : FilesState O). v.outside) is) h

  -- the files of a store are what they were but for the open ones, where its directory keeps its names
  pub kept_managed : (after : List (List ℕ × List ℕ)) → KeepsNames keeps view now new
      → KeepsManaged keeps view old (record { outside = new.0; form = form; managed = new.1.managed; collections = new.1.collections; open_files = after; left = left; locked = locked })
  kept_managed after h = record {
    form = ap (λ (v : FilesState O). v.form) is;
    locked = ap (λ (v : FilesState O). v.locked) is;
    names = ap (λ (n : ManagedNames). n.managed) h.names ∙ ap (λ (x : O × ManagedNames). x.1.managed) same ∙ ap (λ (v : FilesState O). v.managed) is;
    collections = ap (λ (n : ManagedNames). n.collections) h.names ∙ ap (λ (x : O × ManagedNames). x.1.collections) same ∙ ap (λ (v : FilesState O). v.collections) is;
    left = ap (λ (v : FilesState O). v.left) is;
    below = kept_below h.below;
  }

  -- and so are the open ones
  pub kept_files : KeepsNames keeps view now new
      → KeepsFiles keeps view old (record { outside = new.0; form = form; managed = new.1.managed; collections = new.1.collections; open_files = open_files; left = left; locked = locked })
  kept_files h = record { managed = kept_managed open_files h; open_files = ap (λ (v : FilesState O). v.open_files) is }

  -- where a file is made, the settings, the schema and the collections are what they were
  pub kept_made : (after : List (List ℕ × List ℕ)) → new.1.collections ≡ now.1.collections → keeps (view now.0) (view new.0)
      → KeepsMade keeps view old (record { outside = new.0; form = form; managed = new.1.managed; collections = new.1.collections; open_files = after; left = left; locked = locked })
  kept_made after collections below = record {
    form = ap (λ (v : FilesState O). v.form) is;
    locked = ap (λ (v : FilesState O). v.locked) is;
    collections = collections ∙ ap (λ (x : O × ManagedNames). x.1.collections) same ∙ ap (λ (v : FilesState O). v.collections) is;
    below = kept_below below;
  }

-- a call fails that comes after one of which the device refused nothing
pub fails_after : {A O W C : Type 0} (g : Ghosts O W C) (old mid new : O) (result : Result A TantivyError) (error : TantivyError) → IsErrAnd result (λ e. e ≡ error) → (g.view mid).faults ≡ (g.view old).faults
    → EventCause (Rose (g.view mid).faults (g.view new).faults) ((g.view new).faults ≡ (g.view mid).faults) ⊥ error → EventFaults ⊥ (g.view old) (g.view new) result
fails_after g old mid new (Ok a) error h quiet cause = absurd h
fails_after g old mid new (Err e) error h quiet cause = record {
  quiet = tt;
  fits = tt;
  cause = subst (λ (n : ℕ). EventCause (Rose n (g.view new).faults) ((g.view new).faults ≡ n) ⊥ e) quiet
      (subst (EventCause (Rose (g.view mid).faults (g.view new).faults) ((g.view new).faults ≡ (g.view mid).faults) ⊥) (sym h) cause);
}

-- an event fails for the cause of a call on the directory
event_of_io : (refused quiet spent : Type 0) (error : IoError) → IoCause refused quiet error → EventCause refused quiet spent (of_io error)
event_of_io refused quiet spent (io.Fault fault) h = h
event_of_io refused quiet spent io.Memory h = h

-- a call on the directory fails, and the event with it
pub io_fails : {A B O W C : Type 0} (g : Ghosts O W C) (old now new : O) (result : Result A TantivyError) (error : IoError) → now ≡ old → IsErrAnd result (λ e. e ≡ of_io error) → IoFaults {A = B} (g.view now) (g.view new) (Err error)
    → EventFaults ⊥ (g.view old) (g.view new) result
io_fails g old now new result error same is h =
    fails_after g old now new result (of_io error) is (ap (λ o. (g.view o).faults) same)
    (event_of_io (Rose (g.view now).faults (g.view new).faults) ((g.view new).faults ≡ (g.view now).faults) ⊥ error h.cause)

-- it succeeds, and then memory is wanted
pub wants_then : {A O W C : Type 0} (g : Ghosts O W C) (old now new : O) (result : Result A TantivyError) → now ≡ old → IsErrAnd result (λ e. e ≡ errors.Memory) → (g.view new).faults ≡ (g.view now).faults → EventFaults ⊥ (g.view old) (g.view new) result
wants_then g old now new result same is quiet = fails_after g old now new result errors.Memory is (ap (λ o. (g.view o).faults) same) quiet
