-- What a save of `meta.json` is to a crash, seen from the files of a store.
use Rattle.std.proofs.Common.{◌≡◌, ℕ, List, Result, Ok, Err, refl, subst}
use Rattle.std.specs.Prelude.{IfErr, IsErr, IsErrAnd}
use Rattle.tv_base.specs.Errors.{of_io}
use Rattle.tv_base.specs.declared.error.TantivyError.{TantivyError}
use Rattle.tv_base.specs.declared.error.TantivyError.TheVariants as errors
use Rattle.tv_base.specs.declared.io.IoError.{IoError}
use Rattle.tv_base.specs.declared.io.IoError.TheVariants as io
use Rattle.tv_device.specs.declared.directory.Directory.{Ghosts}
use Rattle.tv_index.specs.Crashes.{SavesStates, giving}
use Rattle.tv_managed.specs.Crashes.{LeavesSafely}
use Rattle.tv_managed.specs.Names.{ManagedNames}
use Rattle.tv_formats.specs.Names.{meta_name}
use Rattle.tv_formats.proofs.Results.{no_ok}

where_wanted : {A : Type 0} (P : Type 0) (error : IoError) (result : Result A TantivyError) → IsErrAnd result (λ e. e ≡ of_io error) → (error ≡ io.Memory → P) → IfErr result (λ e. e ≡ errors.Memory → P)
where_wanted P error (Ok a) same f = tt
where_wanted P (io.Fault fault) (Err e) same f = λ is. absurd cc
where_wanted P io.Memory (Err e) same f = λ is. f refl

-- the directory below is that of these files
abbrev Saves : {A O W C : Type 0} → Ghosts O W C → (text : List ℕ) → Result A IoError → (new old : O × ManagedNames) → Type 0
Saves g text result new old = LeavesSafely g (SavesStates (g.disk old.0) (g.disk new.0) old.1 (giving meta_name text) io.Memory result) old new

module _ {A B O W C : Type 0} (g : Ghosts O W C) {below old new : O × ManagedNames} (text : List ℕ) (same : below ≡ old) where
  -- the save succeeded
  pub saved_below : (x : A) (y : B) → LeavesSafely g (SavesStates (g.disk below.0) (g.disk new.0) below.1 (giving meta_name text) io.Memory (Ok x)) below new
      → LeavesSafely g (SavesStates (g.disk old.0) (g.disk new.0) old.1 (giving meta_name text) errors.Memory (Ok y)) old new
  saved_below x y safe =
      let here = subst (Saves g text (Ok x) new) same safe in
      record { tracks = here.tracks; listed = here.listed; states = record { moments = here.states.moments; now = here.states.now; memory = tt; kept = here.states.kept } }

  -- it failed
  pub unsaved_below : (error : IoError) (result : Result B TantivyError) → IsErr result → IsErrAnd result (λ e. e ≡ of_io error)
      → LeavesSafely g (SavesStates {A = A} (g.disk below.0) (g.disk new.0) below.1 (giving meta_name text) io.Memory (Err error)) below new
      → LeavesSafely g (SavesStates (g.disk old.0) (g.disk new.0) old.1 (giving meta_name text) errors.Memory result) old new
  unsaved_below error result failed given safe =
      let here = subst (Saves {A = A} g text (Err error) new) same safe in
      record {
        tracks = here.tracks;
        listed = here.listed;
        states = record {
          moments = here.states.moments;
          now = here.states.now;
          memory = where_wanted _ error result given here.states.memory;
          kept = no_ok _ result failed;
        };
      }
