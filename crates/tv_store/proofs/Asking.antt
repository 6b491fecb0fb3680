-- What two calls leave alone, one after the other.
use Rattle.std.proofs.Common.{ℕ, ◌≡◌, Result, refl}
use Rattle.tv_machine.specs.State.{Catalog}
use Rattle.tv_device.specs.Calls.{MakesRoom}
use Rattle.tv_device.specs.View.{View, Told, OnlyReads}
use Rattle.tv_store.specs.Kept.{FilesState, kept_of}
use Rattle.tv_store.specs.Stays.{KeepsFiles}

-- what is kept stays where the files do
pub kept_by_files : {O W : Type 0} {keeps : View W → View W → Type 0} {view : O → View W} {old new : FilesState O} (catalog : Catalog) → KeepsFiles keeps view old new → kept_of catalog new ≡ kept_of catalog old
kept_by_files {O} {W} {keeps} {view} {old} {new} catalog frame =
    let form : new.form ≡ old.form = frame.managed.form in
    let names : new.managed ≡ old.managed = frame.managed.names in
    let collections : new.collections ≡ old.collections = frame.managed.collections in
    let open_files : new.open_files ≡ old.open_files = frame.open_files in
    let left : new.left ≡ old.left = frame.managed.left in
    cc

-- making room only asks
pub asked_files : {A E O W : Type 0} {told : Told} {view : O → View W} {len : ℕ} {result : Result A E} {old new : FilesState O} → KeepsFiles (MakesRoom told len result) view old new → KeepsFiles (OnlyReads told) view old new
asked_files h = record {
  managed = record { form = h.managed.form; locked = h.managed.locked; names = h.managed.names; collections = h.managed.collections; left = h.managed.left; below = h.managed.below.frame };
  open_files = h.open_files;
}

-- all stays but the directory
pub kept_rest : {O W : Type 0} {keeps : View W → View W → Type 0} {view : O → View W} (old new : FilesState O) → KeepsFiles keeps view old new → new ≡ record old { outside = new.outside }
kept_rest {O} {W} {keeps} {view} old new frame =
    let form : new.form ≡ old.form = frame.managed.form in
    let locked : new.locked ≡ old.locked = frame.managed.locked in
    let names : new.managed ≡ old.managed = frame.managed.names in
    let collections : new.collections ≡ old.collections = frame.managed.collections in
    let open_files : new.open_files ≡ old.open_files = frame.open_files in
    let left : new.left ≡ old.left = frame.managed.left in
    rw (← form, ← locked, ← names, ← collections, ← open_files, ← left) refl
