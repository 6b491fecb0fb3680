-- How the calls of a directory in memory end: where memory is wanted, where the device refuses
-- them, and where they are done.
use Rattle.std.proofs.Common.{◌≡◌, ◌<◌, ◌≤◌, ℕ, true, false, List, None, Result}
use Rattle.std.proofs.Common.{Ok, Err, IsSome, refl, sym, ap, subst, inl, inr, arith, ⊎_elim}
use Rattle.std.proofs.Common.{Bool, length}
use Rattle.std.proofs.lemmas.Bool.{cases_lt}
use Rattle.std.specs.Prelude.{IsErrAnd}
use Rattle.tv_base.specs.Causes.{DeleteCause, IoCause, IsDevice, OpenWriteCause}
use Rattle.tv_base.specs.declared.io.IoError.{IoError}
use Rattle.tv_base.specs.declared.io.IoError.TheVariants as io
use Rattle.tv_base.specs.declared.io.IoFault.{IoFault}
use Rattle.tv_base.specs.declared.open_errors.DeleteError.{DeleteError}
use Rattle.tv_base.specs.declared.open_errors.DeleteError.TheVariants as delete
use Rattle.tv_base.specs.declared.open_errors.OpenWriteError.{OpenWriteError}
use Rattle.tv_base.specs.declared.open_errors.OpenWriteError.TheVariants as write
use Rattle.tv_formats.specs.Disk.{Absent, Disk, DiskState, IsThere}
use Rattle.tv_formats.specs.Files.{Rose}
use Rattle.tv_directory.specs.Bench.{Numbered, WritesOut, disk_in, of_io, view_in}
use Rattle.tv_device.specs.Calls.{IoFaults, Notes}
use Rattle.tv_device.specs.Calls.{IsSilent}
use Rattle.tv_directory.specs.Device.{DeviceState, Faulted, after_call, after_refusal}
use Rattle.tv_base.specs.Texts.{counted, last}
use Rattle.tv_device.specs.Images.{DeletesState, GivesState, KeepsDisk, KeepsStates, MayOpen, OpensState}
use Rattle.tv_device.specs.Ram.{KeepsWriters, ram_lives, ram_watched}
use Rattle.tv_directory.specs.Record.{RecordedRefused}
use Rattle.tv_device.specs.StoredFiles.{reads_of, states_of}
use Rattle.tv_directory.specs.declared.bench.Bench.{Bench}
use Rattle.tv_device.specs.declared.files.StoredFile.{StoredFile}
use Rattle.tv_device.specs.declared.ram_directory.RamDirectory.{RamDirectory}
use Rattle.tv_device.specs.declared.ram_directory.RamWriter.{RamWriter}
use Rattle.tv_directory.proofs.Benches.{Aside, Failed, same_ram, untold, untouched}
use Rattle.tv_directory.proofs.ShowsNothing.{StillNone, at_memory, no_rise}
use Rattle.tv_directory.proofs.Recorded.{may_add, read_there, unread_absent}

-- ---- numbers and faults

module _ {A C : Type 0} {keeps : Bench C → Bench C → Type 0} (old new : Bench C) where
  pub numbered_quietly : (result : Result A IoError) → new.device ≡ after_call old.device
      → IsErrAnd result (λ e. e ≡ io.Memory) → keeps old new → Numbered keeps of_io old new result
  numbered_quietly (Ok x) number is keeps = absurd is
  numbered_quietly (Err e) number is keeps = record {
    passed = tt;
    cause = at_memory _ _ is number;
    kept = keeps;
  }

  pub numbered_failed : (fault : IoFault) → Failed old new → IsSilent fault → keeps old new
      → Numbered {A = A} keeps of_io old new (Err (io.Fault fault))
  numbered_failed fault failed silent keeps = record {
    passed = tt;
    cause = (silent.0, (failed.aside.timed, failed.faulted));
    kept = keeps;
  }

counted_rose : (n : ℕ) → Rose n (counted n)
counted_rose n =
    ⊎_elim (λ (lt : n < last). inl (omega (arith, lt)))
    (λ (le : last ≤ n). inr (omega (arith, le))) (cases_lt n last)

pub faulted_rose : (old new : DeviceState) → Faulted old new → Rose old.faults new.faults
faulted_rose old new faulted =
    subst (λ (d : DeviceState). Rose old.faults d.faults) (sym faulted.after)
    (counted_rose old.faults)

-- the same of a refused delete
pub refused_rose : (old new : DeviceState) → new ≡ after_refusal (after_call old)
    → Rose old.refusals new.refusals × (new.refusals ≤ last) × (new.faults ≡ old.faults)
refused_rose old new after =
    subst
    (λ (d : DeviceState). Rose old.refusals d.refusals × (d.refusals ≤ last) × (d.faults ≡ old.faults))
    (sym after) (counted_rose old.refusals, omega arith, refl)

io_faults : (P : Type 0) (e : IoError) (old new : DeviceState)
    → IoCause (P × Faulted old new) (new ≡ after_call old) e
    → IoCause (Rose old.faults new.faults) (new.faults ≡ old.faults) e
io_faults P (io.Fault fault) old new cause = (cause.0, faulted_rose old new cause.1.1)
io_faults P io.Memory old new cause = ap (λ (d : DeviceState). d.faults) cause

-- why a call fails is said by its number
pub faults_numbered : {A C : Type 0} {keeps : Bench C → Bench C → Type 0} (calls : C → ℕ)
    (old new : Bench C) (result : Result A IoError) → Numbered keeps of_io old new result
    → IoFaults (view_in calls old) (view_in calls new) result
faults_numbered calls old new (Ok x) numbered = record {
  quiet = ap (λ (d : DeviceState). d.faults) numbered.passed.after;
  cause = tt;
}
faults_numbered calls old new (Err e) numbered = record {
  quiet = tt;
  cause = io_faults _ e old.device new.device numbered.cause;
}

-- ---- calls on a writer

-- nothing was shown
pub writes_nothing : {C : Type 0} {old new : Bench C} (writer : RamWriter) → Aside old new
    → (ram_lives old.ram writer ≡ false → new.recorded.calls ≡ old.recorded.calls)
    → WritesOut writer old new
writes_nothing {C} {old = old} writer aside gone = record {
  untold = untold aside;
  writers = subst (λ (ram : RamDirectory C). KeepsWriters writer old.ram ram)
      (sym (same_ram aside))
      (record { others = refl; opened = λ w. refl; lives = λ w. refl; gone = λ isnt. refl });
  gone = λ isnt. untouched aside (gone isnt);
}

-- the refused call was recorded where its file still had the name
pub later_where : {C : Type 0} (lives : Bool) (old new : Bench C) {name : List ℕ} {state : DiskState}
    → (lives ≡ true → RecordedRefused (disk_in old) (disk_in new) name state)
    → (lives ≡ false → new ≡ old) → length old.recorded.calls ≤ length new.recorded.calls
later_where true old new recorded gone = (recorded refl).adds.time.later
later_where {C} false old new recorded gone =
    omega (arith, ap (λ (b : Bench C). length b.recorded.calls) (gone refl))

-- no notice came
pub notes_nothing : {A C : Type 0} (calls : C → ℕ) {old new : Bench C} (name : List ℕ) (fault : IoFault)
    → Aside old new → IsDevice fault
    → Notes {A = A} (view_in calls old) (view_in calls new) name (Err (io.Fault fault))
notes_nothing {C = C} calls name fault aside device = record {
  ok = tt;
  err = (device, inl (ap (λ (ram : RamDirectory C). ram_watched calls ram) (same_ram aside)));
}

-- ---- what a crash may leave

pub gives_no_state : {A : Type 0} {old new : Disk} (name : List ℕ) (state : DiskState)
    (result : Result A IoError) → KeepsDisk old new → IsErrAnd result (λ e. e ≡ io.Memory)
    → GivesState old new name state result
gives_no_state name state (Ok x) keeps is = absurd is
gives_no_state name state (Err e) keeps is = record {
  ok = tt;
  err = at_memory _ _ is keeps.states;
  no_more = may_add _ _ _ _ keeps.states.possible.no_more;
  time = keeps.time;
}

-- the file is there, or memory was wanted
opens_err : {old new : Disk} (name : List ℕ) (e : OpenWriteError) → KeepsStates old new
    → OpenWriteCause name (IsThere (old.now name)) ⊥ (Unit {0}) e
    → OpenWriteCause name (IsThere (old.now name) × KeepsStates old new) (MayOpen old new name)
    (KeepsStates old new) e
opens_err name (write.FileAlreadyExists path) keeps cause = (cause.0, (cause.1, keeps))
opens_err name (write.Leaving path) keeps cause = cause
opens_err name (write.IoError fault path) keeps cause = absurd cause.2
opens_err name write.Memory keeps cause = keeps

pub opens_no_state : {A : Type 0} {old new : Disk} (name : List ℕ) (e : OpenWriteError)
    (result : Result A OpenWriteError) → KeepsDisk old new
    → OpenWriteCause name (IsThere (old.now name)) ⊥ (Unit {0}) e
    → IsErrAnd result (λ other. other ≡ e) → OpensState old new name result
opens_no_state name e (Ok x) keeps cause is = absurd is
opens_no_state {old = old} {new} name e (Err other) keeps cause is = record {
  ok = tt;
  err = opens_err name other keeps.states
      (subst (λ (f : OpenWriteError). OpenWriteCause name (IsThere (old.now name)) ⊥ (Unit {0}) f)
      (sym is) cause);
  no_more = may_add _ _ _ _ keeps.states.possible.no_more;
  time = keeps.time;
}

pub opening_below : (files : List (List ℕ × StoredFile)) (name : List ℕ) (e : OpenWriteError)
    → OpenWriteCause name ((Unit {0} → IsSome (reads_of files name)) × StillNone) (Rose 0 0)
    StillNone e
    → OpenWriteCause name (IsThere (states_of files name)) ⊥ (Unit {0}) e
opening_below files name (write.FileAlreadyExists path) cause =
    (cause.0, read_there files name (cause.1.0 tt))
opening_below files name (write.Leaving path) cause = cause
opening_below files name (write.IoError fault path) cause = absurd (no_rise cause.2)
opening_below files name write.Memory cause = tt

-- there is no file, or memory was wanted
deletes_err : {old new : Disk} (name : List ℕ) (e : DeleteError) → KeepsStates old new
    → DeleteCause name (old.now name ≡ Absent) ⊥ (Unit {0}) e
    → DeleteCause name ((old.now name ≡ Absent) × KeepsStates old new) (KeepsStates old new)
    (KeepsStates old new) e
deletes_err name (delete.FileDoesNotExist path) keeps cause = (cause.0, (cause.1, keeps))
deletes_err name (delete.IoError fault path) keeps cause = absurd cause.2
deletes_err name delete.Memory keeps cause = keeps

pub deletes_no_state : {A : Type 0} {old new : Disk} (name : List ℕ) (e : DeleteError)
    (result : Result A DeleteError) → KeepsDisk old new
    → DeleteCause name (old.now name ≡ Absent) ⊥ (Unit {0}) e
    → IsErrAnd result (λ other. other ≡ e) → DeletesState old new name result
deletes_no_state name e (Ok x) keeps cause is = absurd is
deletes_no_state {old = old} {new} name e (Err other) keeps cause is = record {
  ok = tt;
  err = deletes_err name other keeps.states
      (subst (λ (f : DeleteError). DeleteCause name (old.now name ≡ Absent) ⊥ (Unit {0}) f)
      (sym is) cause);
  no_more = may_add _ _ _ _ keeps.states.possible.no_more;
  time = keeps.time;
}

pub deleting_below : (files : List (List ℕ × StoredFile)) (name : List ℕ) (e : DeleteError)
    → DeleteCause name ((Unit {0} → reads_of files name ≡ None) × StillNone) (Rose 0 0) StillNone e
    → DeleteCause name (states_of files name ≡ Absent) ⊥ (Unit {0}) e
deleting_below files name (delete.FileDoesNotExist path) cause =
    (cause.0, unread_absent files name (cause.1.0 tt))
deleting_below files name (delete.IoError fault path) cause = absurd (no_rise cause.2)
deleting_below files name delete.Memory cause = tt
