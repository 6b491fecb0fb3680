-- What a delete of a managed name gives, by what the directory answers.
use Rattle.std.proofs.Common.{◌≡◌, ◌≢◌, ℕ, Bool, true, false, true≢false, List, refl, sym, ap, subst, ◌∙◌, String, Global, Result, Ok, Err}
use Rattle.std.specs.Prelude.{IfOk, OnErr, is_some}
use Rattle.std.proofs.lemmas.Bool.{both_ways}
use Rattle.tv_formats.specs.Disk.{Disk, Absent}
use Rattle.tv_formats.specs.Names.{list_name}
use Rattle.tv_base.specs.declared.error.TantivyError.TheVariants as errors
use Rattle.tv_base.specs.declared.open_errors.DeleteError.{DeleteError}
use Rattle.tv_base.specs.declared.open_errors.DeleteError.TheVariants as delete
use Rattle.tv_base.specs.declared.io.IoFault.{IoFault}
use Rattle.tv_device.specs.Calls.{DeleteFaults, Deletes, EndsWriters}
use Rattle.tv_device.specs.Images.{DeletesState, KeepsDisk, KeepsOtherStates}
use Rattle.tv_device.specs.View.{MayDelete}
use Rattle.tv_device.specs.ViewLaws.{kept_itself}
use Rattle.tv_device.specs.declared.directory.Directory.{Ghosts}
use Rattle.tv_managed.specs.Collecting.{ChangesNothing, OnlyDeletes, Steps, TriesName}
use Rattle.tv_managed.specs.Crashes.{TriesState}
use Rattle.tv_managed.specs.Names.{ManagedNames}
use Rattle.tv_managed.proofs.Giving.{deleted_stays}

-- ---- what reads, and the writers

-- it was there, and is gone
pub tries_done : {A D W C : Type 0} (g : Ghosts D W C) {old new : D × ManagedNames} {name : List ℕ} {x : A} → Deletes g.told (g.view old.0) (g.view new.0) name (Ok x) → EndsWriters g.told (g.view old.0) (g.view new.0) g.state_of name (Ok x) → DeleteFaults g.told (g.view old.0) (g.view new.0) name (Ok x)
    → TriesName g name old new true
tries_done g deletes ends faults = record {
  gone = λ tells is. (deletes.ok tells).1.changed;
  others = λ tells. (deletes.ok tells).1.others;
  same = λ tells no. absurd (true≢false no);
  done = λ is. faults.quiet;
  failed = λ no. absurd (true≢false no);
  alive = ends.others;
  kept = λ tells no. absurd (true≢false no);
  ended = λ tells is some. ends.lost tells;
  fits = faults.fits;
}

-- it wasn't there
pub tries_absent : {A D W C : Type 0} (g : Ghosts D W C) {old new : D × ManagedNames} {name : List ℕ} {e : DeleteError} {path : String Global} → e ≡ delete.FileDoesNotExist path → Deletes {A = A} g.told (g.view old.0) (g.view new.0) name (Err e) → EndsWriters {A = A} g.told (g.view old.0) (g.view new.0) g.state_of name (Err e)
    → DeleteFaults {A = A} g.told (g.view old.0) (g.view new.0) name (Err e) → TriesName g name old new true
tries_absent {A} g {old} {new = new} {name} is deletes ends refused =
    let faults = subst (λ x. DeleteFaults {A = A} g.told (g.view old.0) (g.view new.0) name (Err x)) is refused in
    record {
      gone = λ tells it. deletes.err tells name ∙ faults.cause.1.0 tells;
      others = λ tells n ne. deletes.err tells n;
      same = λ tells no. absurd (true≢false no);
      done = λ it. faults.cause.1.1;
      failed = λ no. absurd (true≢false no);
      alive = ends.others;
      kept = λ tells no. absurd (true≢false no);
      ended = λ tells it some. absurd (both_ways _ (ap is_some (faults.cause.1.0 tells)) some);
      fits = faults.fits;
    }

-- the device refused it
pub tries_refused : {A D W C : Type 0} (g : Ghosts D W C) {old new : D × ManagedNames} {name : List ℕ} {e : DeleteError} {fault : IoFault} {path : String Global} → e ≡ delete.IoError fault path → Deletes {A = A} g.told (g.view old.0) (g.view new.0) name (Err e) → EndsWriters {A = A} g.told (g.view old.0) (g.view new.0) g.state_of name (Err e)
    → DeleteFaults {A = A} g.told (g.view old.0) (g.view new.0) name (Err e) → TriesName g name old new false
tries_refused {A} g {old} {new = new} {name} is deletes ends refused =
    let faults = subst (λ x. DeleteFaults {A = A} g.told (g.view old.0) (g.view new.0) name (Err x)) is refused in
    record {
      gone = λ tells no. absurd (true≢false (sym no));
      others = λ tells n ne. deletes.err tells n;
      same = λ tells it. deletes.err tells;
      done = λ no. absurd (true≢false (sym no));
      failed = λ it. faults.cause.2;
      alive = ends.others;
      kept = λ tells it. ends.kept tells;
      ended = λ tells no. absurd (true≢false (sym no));
      fits = faults.fits;
    }

-- memory was wanted
pub changes_nothing : {A D W C : Type 0} (g : Ghosts D W C) {old new : D} {names : ManagedNames} {name : List ℕ} {e : DeleteError} → e ≡ delete.Memory → Deletes {A = A} g.told (g.view old) (g.view new) name (Err e) → EndsWriters {A = A} g.told (g.view old) (g.view new) g.state_of name (Err e)
    → DeleteFaults {A = A} g.told (g.view old) (g.view new) name (Err e) → MayDelete g.told (g.view old) (g.view new) → ChangesNothing g (old, names) (new, names)
changes_nothing {A} g {old} {new = new} {name = name} is deletes ends refused frame =
    let faults = subst (λ x. DeleteFaults {A = A} g.told (g.view old) (g.view new) name (Err x)) is refused in
    record {
      frame = record {
        names = refl;
        below = record {
          kept = record {
            frame = record { tells_none = record { deletes_none = record { goes_on = frame.goes_on; refusals = faults.cause; alive = ends.kept }; heard = frame.heard; room = frame.room }; locks = frame.locks };
            watched = frame.watched;
          };
          content = deletes.err;
        };
      };
      faults = faults.faults;
    }

pub changes_none : {D W C : Type 0} (g : Ghosts D W C) (old : D × ManagedNames) → ChangesNothing g old old
changes_none g old = record { frame = record { names = refl; below = record { kept = kept_itself g.told (g.view old.0); content = λ tells n. refl } }; faults = refl }

pub steps_wanted : {D W C : Type 0} (g : Ghosts D W C) (number : ℕ) {old new : D × ManagedNames} → ChangesNothing g old new → Steps g number old new (Err errors.Memory)
steps_wanted g number nothing = record { ok = λ next. tt; memory = refl; err = nothing }

-- whatever it answers, the list reads what it read
list_stays : {A D W C : Type 0} (g : Ghosts D W C) {old new : D} {name : List ℕ} (result : Result A DeleteError) → name ≢ list_name → Deletes g.told (g.view old) (g.view new) name result → g.told.content → (g.view new).reads list_name ≡ (g.view old).reads list_name
list_stays g (Ok x) other deletes tells = (deletes.ok tells).1.others list_name (λ e. other (sym e))
list_stays g (Err e) other deletes tells = deletes.err tells list_name

pub only_deletes : {A D W C : Type 0} (g : Ghosts D W C) {old new : D × ManagedNames} {name : List ℕ} (result : Result A DeleteError) → name ≢ list_name → Deletes g.told (g.view old.0) (g.view new.0) name result → DeleteFaults g.told (g.view old.0) (g.view new.0) name result
    → MayDelete g.told (g.view old.0) (g.view new.0) → OnlyDeletes g old new
only_deletes g result other deletes faults frame = record { list = λ tells. list_stays g result other deletes tells; faults = faults.faults; frame = frame }

-- ---- what a crash may leave

-- no other name is touched
others_deleted : {A : Type 0} {old new : Disk} {name : List ℕ} (result : Result A DeleteError) → DeletesState old new name result → KeepsOtherStates old new name
others_deleted (Ok x) deletes n ne = deletes.ok.1.others n ne
others_deleted (Err (delete.FileDoesNotExist path)) deletes n ne = deletes.err.1.1.now n
others_deleted (Err (delete.IoError fault path)) deletes n ne = deletes.err.2.now n
others_deleted (Err delete.Memory) deletes n ne = deletes.err.now n

state_tried : {A E : Type 0} {old new : Disk} {name : List ℕ} (result : Result A DeleteError) (told : Result Bool E) → DeletesState old new name result → IfOk told (λ is_gone. is_gone ≡ true → new.now name ≡ Absent)
    → IfOk told (λ is_gone. is_gone ≡ false → KeepsDisk old new) → OnErr told (KeepsDisk old new) → TriesState old new name told
state_tried {old = old} {new = new} {name = name} result told deletes gone refused err = record {
  gone = gone;
  refused = refused;
  err = err;
  stays = deleted_stays result old new name deletes;
  others = others_deleted result deletes;
  no_more = deletes.no_more;
  time = deletes.time;
}

pub state_done : {A E : Type 0} {old new : Disk} {name : List ℕ} {x : A} → DeletesState old new name (Ok x) → TriesState {E = E} old new name (Ok true)
state_done {x = x} deletes = state_tried (Ok x) (Ok true) deletes (λ it. deletes.ok.1.now) (λ no. absurd (true≢false no)) tt

pub state_absent : {A E : Type 0} {old new : Disk} {name : List ℕ} {e : DeleteError} {path : String Global} → e ≡ delete.FileDoesNotExist path → DeletesState {A = A} old new name (Err e) → TriesState {E = E} old new name (Ok true)
state_absent {A} {old = old} {new = new} {name = name} {path = path} is refused =
    let deletes = subst (λ x. DeletesState {A = A} old new name (Err x)) is refused in
    state_tried (Err (delete.FileDoesNotExist path)) (Ok true) deletes (λ it. deletes.err.1.1.now name ∙ deletes.err.1.0) (λ no. absurd (true≢false no)) tt

pub state_refused : {A E : Type 0} {old new : Disk} {name : List ℕ} {e : DeleteError} {fault : IoFault} {path : String Global} → e ≡ delete.IoError fault path → DeletesState {A = A} old new name (Err e) → TriesState {E = E} old new name (Ok false)
state_refused {A} {old = old} {new = new} {name = name} {fault = fault} {path = path} is refused =
    let deletes = subst (λ x. DeletesState {A = A} old new name (Err x)) is refused in
    state_tried (Err (delete.IoError fault path)) (Ok false) deletes (λ no. absurd (true≢false (sym no))) (λ it. record { states = deletes.err.2; time = deletes.time }) tt

pub state_wanted : {A E : Type 0} {old new : Disk} {name : List ℕ} {e : DeleteError} (f : E) → e ≡ delete.Memory → DeletesState {A = A} old new name (Err e) → TriesState old new name (Err f)
state_wanted {A} {old = old} {new = new} {name = name} f is refused =
    let deletes = subst (λ x. DeletesState {A = A} old new name (Err x)) is refused in
    state_tried (Err delete.Memory) (Err f) deletes tt tt (record { states = deletes.err; time = deletes.time })
