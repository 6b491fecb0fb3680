-- What is written, listed and sealed, put together from the steps of a call.
use Rattle.std.proofs.Common.{◌≡◌, ◌≢◌, ◌++◌, ◌⊎◌, ⊎_elim, inl, inr, ℕ, List, refl, sym, ap, subst, ◌∙◌, Some, Result, Ok, Err}
use Rattle.std.specs.Prelude.{IfErr, OnOk}
use Rattle.tv_formats.specs.Files.{MaySet, Reads, Rose, Same, Sets}
use Rattle.tv_formats.specs.Names.{list_name}
use Rattle.tv_base.specs.Causes.{IoCause}
use Rattle.tv_base.specs.declared.io.IoError.{IoError}
use Rattle.tv_base.specs.declared.io.IoError.TheVariants as io
use Rattle.tv_checksum.specs.Crc32.{HasTaken}
use Rattle.tv_checksum.specs.declared.crc32.Crc32.{Crc32}
use Rattle.tv_device.specs.Calls.{Appends, Gives, HandsBack, IoFaults, Notes, Touches}
use Rattle.tv_device.specs.View.{Frame, Kept, View, WriterState}
use Rattle.tv_device.specs.ViewLaws.{frame_then, kept_itself}
use Rattle.tv_device.specs.Watch.{MayNote, WatchState, noted}
use Rattle.tv_device.specs.declared.directory.Directory.{Ghosts}
use Rattle.tv_managed.specs.Frames.{KeepsNames, KeptButNotes}
use Rattle.tv_managed.specs.Managed.{GivesFile, HasListed, SealsBody}
use Rattle.tv_managed.specs.Names.{ManagedNames}
use Rattle.tv_managed.specs.Writers.{HandsOn}
use Rattle.tv_managed.specs.declared.writer.ManagedWriter.{ManagedWriter}
use Rattle.tv_managed.proofs.Making.{others_written}

-- ---- why a call failed

pub io_none : {A W : Type 0} (view : View W) → IoFaults {A = A} view view (Err io.Memory)
io_none view = record { quiet = tt; cause = refl }

-- the last step's error is handed on
pub io_on : {A B D W C : Type 0} (g : Ghosts D W C) {inside old : D × ManagedNames} {new : D} {e : IoError} → inside ≡ old → IoFaults {A = A} (g.view inside.0) (g.view new) (Err e) → IoFaults {A = B} (g.view old.0) (g.view new) (Err e)
io_on {B = B} g {new = new} {e} same faults = subst (λ v. IoFaults {A = B} (g.view v.0) (g.view new) (Err e)) same (record { quiet = tt; cause = faults.cause })

io_more : (old mid new : ℕ) (e : IoError) → mid ≡ old → IoCause (Rose mid new) (new ≡ mid) e → IoCause (Rose old new) (new ≡ old) e
io_more old mid new (io.Fault fault) same h = (h.0, subst (λ n. Rose n new) same h.1)
io_more old mid new io.Memory same h = h ∙ same

-- a step that was quiet, and another
pub io_then : {A W : Type 0} {old mid new : View W} (result : Result A IoError) → mid.faults ≡ old.faults → IoFaults mid new result → IoFaults old new result
io_then (Ok x) same faults = record { quiet = faults.quiet ∙ same; cause = tt }
io_then {old = old} {mid = mid} {new = new} (Err e) same faults = record { quiet = tt; cause = io_more old.faults mid.faults new.faults e same faults.cause }

-- ---- what a call leaves alone

pub names_kept : {D W C : Type 0} (g : Ghosts D W C) {keeps : View W → View W → Type 0} {inside old : D × ManagedNames} {new : D} → inside ≡ old → keeps (g.view inside.0) (g.view new) → KeepsNames keeps g.view old (new, inside.1)
names_kept g {keeps} {inside} {new = new} same kept = subst (λ v. KeepsNames keeps g.view v (new, inside.1)) same (record { names = refl; below = kept })

-- ---- a name that is listed

pub listed_none : {A E D W C : Type 0} (g : Ghosts D W C) (old : D × ManagedNames) (name : List ℕ) (e : E) → HasListed {A = A} g old old name (Err e)
listed_none g old name e = record {
  saves = record { list = λ tells was. tt; covers = λ tells was. was };
  on_list = λ tells was free undotted. tt;
  names = tt;
  kept = refl;
  unsaved = λ tells put. refl;
  others = λ tells n ne. refl;
  frame = kept_itself g.told (g.view old.0);
}

pub listed_ok : {A B E F D W C : Type 0} (g : Ghosts D W C) {old new : D × ManagedNames} {name : List ℕ} {x : A} (y : B) → HasListed {E = E} g old new name (Ok x) → HasListed {E = F} g old new name (Ok y)
listed_ok g y h = record { saves = record { list = h.saves.list; covers = h.saves.covers }; on_list = h.on_list; names = h.names; kept = tt; unsaved = h.unsaved; others = h.others; frame = h.frame }

pub listed_err : {A B E F D W C : Type 0} (g : Ghosts D W C) {old new : D × ManagedNames} {name : List ℕ} {e : E} (f : F) → HasListed {A = A} g old new name (Err e) → HasListed {A = B} g old new name (Err f)
listed_err g f h = record { saves = record { list = λ tells was. tt; covers = h.saves.covers }; on_list = λ tells was free undotted. tt; names = tt; kept = h.kept; unsaved = h.unsaved; others = h.others; frame = h.frame }

-- ---- a writer that writes

-- it wrote nothing, or it isn't known what
still_summed : {W D C : Type 0} (state_of : W → WriterState) (w : ManagedWriter D W C) (after : W) (e : IoError) → IoCause (Unit {0}) ((state_of after).written ≡ (state_of w.writer).written) e
    → IoCause (Unit {0}) (HasTaken w.checksum (state_of w.writer).written → HasTaken w.checksum (state_of after).written) e
still_summed state_of w after (io.Fault fault) h = h
still_summed state_of w after io.Memory h = λ summed. subst (HasTaken w.checksum) (sym h) summed

pub hands_on_refused : {A B D W C : Type 0} (g : Ghosts D W C) {inside old : D × ManagedNames} {new : D} {w : ManagedWriter D W C} {after : W} {bytes : List ℕ} {e : IoError} → inside ≡ old → HandsBack {A = A} g.told (g.view inside.0) (g.view new) w.writer after (Err e)
    → Appends {A = A} (g.state_of w.writer) (g.state_of after) bytes (Err e) → HandsOn {A = B} g old.0 new w (record { writer = after; checksum = w.checksum }) (Err e)
hands_on_refused {B = B} g {new = new} {w} {after} {e = e} same back appends = subst (λ v. HandsOn {A = B} g v.0 new w (record { writer = after; checksum = w.checksum }) (Err e)) same (record {
  hands_back = record { ok = tt; memory = back.memory; lives = back.lives };
  summed = tt;
  memory = still_summed g.state_of w after e appends.memory;
})

pub hands_on_written : {A B D W C : Type 0} (g : Ghosts D W C) {inside old : D × ManagedNames} {new : D} {w : ManagedWriter D W C} {after : W} {sum : Crc32} {bytes : List ℕ} {x : A} (y : B) → inside ≡ old → HandsBack g.told (g.view inside.0) (g.view new) w.writer after (Ok x)
    → Appends (g.state_of w.writer) (g.state_of after) bytes (Ok x) → ((taken : List ℕ) → HasTaken w.checksum taken → HasTaken sum (taken ++ bytes)) → HandsOn g old.0 new w (record { writer = after; checksum = sum }) (Ok y)
hands_on_written g {new = new} {w} {after} {sum} y same back appends updates = subst (λ v. HandsOn g v.0 new w (record { writer = after; checksum = sum }) (Ok y)) same (record {
  hands_back = record { ok = back.ok; memory = tt; lives = back.lives };
  summed = λ summed. subst (HasTaken sum) (sym appends.ok) (updates (g.state_of w.writer).written summed);
  memory = tt;
})

pub appends_on : {A B : Type 0} {old new : WriterState} {bytes : List ℕ} {e : IoError} → Appends {A = A} old new bytes (Err e) → Appends {A = B} old new bytes (Err e)
appends_on appends = record { name = appends.name; ok = tt; memory = appends.memory }

-- ---- a file that isn't sealed

pub seals_none : {A D W C : Type 0} (g : Ghosts D W C) (directory : D) (w : ManagedWriter D W C) (e : IoError) → SealsBody {A = A} g directory directory w (Err e)
seals_none g directory w e = record {
  ok = λ tells lives summed. tt;
  body = λ tells lives summed. tt;
  others = λ tells n ne. refl;
  there = λ tells lives some. some;
  gone = λ tells dead n. refl;
}

pub seals_unwritten : {A D W C : Type 0} (g : Ghosts D W C) {inside old : D × ManagedNames} {new : D} {w : ManagedWriter D W C} (e : IoError) → inside ≡ old → Touches g.told (g.view inside.0) (g.view new) g.state_of w.writer → SealsBody {A = A} g old.0 new w (Err e)
seals_unwritten {A} g {new = new} {w} e same touches = subst (λ v. SealsBody {A = A} g v.0 new w (Err e)) same (record {
  ok = λ tells lives summed. tt;
  body = λ tells lives summed. tt;
  others = touches.others;
  there = λ tells lives some. touches.there tells lives;
  gone = touches.gone;
})

-- ---- a file that is given its bytes

cause_listed : (given same refused quiet : Type 0) (e : IoError) → IoCause refused quiet e → same → IoCause (given ⊎ same) same e
cause_listed given same refused quiet (io.Fault fault) h s = (h.0, inr s)
cause_listed given same refused quiet io.Memory h s = s

-- it was to be listed
pub gives_listed : {A B D W C : Type 0} (g : Ghosts D W C) {old new : D × ManagedNames} {name bytes : List ℕ} {e : IoError} → name ≢ list_name → HasListed {A = A} g old new name (Err e) → IoFaults {A = A} (g.view old.0) (g.view new.0) (Err e) → GivesFile {A = B} g old.0 new.0 name bytes (Err e)
gives_listed g {name = name} {e = e} other lists faults = record {
  ok = λ tells. tt;
  err = λ tells. cause_listed _ _ _ _ e faults.cause (lists.others tells name other);
  others = λ tells n ne isnt. lists.others tells n isnt;
}

cause_given : (name bytes : List ℕ) (old mid new : Reads) (e : IoError) → mid name ≡ old name → IoCause (MaySet mid new name (Some bytes)) (Same mid new) e → IoCause ((new name ≡ Some bytes) ⊎ (new name ≡ old name)) (new name ≡ old name) e
cause_given name bytes old mid new (io.Fault fault) was h = (h.0, ⊎_elim (λ set. inl set) (λ kept. inr (kept ∙ was)) h.1.either)
cause_given name bytes old mid new io.Memory was h = h name ∙ was

err_given : {A : Type 0} (name bytes : List ℕ) (old mid new : Reads) (result : Result A IoError) → mid name ≡ old name → IfErr result (IoCause (MaySet mid new name (Some bytes)) (Same mid new)) → IfErr result (IoCause ((new name ≡ Some bytes) ⊎ (new name ≡ old name)) (new name ≡ old name))
err_given name bytes old mid new (Ok x) was h = tt
err_given name bytes old mid new (Err e) was h = cause_given name bytes old mid new e was h

ok_given : {A : Type 0} (name bytes : List ℕ) (mid new : Reads) (result : Result A IoError) → OnOk result (Sets mid new name (Some bytes)) → OnOk result (new name ≡ Some bytes)
ok_given name bytes mid new (Ok x) sets = sets.changed
ok_given name bytes mid new (Err e) sets = tt

-- it was listed, and then written
pub gives_written : {A B E D W C : Type 0} (g : Ghosts D W C) {old listed inside : D × ManagedNames} {new : D} {name bytes : List ℕ} {x : B} (result : Result A IoError) → name ≢ list_name → HasListed {E = E} g old listed name (Ok x) → inside ≡ listed → Gives g.told (g.view inside.0) (g.view new) name bytes result
    → GivesFile g old.0 new name bytes result
gives_written g {old} {listed} {new = new} {name} {bytes} result other lists same given =
    let gives = subst (λ v. Gives g.told (g.view v.0) (g.view new) name bytes result) same given in
    record {
      ok = λ tells. ok_given name bytes (g.view listed.0).reads (g.view new).reads result (gives.ok tells);
      err = λ tells. err_given name bytes (g.view old.0).reads (g.view listed.0).reads (g.view new).reads result (lists.others tells name other) (gives.err tells);
      others = λ tells n ne isnt. others_written result (g.view listed.0).reads (g.view new).reads name _ (gives.ok tells) (gives.err tells) n ne ∙ lists.others tells n isnt;
    }

-- notices

note_none : (old new : WatchState) (refused quiet : Type 0) (name : List ℕ) (e : IoError) → IoCause refused quiet e → new ≡ old → IoCause (MayNote name old new) (new ≡ old) e
note_none old new refused quiet name (io.Fault fault) h same = (h.0, inl same)
note_none old new refused quiet name io.Memory h same = same

pub notes_listed : {A B D W C : Type 0} (g : Ghosts D W C) (old new : D × ManagedNames) {name : List ℕ} {e : IoError} → Kept g.told (g.view old.0) (g.view new.0) → IoFaults {A = A} (g.view old.0) (g.view new.0) (Err e) → KeptButNotes {A = B} g.told (g.view old.0) (g.view new.0) name (Err e)
notes_listed g old new {name = name} {e} kept faults = record { frame = kept.frame; notes = record { ok = tt; err = note_none _ _ _ _ name e faults.cause kept.watched } }

note_on : (old mid new : WatchState) (name : List ℕ) (e : IoError) → mid ≡ old → IoCause (MayNote name mid new) (new ≡ mid) e → IoCause (MayNote name old new) (new ≡ old) e
note_on old mid new name (io.Fault fault) same h = (h.0, ⊎_elim (λ still. inl (still ∙ same)) (λ it. inr (it ∙ ap (noted name) same)) h.1)
note_on old mid new name io.Memory same h = h ∙ same

notes_on : {A W : Type 0} {old mid new : View W} {name : List ℕ} (result : Result A IoError) → mid.watched ≡ old.watched → Notes mid new name result → Notes old new name result
notes_on {name = name} (Ok x) same notes = record { ok = notes.ok ∙ ap (noted name) same; err = tt }
notes_on {name = name} (Err e) same notes = record { ok = tt; err = note_on _ _ _ name e same notes.err }

pub notes_written : {A D W C : Type 0} (g : Ghosts D W C) (old : D × ManagedNames) {listed inside : D × ManagedNames} {new : D} {name : List ℕ} (result : Result A IoError) → Kept g.told (g.view old.0) (g.view listed.0) → inside ≡ listed → Frame g.told (g.view inside.0) (g.view new) → Notes (g.view inside.0) (g.view new) name result
    → KeptButNotes g.told (g.view old.0) (g.view new) name result
notes_written g old {new = new} {name} result kept same frame notes = record {
  frame = frame_then kept.frame (subst (λ v. Frame g.told (g.view v.0) (g.view new)) same frame);
  notes = notes_on result kept.watched (subst (λ v. Notes (g.view v.0) (g.view new) name result) same notes);
}
