-- What a save of the list does, put together from its write and the sync behind it.
use Rattle.std.proofs.Common.{◌≡◌, ℕ, List, refl, subst, ◌∙◌, ⊎_elim, inl, inr, Some, Ok, Err}
use Rattle.tv_formats.specs.Disk.{Disk, Sealed, Within, possible_now}
use Rattle.tv_formats.specs.Files.{Reads, MaySet, Same, Rose}
use Rattle.tv_formats.specs.Listing.{list_text}
use Rattle.tv_formats.specs.Names.{list_name}
use Rattle.tv_base.specs.Causes.{IoCause, IsDevice}
use Rattle.tv_base.specs.declared.io.IoError.{IoError}
use Rattle.tv_base.specs.declared.io.IoError.TheVariants as io
use Rattle.tv_base.specs.declared.io.IoFault.{IoFault}
use Rattle.tv_device.specs.Calls.{DeviceFaults, Gives, IoFaults, Notes}
use Rattle.tv_device.specs.Images.{GivesState, Settles}
use Rattle.tv_device.specs.View.{Frame, OnlyReads}
use Rattle.tv_device.specs.ViewLaws.{kept_itself, kept_then}
use Rattle.tv_device.specs.Watch.{MayNote, WatchState}
use Rattle.tv_device.specs.declared.directory.Directory.{Ghosts}
use Rattle.tv_device.specs.TouchLaws.{others_given}
use Rattle.tv_managed.specs.Crashes.{SavesText}
use Rattle.tv_managed.specs.Managed.{SavesNames}
use Rattle.tv_managed.proofs.Touching.{adds_run, gained_one, gained_same, gained_then, gained_within}

-- ---- what reads

-- there was no memory for its text
pub saves_none : {A D W C : Type 0} (g : Ghosts D W C) (directory : D) (names : List (List ℕ)) → SavesNames {A = A} g directory directory names (Err io.Memory)
saves_none g directory names = record {
  ok = λ tells. tt;
  err = λ tells. record { either = inr refl; others = λ n ne. refl };
  memory = λ tells. refl;
  faults = record { quiet = tt; cause = refl };
  frame = kept_itself g.told (g.view directory);
}

may_set : {name : List ℕ} {old new : Reads} {bytes : List ℕ} (e : IoError) → IoCause (MaySet old new name (Some bytes)) (Same old new) e → MaySet old new name (Some bytes)
may_set (io.Fault fault) h = h.1
may_set {name} io.Memory h = record { either = inr (h name); others = λ n ne. h n }

wanted : (P : Type 0) (name : List ℕ) (old new : Reads) (e : IoError) → IoCause P (Same old new) e → IoCause (Unit {0}) (new name ≡ old name) e
wanted P name old new (io.Fault fault) h = (h.0, tt)
wanted P name old new io.Memory h = h name

-- of the list no notice stands
unnoted : {old new : WatchState} (e : IoError) → IoCause (MayNote list_name old new) (new ≡ old) e → new ≡ old
unnoted (io.Fault fault) h = ⊎_elim (λ same. same) (λ noted. noted) h.1
unnoted io.Memory h = h

-- it wasn't written, or may have been
pub saves_refused : {A B D W C : Type 0} (g : Ghosts D W C) {old new : D} {names : List (List ℕ)} {bytes : List ℕ} {e : IoError} → bytes ≡ list_text names → Gives {A = A} g.told (g.view old) (g.view new) list_name bytes (Err e) → Notes {A = A} (g.view old) (g.view new) list_name (Err e) → IoFaults {A = A} (g.view old) (g.view new) (Err e)
    → Frame g.told (g.view old) (g.view new) → SavesNames {A = B} g old new names (Err e)
saves_refused {A} g {old} {new} {names} {e = e} text written notes faults frame =
    let gives = subst (λ b. Gives {A = A} g.told (g.view old) (g.view new) list_name b (Err e)) text written in
    record {
      ok = λ tells. tt;
      err = λ tells. may_set e (gives.err tells);
      memory = λ tells. wanted _ list_name _ _ e (gives.err tells);
      faults = record { quiet = tt; cause = faults.cause };
      frame = record { frame = frame; watched = unnoted e notes.err };
    }

-- it was written, and the sync was refused
pub saves_unsynced : {A B E D W C : Type 0} (g : Ghosts D W C) {old mid new : D} {names : List (List ℕ)} {bytes : List ℕ} {x : A} {fault : IoFault} → bytes ≡ list_text names → Gives g.told (g.view old) (g.view mid) list_name bytes (Ok x) → Notes (g.view old) (g.view mid) list_name (Ok x) → IoFaults (g.view old) (g.view mid) (Ok x)
    → Frame g.told (g.view old) (g.view mid) → DeviceFaults {A = B} (g.view mid) (g.view new) (Err fault) → OnlyReads g.told (g.view mid) (g.view new) → SavesNames {A = E} g old new names (Err (io.Fault fault))
saves_unsynced g {old} {mid} {new} {names} {x = x} text written notes faults frame sync reads =
    let gives = subst (λ b. Gives g.told (g.view old) (g.view mid) list_name b (Ok x)) text written in
    record {
      ok = λ tells. tt;
      err = λ tells. record { either = inl (reads.content tells list_name ∙ (gives.ok tells).changed); others = λ n ne. reads.content tells n ∙ (gives.ok tells).others n ne };
      memory = λ tells. (sync.cause.0, tt);
      faults = record { quiet = tt; cause = (sync.cause.0, subst (λ n. Rose n (g.view new).faults) faults.quiet sync.cause.1) };
      frame = kept_then (record { frame = frame; watched = notes.ok }) reads.kept;
    }

pub saves_synced : {A B E D W C : Type 0} (g : Ghosts D W C) {old mid new : D} {names : List (List ℕ)} {bytes : List ℕ} {x : A} {y : B} (z : E) → bytes ≡ list_text names → Gives g.told (g.view old) (g.view mid) list_name bytes (Ok x) → Notes (g.view old) (g.view mid) list_name (Ok x) → IoFaults (g.view old) (g.view mid) (Ok x)
    → Frame g.told (g.view old) (g.view mid) → DeviceFaults (g.view mid) (g.view new) (Ok y) → OnlyReads g.told (g.view mid) (g.view new) → SavesNames g old new names (Ok z)
saves_synced g {old} {mid} {new} {names} {x = x} z text written notes faults frame sync reads =
    let gives = subst (λ b. Gives g.told (g.view old) (g.view mid) list_name b (Ok x)) text written in
    record {
      ok = λ tells. record { changed = reads.content tells list_name ∙ (gives.ok tells).changed; others = λ n ne. reads.content tells n ∙ (gives.ok tells).others n ne };
      err = λ tells. record { either = inl (reads.content tells list_name ∙ (gives.ok tells).changed); others = λ n ne. reads.content tells n ∙ (gives.ok tells).others n ne };
      memory = λ tells. tt;
      faults = record { quiet = sync.quiet ∙ faults.quiet; cause = tt };
      frame = kept_then (record { frame = frame; watched = notes.ok }) reads.kept;
    }

-- ---- what a crash may leave

pub text_none : {A : Type 0} (disk : Disk) (text : List ℕ) → SavesText {A = A} disk disk text (Err io.Memory)
text_none disk text = record { moments = adds_run (gained_same _ disk); others = λ n ne. refl; ok = tt; memory = record { each = λ n s is. is } }

fewer : {A : Type 0} {old new : Disk} {name text : List ℕ} (e : IoError) → GivesState {A = A} old new name (Sealed text) (Err e) → IoCause (Unit {0}) (Within (possible_now old) (possible_now new)) e
fewer (io.Fault fault) gives = (gives.err.0, tt)
fewer io.Memory gives = gives.err.possible.no_more

pub text_refused : {A B : Type 0} {old new : Disk} {bytes text : List ℕ} {e : IoError} → bytes ≡ text → GivesState {A = A} old new list_name (Sealed bytes) (Err e) → SavesText {A = B} old new text (Err e)
text_refused {A} {old = old} {new} {e = e} same written =
    let gives = subst (λ b. GivesState {A = A} old new list_name (Sealed b) (Err e)) same written in
    record { moments = adds_run (gained_one gives.time gives.no_more); others = others_given (Err e) gives; ok = tt; memory = fewer e gives }

pub text_unsynced : {A B E : Type 0} {old mid new : Disk} {bytes text : List ℕ} {x : A} {fault : IoFault} → bytes ≡ text → GivesState old mid list_name (Sealed bytes) (Ok x) → Settles {A = B} mid new (Err fault) → IsDevice fault → SavesText {A = E} old new text (Err (io.Fault fault))
text_unsynced {old = old} {mid} {x = x} same written settles device =
    let gives = subst (λ b. GivesState old mid list_name (Sealed b) (Ok x)) same written in
    record {
      moments = adds_run (gained_then (gained_one gives.time gives.no_more) (gained_within _ settles.time settles.no_more));
      others = λ n ne. settles.now n ∙ gives.ok.others n ne;
      ok = tt;
      memory = (device, tt);
    }

pub text_synced : {A B E F : Type 0} {old mid new : Disk} {bytes text : List ℕ} {x : A} {y : B} (z : E) → bytes ≡ text → GivesState old mid list_name (Sealed bytes) (Ok x) → Settles {E = F} mid new (Ok y) → SavesText old new text (Ok z)
text_synced {old = old} {mid} {x = x} z same written settles =
    let gives = subst (λ b. GivesState old mid list_name (Sealed b) (Ok x)) same written in
    record {
      moments = adds_run (gained_then (gained_one gives.time gives.no_more) (gained_within _ settles.time settles.no_more));
      others = λ n ne. settles.now n ∙ gives.ok.others n ne;
      ok = λ l is. settles.ok.each list_name l is ∙ settles.now list_name ∙ gives.ok.now;
      memory = tt;
    }
