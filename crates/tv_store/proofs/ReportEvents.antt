-- The event that reports on files: whether a file is intact, by what the directory answers and by what is held, and which files are looked at.
use Rattle.std.proofs.Common.{◌≡◌, ◌≢◌, inl, inr, ℕ, Bool, true, false, true≢false, List, Option, Some, None, is_some, refl, sym, ap, ◌∙◌, Ok, Err, ◌⊎◌}
use Rattle.std.specs.Prelude.{option_and_then, Result, IfOk, OnOk}
use Rattle.tv_base.specs.Causes.{IsDevice}
use Rattle.tv_base.specs.declared.error.TantivyError.{TantivyError}
use Rattle.tv_base.specs.declared.io.IoFault.{IoFault}
use Rattle.tv_base.specs.declared.io.IoKind.TheVariants.{Device}
use Rattle.tv_managed.specs.Reading.{HasNoFooter, ReadsSuch, TellsChecksum}
use Rattle.tv_formats.specs.Files.{Reads}
use Rattle.tv_formats.specs.Framing.{is_intact}
use Rattle.tv_machine.specs.Index.{IsFileOf}
use Rattle.tv_formats.specs.Names.{has, at}
use Rattle.tv_machine.specs.ReportEvents.{intact_at}
use Rattle.tv_machine.specs.State.{State, FileState, SealedFile, Open, Left, file_at}
use Rattle.tv_formats.proofs.Framing.{intact_again, intact_none}
use Rattle.tv_store.specs.FileCalls.{intact_in}
use Rattle.tv_catalog.specs.Kept.{KeptState}
use Rattle.tv_store.specs.Kept.{FileHolds, Holds, is_left}

-- ---- by what the directory answers

-- the checksum in the footer is compared
pub tells_intact : (was : Option (List ℕ)) (is_right : Bool) → ReadsSuch was (λ bytes. TellsChecksum bytes is_right) → Some is_right ≡ option_and_then is_intact was
tells_intact was is_right h =
    let says = h.2 in
    ap (λ (b : Bool). Some b) says.says ∙ sym (intact_again h.0 says.footer says.body says.framed) ∙ ap (option_and_then is_intact) (sym h.1)

-- it has no footer
pub bad_intact : (was : Option (List ℕ)) → ReadsSuch was HasNoFooter → None ≡ option_and_then is_intact was
bad_intact was h = sym (ap (option_and_then is_intact) h.1 ∙ intact_none h.0 h.2)

absent : (written : Option (List ℕ)) → is_some written ≡ false → written ≡ None
absent None e = refl
absent (Some body) e = absurd (true≢false e)

-- seen from the directory's value, of a file that isn't open and wasn't left
pub intact_answer : {S : Type 0} (reads : S → Reads) (inside old : S) (asked name : List ℕ) (written : Option (List ℕ)) (left : Bool) (found : Option Bool)
    → inside ≡ old → asked ≡ name → found ≡ option_and_then is_intact (reads inside asked) → is_some written ≡ false → left ≡ false → found ≡ intact_in (reads old name) written left
intact_answer {S} reads inside old asked name written left found same text answer none stays =
    answer ∙ ap (λ (s : S). option_and_then is_intact (reads s asked)) same ∙ ap (λ (n : List ℕ). option_and_then is_intact (reads old n)) text ∙ sym (rw (absent written none, stays) refl)

-- where nothing was found but a device that refused the call
pub fault_intact : {S : Type 0} (reads : S → Reads) (inside old : S) (asked name : List ℕ) (written : Option (List ℕ)) (left : Bool) (fault : IoFault) (result : Result (Option Bool) TantivyError)
    → IfOk result (λ found. found ≡ None) → OnOk result (fault.kind ≢ Device) → inside ≡ old → asked ≡ name → (IsDevice fault × Unit {0}) ⊎ ReadsSuch (reads inside asked) HasNoFooter → is_some written ≡ false → left ≡ false
    → IfOk result (λ found. found ≡ intact_in (reads old name) written left)
fault_intact reads inside old asked name written left fault (Err e) nothing other same text why none stays = tt
fault_intact reads inside old asked name written left fault (Ok found) nothing other same text (inl device) none stays = absurd (other device.0)
fault_intact reads inside old asked name written left fault (Ok found) nothing other same text (inr bad) none stays =
    nothing ∙ intact_answer reads inside old asked name written left None same text (bad_intact (reads inside asked) bad) none stays

-- nothing is said of an open file, and of one that was left
pub open_intact : (read written : Option (List ℕ)) (left : Bool) → is_some written ≡ true → None ≡ intact_in read written left
open_intact read None left h = absurd (true≢false (sym h))
open_intact read (Some body) left h = refl

pub left_intact : (read written : Option (List ℕ)) (left : Bool) → left ≡ true → None ≡ intact_in read written left
left_intact read None left h = rw h refl
left_intact read (Some body) left h = refl

-- ---- by what is held

intact_held : (file : Option FileState) (read written : Option (List ℕ)) → FileHolds file read written → intact_in read written (is_left file) ≡ intact_at file
intact_held None read written h = rw (h.0, h.1) refl
intact_held (Some (SealedFile bytes)) read written h = rw (h.0, h.1) refl
intact_held (Some (Open body)) read written h = rw h.1 refl
intact_held (Some Left) read written h = rw h.1 refl

pub held_intact : (reads : Reads) (kept : KeptState) (s : State) (name : List ℕ) → Holds reads kept s → IsFileOf name → intact_in (reads name) (at kept.open_files name) (has kept.left name) ≡ intact_at (file_at s name)
held_intact reads kept s name h file = ap (intact_in (reads name) (at kept.open_files name)) (h.left name file) ∙ intact_held (file_at s name) (reads name) (at kept.open_files name) (h.files name file)
