-- The end of a collection, which saves a shorter list.
use Rattle.std.proofs.Common.{rules, ◌≡◌, ℕ, true, false, true≢false, not, List, [], ◌∷◌, map, refl, sym, ap, subst, ◌∙◌, ⊎_elim, inl, inr, Result, Ok, String, Global, string_bytes}
use borrow.Table.Steps.{cases}
use Rattle.std.specs.Prelude.{OnOk, OnErr}
use Rattle.std.specs.List.{AllZip}
use Rattle.std.proofs.lemmas.Result.{on_ok_weaker}
use Rattle.tv_formats.specs.Names.{has, list_name}
use Rattle.tv_formats.specs.Collections.{without}
use Rattle.tv_formats.specs.Listing.{IsListOf, list_text}
use Rattle.tv_formats.proofs.CollectedNames.{has_without}
use Rattle.tv_formats.proofs.PlainNames.{both}
use Rattle.tv_base.specs.declared.io.IoError.{IoError}
use Rattle.tv_device.specs.View.{OnlyReads}
use Rattle.tv_device.specs.declared.directory.Directory.{Ghosts}
use Rattle.tv_managed.specs.Collecting.{Shortens}
use Rattle.tv_managed.specs.Crashes.{SavesText}
use Rattle.tv_managed.specs.Frames.{KeepsNames}
use Rattle.tv_managed.specs.Managed.{SavesNames}
use Rattle.tv_managed.specs.Names.{ManagedNames}
use Rattle.tv_managed.proofs.Removals.{without_none}

-- the shorter list was saved, or may have been
pub shortens : {A D W C : Type 0} (g : Ghosts D W C) (left : List (List ℕ)) (old mid new : D × ManagedNames) (inside : D) (result : Result A IoError)
    → KeepsNames (OnlyReads g.told) g.view old mid → (g.view mid.0).faults ≡ (g.view old.0).faults → inside ≡ mid.0 → SavesNames g inside new.0 left result
    → IsListOf (list_text left) left → OnOk result (new.1 ≡ record old.1 { managed = left }) → OnErr result (new.1 ≡ old.1) → Shortens g left old new result
shortens g left old mid new inside result k quiet within saved listed ok err =
    let saves : SavesNames g mid.0 new.0 left result = subst (λ d. SavesNames g d new.0 left result) within saved in
    record {
      ok = ok;
      err = err;
      lists = λ tells was. on_ok_weaker result (λ saved. rw saved.changed listed) (saves.ok tells);
      either = λ tells. ⊎_elim (λ saved. inl (rw saved listed)) (λ kept. inr (kept ∙ k.below.content tells list_name)) (saves.err tells).either;
      others = λ tells n ne. (saves.err tells).others n ne ∙ k.below.content tells n;
      faults = search rules;
      frame = search rules;
    }

-- copies of texts
pub cloned : (texts copies : List (String Global)) → AllZip (λ s t. string_bytes t ≡ string_bytes s) texts copies → map string_bytes copies ≡ map string_bytes texts
cloned [] [] h = refl
cloned [] (y ∷ copies) h = absurd h
cloned (x ∷ texts) [] h = absurd h
cloned (x ∷ texts) (y ∷ copies) h = rw (h.0, cloned texts copies h.1) refl

-- a name that is left was there
pub was_there : (gone names : List (List ℕ)) (n : List ℕ) → has (without gone names) n ≡ true → has names n ≡ true
was_there gone names n h = (both (not (has gone n)) (has names n) (sym (has_without gone names n) ∙ h)).1

-- a name that isn't left is gone
pub lost_is_gone : (gone names : List (List ℕ)) (n : List ℕ) → has names n ≡ true → has (without gone names) n ≡ false → has gone n ≡ true
lost_is_gone gone names n h lost = cases (has gone n) (λ e. e) (λ e.
    let left : has (without gone names) n ≡ true = has_without gone names n ∙ rw (e, h) refl in
    absurd (true≢false (sym left ∙ lost)))

-- no name was to be taken out
pub shortens_none : {A D W C : Type 0} (g : Ghosts D W C) (gone : List (List ℕ)) (old : D × ManagedNames) (x : A) → gone ≡ [] → Shortens g (without gone old.1.managed) old old (Ok x)
shortens_none {A} g gone old x none =
    let same : old.1.managed ≡ without gone old.1.managed = rw none (sym (without_none old.1.managed)) in
    let With : List (List ℕ) → ManagedNames = λ l. record old.1 { managed = l } in
    let stay : old.1 ≡ record old.1 { managed = without gone old.1.managed } = ap With same in
    record {
      ok = stay;
      err = tt;
      lists = λ tells was. rw (← same) was;
      either = λ tells. inr refl;
      others = λ tells n ne. refl;
      faults = search rules;
      frame = search rules;
    }

-- the same of a list that is as long
pub shortens_as : {A D W C : Type 0} (g : Ghosts D W C) {left other : List (List ℕ)} {old new : D × ManagedNames} (result : Result A IoError) → left ≡ other → Shortens g left old new result → Shortens g other old new result
shortens_as g {old = old} {new = new} result same s = subst (λ l. Shortens g l old new result) same s

-- a save of the list by a call that begins with the struct taken apart
pub saves_from : {A D W C : Type 0} (g : Ghosts D W C) {inside mid : D × ManagedNames} {new : D} {text : List ℕ} (result : Result A IoError) → inside ≡ mid → SavesText (g.disk inside.0) (g.disk new) text result → SavesText (g.disk mid.0) (g.disk new) text result
saves_from g {new = new} {text = text} result same saves = subst (λ v. SavesText (g.disk v.0) (g.disk new) text result) same saves
