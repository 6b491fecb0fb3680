-- Names that are tried one after another.
use Rattle.std.proofs.Common.{rules, ◌≡◌, ◌≤◌, ◌+◌, ℕ, Bool, true, false, cond, ◌||◌, inl, inr, ⊎_elim, List, [], ◌∷◌, ◌++◌, length, None, refl, sym, ap, subst, ◌∙◌, arith, true≢false, append-nil, length-append}
use borrow.Table.Steps.{cases}
use Rattle.std.specs.Prelude.{IsSome}
use Rattle.std.proofs.Math.Bool.{or-false}
use Rattle.std.proofs.lemmas.Bool.{false_from_ne_true, or_parts}
use Rattle.std.proofs.lemmas.List.{nil_from_length}
use Rattle.tv_formats.specs.Names.{is, has, is_plain, list_name}
use Rattle.tv_formats.specs.Files.{KeepsOthers}
use Rattle.tv_formats.proofs.Entries.{is_text, isnt_one}
use Rattle.tv_formats.proofs.CollectedNames.{has_append}
use Rattle.tv_device.specs.View.{Kept, MayDelete, OnlyReads}
use Rattle.tv_device.specs.declared.directory.Directory.{Ghosts}
use Rattle.tv_managed.specs.Collecting.{FailsAtMost, Tried, TriesName}
use Rattle.tv_managed.specs.Frames.{KeepsNames}
use Rattle.tv_managed.specs.Names.{ManagedNames}
use Rattle.tv_managed.proofs.Removals.{tried_append}

-- no name was tried, and no file but the list changed
pub tried_none : {D W C : Type 0} (g : Ghosts D W C) (old new : D × ManagedNames) → Kept g.told (g.view old.0) (g.view new.0)
    → (g.told.content → KeepsOthers (g.view old.0).reads (g.view new.0).reads list_name) → Tried g [] old new [] []
tried_none g old new k keeps =
    let quiet = k.frame.tells_none.deletes_none in
    record {
      outcomes = [];
      each = refl;
      deleted_is = refl;
      failed_is = refl;
      hasnt_list = refl;
      gone = λ tell n h. absurd (true≢false (sym h));
      others = λ tell n h. keeps tell n;
      alive = λ tell w h. quiet.alive tell w;
      ended = λ tell w o h. absurd (true≢false (sym h));
      counted = inl (omega (arith, quiet.refusals));
      calm = λ e. quiet.refusals;
      fits = λ h. omega (arith, quiet.refusals);
      frame = search rules;
    }

pub tried_quiet : {D W C : Type 0} (g : Ghosts D W C) (old new : D × ManagedNames) → KeepsNames (OnlyReads g.told) g.view old new → Tried g [] old new [] []
tried_quiet g old new k = tried_none g old new k.below.kept (λ tell n other. k.below.content tell n)

only : (name n : List ℕ) → has (name ∷ []) n ≡ true → name ≡ n
only name n h = is_text name n (sym (or-false (is name n)) ∙ h)

isnt_list : (name : List ℕ) → is_plain name ≡ true → has (name ∷ []) list_name ≡ false
isnt_list name plain = false_from_ne_true _ (λ h. true≢false (sym plain ∙ ap is_plain (only name list_name h)))

-- one name was tried
pub tried_name : {D W C : Type 0} (g : Ghosts D W C) (gone : Bool) (name : List ℕ) (old new : D × ManagedNames) → is_plain name ≡ true → TriesName g name old new gone
    → MayDelete g.told (g.view old.0) (g.view new.0) → Tried g (name ∷ []) old new (cond gone (name ∷ []) []) (cond gone [] (name ∷ []))
tried_name g true name old new plain e frame = record {
  outcomes = true ∷ [];
  each = refl;
  deleted_is = refl;
  failed_is = refl;
  hasnt_list = isnt_list name plain;
  gone = λ tell n h. subst (λ m. (g.view new.0).reads m ≡ None) (only name n h) (e.gone tell refl);
  others = λ tell n h isnt. e.others tell n (isnt_one name n h);
  alive = λ tell w h. e.alive tell w (isnt_one name (g.state_of w).name h);
  ended = λ tell w o h some.
      let it = only name (g.state_of w).name h in
      e.ended tell refl (subst (λ m. IsSome ((g.view old.0).reads m)) (sym it) some) w (sym it);
  counted = inl (omega (arith, e.done refl));
  calm = λ none. e.done refl;
  fits = λ h. e.fits;
  frame = frame;
}
tried_name g false name old new plain e frame = record {
  outcomes = false ∷ [];
  each = refl;
  deleted_is = refl;
  failed_is = refl;
  hasnt_list = refl;
  gone = λ tell n h. absurd (true≢false (sym h));
  others = λ tell n h isnt. e.same tell refl n;
  alive = λ tell w h. e.kept tell refl w;
  ended = λ tell w o h. absurd (true≢false (sym h));
  counted = ⊎_elim (λ up. inl (omega (arith, up))) (λ end. inr end) (e.failed refl);
  calm = λ none. absurd cc;
  fits = λ h. e.fits;
  frame = frame;
}

rises : (failed more all before mid now : ℕ) → all ≡ failed + more → FailsAtMost failed before mid → FailsAtMost more mid now → (mid ≤ 18446744073709551615 → now ≤ 18446744073709551615) → FailsAtMost all before now
rises failed more all before mid now e a b fits =
    ⊎_elim
    (λ up. ⊎_elim (λ low. inl (omega (arith, e, up, low))) (λ top. inr (omega (arith, up, top, fits (omega (arith, top))))) a)
    (λ end. inr end)
    b

-- some names were tried, and then others
pub tried_then : {D W C : Type 0} (g : Ghosts D W C) (names more : List (List ℕ)) (old mid new : D × ManagedNames) (deleted failed deleted2 failed2 : List (List ℕ)) → Tried g names old mid deleted failed → Tried g more mid new deleted2 failed2
    → Tried g (names ++ more) old new (deleted ++ deleted2) (failed ++ failed2)
tried_then g names more old mid new deleted failed deleted2 failed2 a b =
    let none : (n : List ℕ) → has (deleted ++ deleted2) n ≡ false → (has deleted n ≡ false) × (has deleted2 n ≡ false) = λ n h. or_parts (has deleted n) (has deleted2 n) (sym (has_append deleted deleted2 n) ∙ h) in
    let both = tried_append names a.outcomes more b.outcomes a.each in
    let count = length-append failed failed2 in
    record {
      outcomes = a.outcomes ++ b.outcomes;
      each = omega (arith, length-append a.outcomes b.outcomes, length-append names more, a.each, b.each);
      deleted_is = cc (both.0, a.deleted_is, b.deleted_is);
      failed_is = cc (both.1, a.failed_is, b.failed_is);
      hasnt_list = has_append deleted deleted2 list_name ∙ rw a.hasnt_list b.hasnt_list;
      gone = λ tell n h. cases (has deleted2 n)
          (λ e. b.gone tell n e)
          (λ e.
          let first : has deleted n ≡ true = sym (has_append deleted deleted2 n ∙ ap (λ c. has deleted n || c) e ∙ or-false (has deleted n)) ∙ h in
          b.others tell n e (λ same. true≢false (sym first ∙ ap (has deleted) same ∙ a.hasnt_list)) ∙ a.gone tell n first);
      others = λ tell n h isnt. b.others tell n (none n h).1 isnt ∙ a.others tell n (none n h).0 isnt;
      alive = λ tell w h l. b.alive tell w (none (g.state_of w).name h).1 (a.alive tell w (none (g.state_of w).name h).0 l);
      ended = λ tell w o h some.
          let n = (g.state_of w).name in
          cases (has deleted n)
          (λ e. b.frame.goes_on.ended tell w (a.frame.goes_on.writers w o) (a.ended tell w o e some))
          (λ e.
          let last : has deleted2 n ≡ true = ap (λ c. c || has deleted2 n) (sym e) ∙ sym (has_append deleted deleted2 n) ∙ h in
          let still = a.others tell n e (λ same. true≢false (sym last ∙ ap (has deleted2) same ∙ b.hasnt_list)) in
          b.ended tell w (a.frame.goes_on.writers w o) last (subst IsSome (sym still) some));
      counted = rises (length failed) (length failed2) _ _ _ _ count a.counted b.counted b.fits;
      calm = λ e.
          let all : length failed + length failed2 ≡ 0 = sym count ∙ ap length e in
          b.calm (nil_from_length failed2 (omega arith)) ∙ a.calm (nil_from_length failed (omega arith));
      fits = λ h. b.fits (a.fits h);
      frame = search rules;
    }

-- a call after them that deletes nothing
pub tried_on : {D W C : Type 0} (g : Ghosts D W C) {front deleted failed : List (List ℕ)} {old mid new : D × ManagedNames} → Tried g front old mid deleted failed → Tried g [] mid new [] [] → Tried g front old new deleted failed
tried_on g {front} {deleted} {failed} {old} {mid} {new} a b = rw (← append-nil front, ← append-nil deleted, ← append-nil failed) (tried_then g front [] old mid new deleted failed [] [] a b)
