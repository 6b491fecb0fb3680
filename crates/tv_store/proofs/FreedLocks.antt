-- The locks of a directory whose store is closed.
use Rattle.std.proofs.Common.{◌≡◌, ◌≢◌, ℕ, Bool, List, true, false, true≢false, refl, sym, subst, ◌∙◌}
use Rattle.tv_device.specs.Calls.{Frees}
use Rattle.tv_device.specs.Locks.{Locks}
use Rattle.tv_device.specs.View.{Told, View}
use Rattle.tv_device.specs.ViewLaws.{tells_then}
use Rattle.tv_formats.proofs.Entries.{is_itself, is_text}
use Rattle.tv_formats.specs.Names.{is}
use Rattle.tv_managed.specs.Collecting.{meta_lock_name}
use Rattle.tv_store.specs.Applying.{KeepsLocks}
use Rattle.tv_store.specs.ReloadLocks.{FreesLocks, GivesBack}
use Rattle.tv_store.specs.StoreCauses.{writer_lock_name}

apart : (name n : List ℕ) → is name n ≡ false → n ≢ name
apart name n other e = true≢false (sym (subst (λ (m : List ℕ). is name m ≡ true) (sym e) (is_itself name)) ∙ other)

-- each is free, where none but the writer's was held, and that of a reload
pub all_free : {W : Type 0} (told : Told) (was : Bool) (old new : View W) → told.locks → FreesLocks told writer_lock_name was old new
    → ((lock : List ℕ) → lock ≢ writer_lock_name → (was ≡ true → lock ≢ meta_lock_name) → old.locks lock ≡ false) → (n : List ℕ) → new.locks n ≡ false
all_free told was old new tells frees others n = writer (is writer_lock_name n) refl where
  kept : n ≢ writer_lock_name → (was ≡ true → n ≢ meta_lock_name) → new.locks n ≡ false
  kept isnt free = frees.others tells n isnt free ∙ others n isnt free

  meta : (b w : Bool) → is meta_lock_name n ≡ b → was ≡ w → n ≢ writer_lock_name → new.locks n ≡ false
  meta true true same locked isnt = subst (λ (m : List ℕ). new.locks m ≡ false) (is_text meta_lock_name n same) (frees.meta tells locked)
  meta true false same free isnt = kept isnt (λ t e. true≢false (sym t ∙ free))
  meta false true other locked isnt = kept isnt (λ t. apart meta_lock_name n other)
  meta false false other free isnt = kept isnt (λ t. apart meta_lock_name n other)

  writer : (b : Bool) → is writer_lock_name n ≡ b → new.locks n ≡ false
  writer true same = subst (λ (m : List ℕ). new.locks m ≡ false) (is_text writer_lock_name n same) (frees.freed tells)
  writer false other = meta (is meta_lock_name n) was refl refl (apart writer_lock_name n other)

-- where none is kept for a reload, one lock is freed
pub frees_one : {W : Type 0} (told : Told) (name : List ℕ) (was : Bool) (old new : View W) → was ≡ false → FreesLocks told name was old new → Frees told name old new
frees_one told name was old new free h = record {
  freed = λ t. record { is_free = h.freed t; others = λ n other. h.others t n other (λ e. absurd (true≢false (sym e ∙ free))) };
  faults = h.faults;
  frame = h.frame;
}

-- the lock of a reload is given back
given_free : (was : Bool) (old mid : Locks) → KeepsLocks was false old mid → was ≡ true → mid meta_lock_name ≡ false
given_free true old mid h locked = h.is_free
given_free false old mid h locked = absurd (true≢false (sym locked))

given_others : (was : Bool) (old mid : Locks) → KeepsLocks was false old mid → (n : List ℕ) → (was ≡ true → n ≢ meta_lock_name) → mid n ≡ old n
given_others true old mid h n free = h.others n (free refl)
given_others false old mid h n free = h n

-- and then another one
pub frees_both : {W : Type 0} (told : Told) (name : List ℕ) (was : Bool) (old mid new : View W) → GivesBack told was old mid → Frees told name mid new → FreesLocks told name was old new
frees_both told name was old mid new back frees = record {
  freed = λ t. (frees.freed t).is_free;
  meta = λ t locked. meta t locked (is name meta_lock_name) refl;
  others = λ t n other free. (frees.freed t).others n other ∙ given_others was old.locks mid.locks (back.locks t) n free;
  faults = frees.faults ∙ back.faults;
  frame = record {
    tells_none = tells_then back.frame.tells_none frees.frame.tells_none;
    watched = frees.frame.watched ∙ back.frame.watched;
    content = λ t n. frees.frame.content t n ∙ back.frame.content t n;
  };
} where
  meta : told.locks → was ≡ true → (b : Bool) → is name meta_lock_name ≡ b → new.locks meta_lock_name ≡ false
  meta t locked true same = subst (λ (m : List ℕ). new.locks m ≡ false) (is_text name meta_lock_name same) (frees.freed t).is_free
  meta t locked false other = (frees.freed t).others meta_lock_name (apart name meta_lock_name other) ∙ given_free was old.locks mid.locks (back.locks t) locked
