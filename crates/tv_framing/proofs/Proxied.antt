-- Facts on a writer that ends with a footer.
use Rattle.std.proofs.Common.{◌≡◌, Bool, true, false, ◌||◌, not, ◌++◌, ◌∷◌, [], ◌-◌, ℕ, List, length, Option, Some, None, refl, sym, ap, subst, ◌∙◌, append_assoc, arith}
use Rattle.std.specs.Prelude.{is_some, Result, Ok, Err}
use Rattle.std.proofs.lemmas.List.{take_all}
use Rattle.tv_formats.specs.Footer.{footer}
use Rattle.tv_base.specs.Writers.{Ends, TakesNone, WriteFaults}
use Rattle.tv_base.specs.declared.io.IoError.{IoError}
use Rattle.tv_base.specs.declared.io.IoError.TheVariants as io
use Rattle.tv_base.specs.declared.writers.TerminatingWrite.{Ghosts}
use Rattle.tv_checksum.specs.declared.Checksum.{Ghosts as Sum}
use Rattle.tv_framing.specs.Composing.{before_last}
use Rattle.tv_framing.specs.Proxies.{EndsWithFooter, HasSummed, Proxied, ProxyStays, SumsUp, seen}
use Rattle.tv_framing.specs.Sealing.{SealedAfter, Steps}
use Rattle.tv_framing.proofs.Parts.{on_ok}

-- ---- one call, and two

pub one_step : {W : Type 0} (stays : W → W → Type 0) (old new : W) → stays old new → Steps stays old new
one_step stays old new h = record { after = new ∷ []; each = (h, refl) }

pub two_steps : {W : Type 0} (stays : W → W → Type 0) (old between new : W) → stays old between → stays between new → Steps stays old new
two_steps stays old between new h k = record { after = between ∷ new ∷ []; each = (h, (k, refl)) }

-- ---- what was taken and summed up

ended_below : (below above : Bool) → below ≡ true → (below || above) ≡ false → ⊥
ended_below true above h going = absurd (cc)
ended_below false above h going = absurd (cc)

ended_above : {C : Type 0} (below : Bool) (sum : Option C) → sum ≡ None → (below || not (is_some sum)) ≡ false → ⊥
ended_above below (Some s) none going = absurd (cc)
ended_above true None none going = absurd (cc)
ended_above false None none going = absurd (cc)

summed_same : {W C : Type 0} (w : Ghosts W) (c : Sum C) (old new : Proxied W C) → new.sum ≡ old.sum → new.footer_len ≡ old.footer_len → (w.view new.writer).taken ≡ (w.view old.writer).taken → (front : List ℕ) → HasSummed w c front old → HasSummed w c front new
summed_same w c old new same len is front h = record {
  body = h.body;
  sums = subst (λ s. SumsUp c.has_taken s h.body) (sym same) h.sums;
  taken = is ∙ h.taken;
  bare = len ∙ h.bare;
}

summed_kept : {W C A : Type 0} (w : Ghosts W) (c : Sum C) (old new : Proxied W C) (result : Result A IoError) → new.sum ≡ old.sum → new.footer_len ≡ old.footer_len → WriteFaults (w.view old.writer) (w.view new.writer) result
    → TakesNone (w.view old.writer) (w.view new.writer) result → (seen w.view new).ended ≡ false → (front : List ℕ) → HasSummed w c front old → HasSummed w c front new
summed_kept w c old new (Ok x) same len faults takes going = summed_same w c old new same len takes.ok
summed_kept w c old new (Err (io.Fault fault)) same len faults takes going = absurd (ended_below (w.view new.writer).ended (not (is_some new.sum)) faults.over.1 going)
summed_kept w c old new (Err io.Memory) same len faults takes going = summed_same w c old new same len takes.memory

-- ---- what each call leaves, where the proxy is seen so before it

pub stays_more : {W C : Type 0} (w : Ghosts W) (c : Sum C) (was old new : Proxied W C) (bytes : List ℕ) → was ≡ old → w.stays was.writer new.writer → ((body : List ℕ) → SumsUp c.has_taken was.sum body → SumsUp c.has_taken new.sum (body ++ bytes))
    → new.footer_len ≡ was.footer_len → (w.view new.writer).taken ≡ (w.view was.writer).taken ++ bytes → ProxyStays w c old new
stays_more w c was old new bytes seen_so stays sums len is = subst (λ v. ProxyStays w c v new) seen_so (record {
  below = one_step w.stays was.writer new.writer stays;
  summed = λ going front h. record {
    body = h.body ++ bytes;
    sums = sums h.body h.sums;
    taken = is ∙ ap (λ (l : List ℕ). l ++ bytes) h.taken ∙ append_assoc front h.body bytes;
    bare = len ∙ h.bare;
  };
})

pub stays_same : {W C A : Type 0} (w : Ghosts W) (c : Sum C) (was old new : Proxied W C) (result : Result A IoError) → was ≡ old → w.stays was.writer new.writer → new.sum ≡ was.sum → new.footer_len ≡ was.footer_len → WriteFaults (w.view was.writer) (w.view new.writer) result
    → TakesNone (w.view was.writer) (w.view new.writer) result → ProxyStays w c old new
stays_same w c was old new result seen_so stays same len faults takes = subst (λ v. ProxyStays w c v new) seen_so (record {
  below = one_step w.stays was.writer new.writer stays;
  summed = summed_kept w c was new result same len faults takes;
})

pub stays_ended : {W C : Type 0} (w : Ghosts W) (c : Sum C) (was old new : Proxied W C) → was ≡ old → new.sum ≡ None → Steps w.stays was.writer new.writer → ProxyStays w c old new
stays_ended w c was old new seen_so none below = subst (λ v. ProxyStays w c v new) seen_so (record {
  below = below;
  summed = λ going. absurd (ended_above (w.view new.writer).ended new.sum none going);
})

-- ---- the end

all_before : (taken : List ℕ) (n : ℕ) → n ≡ 0 → before_last n taken ≡ taken
all_before taken n none = take_all (length taken - n) taken (omega (arith, none))

pub seals : {W C : Type 0} (w : Ghosts W) (c : Sum C) (was old : Proxied W C) (between new : W) (crc : ℕ) (text : List ℕ) → was ≡ old → was.footer_len ≡ 0 → w.stays was.writer between → (w.view between).ended ≡ false
    → (w.view between).taken ≡ (w.view was.writer).taken ++ text → text ≡ footer crc → ((body : List ℕ) → SumsUp c.has_taken was.sum body → crc ≡ c.checksum body) → w.sealed between new (w.view between).taken
    → (body : List ℕ) → SumsUp c.has_taken old.sum body → SealedAfter w old.writer new ((seen w.view old).taken ++ footer (c.checksum body))
seals w c was old between new crc text seen_so none stays going is spelt crcs sealed =
    subst (λ v. (body : List ℕ) → SumsUp c.has_taken v.sum body → SealedAfter w v.writer new ((seen w.view v).taken ++ footer (c.checksum body))) seen_so (λ body sums.
    let whole = is ∙ ap (λ (l : List ℕ). (w.view was.writer).taken ++ l) (spelt ∙ ap footer (crcs body sums)) ∙ ap (λ (l : List ℕ). l ++ footer (c.checksum body)) (sym (all_before (w.view was.writer).taken was.footer_len none)) in record {
      between = between;
      stays = stays;
      going = going;
      taken = whole;
      sealed = subst (λ (l : List ℕ). w.sealed between new l) whole sealed;
    })

pub ends_so : {W C A : Type 0} (w : Ghosts W) (c : Sum C) (was old new : Proxied W C) (between : W) (crc : ℕ) (text : List ℕ) (result : Result A IoError) → was ≡ old → Ends w.keeps (w.view between) (w.view new.writer) result
    → (w.view between).taken ≡ (w.view was.writer).taken ++ text → text ≡ footer crc → ((body : List ℕ) → SumsUp c.has_taken was.sum body → crc ≡ c.checksum body) → EndsWithFooter w c old new result
ends_so w c was old new between crc text result seen_so ends is spelt crcs = subst (λ v. EndsWithFooter w c v new result) seen_so (record {
  ended = on_ok result ends.quiet (λ _. ends.ended);
  kept = λ keeps body sums. on_ok result (ends.ok keeps) (λ same. same ∙ is ∙ ap (λ (l : List ℕ). (w.view was.writer).taken ++ l) (spelt ∙ ap footer (crcs body sums)));
})
