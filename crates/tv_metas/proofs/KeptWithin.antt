-- What an inventory keeps has no more deleted documents than there are, and a share is out, whatever is taken in,
-- shared and given back.
use Rattle.std.proofs.Common.{◌≡◌, ◌+◌, ◌-◌, ℕ, Bool, true, false, nat_lt, cond, [], ◌∷◌, Some, All, map, Result, Ok, Err, refl, sym, ap, subst, ◌∙◌, arith}
use Rattle.std.specs.Prelude.{OnErr, OnOk, find}
use Rattle.std.specs.List.{AllByRecursion}
use Rattle.std.proofs.lemmas.List.Elements.{All-from_recursion, All-map, recursion_from_All}
use Rattle.tv_base.specs.declared.inventory.Entry.{Entry}
use Rattle.tv_base.specs.Entries.{InventoryState, is_numbered, is_last, one_fewer, one_more, released}
use Rattle.tv_base.specs.Places.{change_at, take_out}
use Rattle.tv_metas.specs.Tracked.{IsShared, KeptMetas}
use Rattle.tv_metas.specs.declared.segment_meta.InnerSegmentMeta.{InnerSegmentMeta}

changed : (b : Bool) (e f : Entry InnerSegmentMeta) (es fs : KeptMetas) → (IsShared e → IsShared f) → AllByRecursion IsShared (e ∷ es) → AllByRecursion IsShared fs → AllByRecursion IsShared (cond b (f ∷ es) (e ∷ fs))
changed true e f es fs keeps h rest = (keeps h.0, h.1)
changed false e f es fs keeps h rest = (h.0, rest)

within_changed : (p : Entry InnerSegmentMeta → Bool) (f : Entry InnerSegmentMeta → Entry InnerSegmentMeta) → ((e : Entry InnerSegmentMeta) → IsShared e → IsShared (f e)) → (es : KeptMetas)
    → AllByRecursion IsShared es → AllByRecursion IsShared (change_at p f es)
within_changed p f keeps [] h = tt
within_changed p f keeps (e ∷ es) h = changed (p e) e (f e) es (change_at p f es) (keeps e) h (within_changed p f keeps es h.1)

removed : (b : Bool) (e : Entry InnerSegmentMeta) (es fs : KeptMetas) → AllByRecursion IsShared (e ∷ es) → AllByRecursion IsShared fs → AllByRecursion IsShared (cond b es (e ∷ fs))
removed true e es fs h rest = h.1
removed false e es fs h rest = (h.0, rest)

within_removed : (p : Entry InnerSegmentMeta → Bool) (es : KeptMetas) → AllByRecursion IsShared es → AllByRecursion IsShared (take_out p es)
within_removed p [] h = tt
within_removed p (e ∷ es) h = removed (p e) e es (take_out p es) h (within_removed p es h.1)

-- a share less, where two at least are out
lessened : (p : Entry InnerSegmentMeta → Bool) (es : KeptMetas) → is_last (find p es) ≡ false → AllByRecursion IsShared es
    → AllByRecursion IsShared (change_at p one_fewer es)
lessened p [] more h = tt
lessened p (e ∷ es) more h = by (p e) more (λ rest. lessened p es rest h.1)
  where
    by : (b : Bool) → is_last (cond b (Some e) (find p es)) ≡ false → (is_last (find p es) ≡ false → AllByRecursion IsShared (change_at p one_fewer es))
        → AllByRecursion IsShared (cond b (one_fewer e ∷ es) (e ∷ change_at p one_fewer es))
    by true more rest = (record { within = h.0.within; out = grind (arith, more) }, h.1)
    by false more rest = (h.0, rest more)

-- the same, chosen by whether it is the last one
released_by : (p : Entry InnerSegmentMeta → Bool) (es : KeptMetas) (b : Bool) → is_last (find p es) ≡ b → AllByRecursion IsShared es
    → AllByRecursion IsShared (cond b (take_out p es) (change_at p one_fewer es))
released_by p es true is h = within_removed p es h
released_by p es false is h = lessened p es is h

-- a share is given back
pub within_released : (number : ℕ) (es : KeptMetas) → All IsShared es → All IsShared (released number es)
within_released number es h =
    All-from_recursion IsShared (released number es)
    (released_by (is_numbered number) es (is_last (find (is_numbered number) es)) refl (recursion_from_All IsShared es h))

-- one more share of it keeps it so
more_out : (e : Entry InnerSegmentMeta) → IsShared e → IsShared (one_more e)
more_out e h = record { within = h.within; out = grind (arith, h.out) }

-- one more share is out
pub within_shared : (number : ℕ) (es : KeptMetas) → All IsShared es → All IsShared (change_at (is_numbered number) one_more es)
within_shared number es h =
    All-from_recursion IsShared (change_at (is_numbered number) one_more es) (within_changed (is_numbered number) one_more more_out es (recursion_from_All IsShared es h))

-- one more share of each is out
pub within_all_shared : (es : KeptMetas) → All IsShared es → All IsShared (map one_more es)
within_all_shared es h = All-map IsShared one_more es (λ k d lt. more_out _ (h k d lt))

pub within_shares : {U E : Type 0} (result : Result U E) (old new : InventoryState InnerSegmentMeta) → OnOk result (new ≡ record old { entries = map one_more old.entries })
    → OnErr result (new ≡ old) → All IsShared old.entries → All IsShared new.entries
within_shares (Ok u) old new ok err h =
    subst (λ (state : InventoryState InnerSegmentMeta). All IsShared state.entries) (sym ok) (within_all_shared old.entries h)
within_shares (Err e) old new ok err h = subst (λ (state : InventoryState InnerSegmentMeta). All IsShared state.entries) (sym err) h

-- ---- a share that is taken and given back

module _ (n : ℕ) where
  -- it isn't the last one
  found_shared : (es : KeptMetas) → AllByRecursion IsShared es → is_last (find (is_numbered n) (change_at (is_numbered n) one_more es)) ≡ false
  found_shared [] h = refl
  found_shared (e ∷ es) h = by (is_numbered n e) refl (found_shared es h.1)
    where
      more : nat_lt (e.count + 1) 2 ≡ false
      more = grind (arith, h.0.out)

      by : (b : Bool) → is_numbered n e ≡ b → is_last (find (is_numbered n) (change_at (is_numbered n) one_more es)) ≡ false
          → is_last (find (is_numbered n) (cond b (one_more e ∷ es) (e ∷ change_at (is_numbered n) one_more es))) ≡ false
      by true is rest = ap (λ (b : Bool). is_last (cond b (Some (one_more e)) (find (is_numbered n) es))) is ∙ more
      by false is rest = ap (λ (b : Bool). is_last (cond b (Some e) (find (is_numbered n) (change_at (is_numbered n) one_more es)))) is ∙ rest

  -- one more and one fewer
  counted_back : (es : KeptMetas) → change_at (is_numbered n) one_fewer (change_at (is_numbered n) one_more es) ≡ es
  counted_back [] = refl
  counted_back (e ∷ es) = by (is_numbered n e) refl (counted_back es)
    where
      number : e.count + 1 - 1 ≡ e.count
      number = grind arith

      same : one_fewer (one_more e) ≡ e
      same = ap (λ (count : ℕ). record e { count = count }) number

      by : (b : Bool) → is_numbered n e ≡ b → change_at (is_numbered n) one_fewer (change_at (is_numbered n) one_more es) ≡ es → change_at (is_numbered n) one_fewer (cond b (one_more e ∷ es) (e ∷ change_at (is_numbered n) one_more es)) ≡ e ∷ es
      by true is rest = ap (λ (b : Bool). cond b (one_fewer (one_more e) ∷ es) (one_more e ∷ change_at (is_numbered n) one_fewer es)) is ∙ ap (λ (f : Entry InnerSegmentMeta). f ∷ es) same
      by false is rest =
          ap (λ (b : Bool). cond b (one_fewer e ∷ change_at (is_numbered n) one_more es) (e ∷ change_at (is_numbered n) one_fewer (change_at (is_numbered n) one_more es))) is
          ∙ ap (λ (fs : KeptMetas). e ∷ fs) rest

  -- given back, all is as it was
  pub undone : (es : KeptMetas) → All IsShared es → released n (change_at (is_numbered n) one_more es) ≡ es
  undone es h =
      ap (λ (b : Bool). cond b (take_out (is_numbered n) (change_at (is_numbered n) one_more es)) (change_at (is_numbered n) one_fewer (change_at (is_numbered n) one_more es)))
      (found_shared es (recursion_from_All IsShared es h))
      ∙ counted_back es
