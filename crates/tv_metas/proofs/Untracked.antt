-- Segments that were taken in one after the other, and are given back the last one first.
use Rattle.std.proofs.Common.{◌≡◌, ℕ, Bool, true, false, cond, List, [], ◌∷◌, ◌++◌, map, Option, Some, None, refl, sym, ap, ◌∙◌, subst, arith}
use Rattle.std.specs.Prelude.{find}
use Rattle.tv_base.specs.declared.inventory.Entry.{Entry}
use Rattle.tv_base.specs.Entries.{is_numbered, is_last, one_fewer, released}
use Rattle.tv_base.specs.Places.{change_at, take_out}
use Rattle.tv_formats.specs.declared.segment.LiveSegment.{LiveSegment}
use Rattle.tv_metas.specs.declared.segment_meta.InnerSegmentMeta.{InnerSegmentMeta}
use Rattle.tv_metas.specs.Segments.{entry_of}
use Rattle.tv_metas.specs.Tracked.{KeptMetas, Share, TrackAll, Tracks, inner_of}

-- ---- one segment

not_here : (b : Bool) (e : Entry InnerSegmentMeta) (o : Option (Entry InnerSegmentMeta)) → cond b (Some e) o ≡ None → (b ≡ false) × (o ≡ None)
not_here true e o h = absurd cc
not_here false e o h = (refl, h)

module _ (n : ℕ) (last : Entry InnerSegmentMeta) (here : is_numbered n last ≡ true) where
  found_last : (es : KeptMetas) → find (is_numbered n) es ≡ None → find (is_numbered n) (es ++ last ∷ []) ≡ Some last
  found_last [] none = ap (λ (b : Bool). cond b (Some last) None) here
  found_last (e ∷ es) none =
      let h = not_here (is_numbered n e) e (find (is_numbered n) es) none in
      ap (λ (b : Bool). cond b (Some e) (find (is_numbered n) (es ++ last ∷ []))) h.0 ∙ found_last es h.1

  taken_last : (es : KeptMetas) → find (is_numbered n) es ≡ None → take_out (is_numbered n) (es ++ last ∷ []) ≡ es
  taken_last [] none = ap (λ (b : Bool). cond b [] (last ∷ [])) here
  taken_last (e ∷ es) none =
      let h = not_here (is_numbered n e) e (find (is_numbered n) es) none in
      ap (λ (b : Bool). cond b (es ++ last ∷ []) (e ∷ take_out (is_numbered n) (es ++ last ∷ []))) h.0 ∙ ap (λ (l : KeptMetas). e ∷ l) (taken_last es h.1)

-- one that was taken in and is given back leaves what there was
pub given_back : (share : Share) (before after : KeptMetas) → Tracks share.1 before after share → released share.0 after ≡ before
given_back share before after t =
    let n = share.0 in
    let last : Entry InnerSegmentMeta = record { number = n; count = 1; value = inner_of share.1 } in
    let here : is_numbered n last ≡ true = grind arith in
    ap (released n) t.entries
    ∙ ap (λ (o : Option (Entry InnerSegmentMeta)). cond (is_last o) (take_out (is_numbered n) (before ++ last ∷ []))
    (change_at (is_numbered n) one_fewer (before ++ last ∷ [])))
    (found_last n last here before t.fresh)
    ∙ taken_last n last here before t.fresh

-- what was tracked is what the share says
pub its_own : (segment : List ℕ × LiveSegment) (old new : KeptMetas) (share : Share) → Tracks segment old new share → Tracks share.1 old new share
its_own segment old new share t = subst (λ (e : List ℕ × LiveSegment). Tracks e old new share) (sym t.same) t

-- ---- several

mapped : {A B : Type 0} (f : A → B) (xs : List A) (x : A) → map f (xs ++ x ∷ []) ≡ map f xs ++ f x ∷ []
mapped f [] x = refl
mapped {B = B} f (y ∷ xs) x = ap (λ (l : List B). f y ∷ l) (mapped f xs x)

pub one_more_mapped : (shares : List Share) (share : Share) (done : List InnerSegmentMeta) (segment : InnerSegmentMeta)
    → map (λ s. s.1) shares ≡ map entry_of done
    → share.1 ≡ entry_of segment → map (λ s. s.1) (shares ++ share ∷ []) ≡ map entry_of (done ++ segment ∷ [])
one_more_mapped shares share done segment h e =
    mapped (λ (s : Share). s.1) shares share ∙ ap (λ (l : List (List ℕ × LiveSegment)). l ++ share.1 ∷ []) h
    ∙ ap (λ (x : List ℕ × LiveSegment). map entry_of done ++ x ∷ []) e ∙ sym (mapped entry_of done segment)

pub one_more_tracked : (done : List Share) (share : Share) (old middle new : KeptMetas) → TrackAll done old middle → Tracks share.1 middle new share
    → TrackAll (done ++ share ∷ []) old new
one_more_tracked [] share old middle new t s = (new, subst (λ (k : KeptMetas). Tracks share.1 k new share) t s, refl)
one_more_tracked (first ∷ done) share old middle new t s = (t.0, t.1, one_more_tracked done share t.0 middle new t.2 s)

pub last_tracked : (done : List Share) (share : Share) (old new : KeptMetas) → TrackAll (done ++ share ∷ []) old new
    → (middle : KeptMetas) × TrackAll done old middle × Tracks share.1 middle new share
last_tracked [] share old new t = (old, refl, subst (λ (k : KeptMetas). Tracks share.1 old k share) (sym t.2) t.1)
last_tracked (first ∷ done) share old new t =
    let rest = last_tracked done share t.0 new t.2 in (rest.0, (t.0, t.1, rest.1), rest.2)
