use Rattle.std.proofs.Common.{◌≡◌, ◌<◌, [], ◌∷◌, ◌++◌, length, length-append, Some, slice_get, set, ap, sym, subst, refl, ◌∙◌, arith}
use Rattle.std.proofs.lemmas.Option.{slice_get_within, get_or_from_slice_get}
use Rattle.tv_histories.proofs.Mixing.{IsMerging, ends_at, goes}
use Rattle.tv_histories.proofs.merged.merge.Goals as goal

pub returns-in-None : goal.returns-in-None
returns-in-None c = ends_at (λ q. q.items) c.args.lists.items c.loop-place.lists.items c.loop-place.callers.items c.loop-place.receipts.items c.as_slice.result.now c.loop-place.invariant.0 c.as_slice.ensures.value c.in-None.ensures.none

pub index_mut-requires : goal.index_mut-requires
index_mut-requires c =
    let s = c.in-Some.ensures.some in
    let w = slice_get_within c.as_slice.result.now c.in-Some.caller s.0 s.1 in
    let e = c.as_slice.ensures.len in
    omega arith

pub take_first-receipt-requires : goal.take_first-receipt-requires
take_first-receipt-requires c =
    let s = c.in-Some.ensures.some in
    let at : slice_get c.loop-place.lists.items c.in-Some.caller ≡ Some s.0 = ap (λ l. slice_get l c.in-Some.caller) (sym c.as_slice.ensures.value) ∙ s.1 in
    let here : c.index_mut.result.now ≡ s.0 = c.index_mut.ensures.value ∙ get_or_from_slice_get c.loop-place.lists.items c.in-Some.caller s.0 c.index_mut.result.now at in
    subst (λ q. 0 < length q.items) (sym here) s.2

pub loop-place-preserved : goal.loop-place-preserved
loop-place-preserved c =
    let s = c.in-Some.ensures.some in
    let at : slice_get c.loop-place.lists.items c.in-Some.caller ≡ Some s.0 = ap (λ l. slice_get l c.in-Some.caller) (sym c.as_slice.ensures.value) ∙ s.1 in
    let here : c.index_mut.result.now ≡ s.0 = c.index_mut.ensures.value ∙ get_or_from_slice_get c.loop-place.lists.items c.in-Some.caller s.0 c.index_mut.result.now at in
    let f = c.take_first-receipt.ensures.first in
    let r = c.take_first-receipt.result in
    let cs : c.push_reserved.new.self.items ≡ c.loop-place.callers.items ++ c.in-Some.caller ∷ [] = c.push_reserved.ensures.items ∙ ap (λ l. l ++ c.in-Some.caller ∷ []) c.in_ok-reserve.ensures.items in
    let rs : c.push_reserved-in-loop-place.new.self.items ≡ c.loop-place.receipts.items ++ r ∷ [] = c.push_reserved-in-loop-place.ensures.items ∙ ap (λ l. l ++ r ∷ []) c.in_ok-reserve-2.ensures.items in
    let more = goes (λ q. q.items) c.args.lists.items c.loop-place.lists.items c.loop-place.callers.items c.loop-place.receipts.items c.loop-place.invariant.0 c.in-Some.caller s.0 c.take_first-receipt.new.list f.0 r c.take_first-receipt.new.list.items at (ap (λ q. q.items) (sym here) ∙ f.1) refl f.2 (c.take_first-receipt.ensures.place ∙ c.loop-place.invariant.1) in
    let e = ap length rs in
    let p = c.loop-place.invariant.1 in (
      subst (λ l. IsMerging (λ q. q.items) c.args.lists.items (set c.loop-place.lists.items c.in-Some.caller c.take_first-receipt.new.list) l c.push_reserved-in-loop-place.new.self.items) (sym cs) (subst (λ l. IsMerging (λ q. q.items) c.args.lists.items (set c.loop-place.lists.items c.in-Some.caller c.take_first-receipt.new.list) (c.loop-place.callers.items ++ c.in-Some.caller ∷ []) l) (sym rs) more),
      omega (arith, length-append c.loop-place.receipts.items (r ∷ [])),
    )
