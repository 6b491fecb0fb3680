-- Each step keeps the rule.
use Rattle.std.proofs.Common.{◌≡◌, ◌≢◌, ◌⊎◌, ⊎_elim, ℕ, zero, suc, ◌+◌, List, [], ◌∷◌, ◌++◌, length, set, true, false, true≢false, Option, Some, None, refl, sym, ap, subst, ◌∙◌, append_assoc, length-append, arith}
use mathlib.Core.Option.{some, some-injective, some-ne-none}
use lib.ListN.{get_elem?}
use Rattle.left_right.specs.Register.{Admits, TurnsAt, Turns}
use Rattle.atomic_table.proofs.Lists.{at_set, at_snoc}
use Rattle.tv_machine.specs.State.{Snapshot}
use Rattle.tv_publishing.proofs.Prefixes.{whole_prefix}
use Rattle.tv_publishing.specs.Lists.{IsPrefix, EndsIn}
use Rattle.tv_publishing.specs.OneList.{IsKnownAt, IsOneList, nothing_known, PublishesOne, LearnsAll}
use Rattle.tv_publishing.specs.declared.one_list.Known.{Known}
use Rattle.tv_publishing.specs.declared.latest.Latest.{Latest}

unmarked : (v : Known) → v.publishes ≡ false → v.publishes ≡ true → ⊥
unmarked v hidden marks = true≢false (sym marks ∙ hidden)

no_more : (xs rest : List Snapshot) → [] ≡ xs ++ rest → xs ≡ []
no_more [] rest e = refl
no_more (x ∷ xs) rest e = cc

-- a seat whose view changes, under the same list
kept_with : (x : Latest) (views : List Known) (seat : ℕ) (w : Known) (k : IsOneList x views) → w.publishes ≡ false → IsPrefix w.list k.all → IsOneList x (set views seat w)
kept_with x views seat w k hidden front = record {
  all = k.all;
  ends = k.ends;
  counted = k.counted;
  each = λ i v at. ⊎_elim (λ (t : (i ≡ seat) × (w ≡ v)). subst (λ (u : Known). IsPrefix u.list k.all) t.1 front) (λ (t : (i ≢ seat) × IsKnownAt views i v). k.each i v t.1) (at_set views seat i w v at);
  whole = λ i v at marks. ⊎_elim (λ (t : (i ≡ seat) × (w ≡ v)). absurd (unmarked w hidden (subst (λ (u : Known). u.publishes ≡ true) (sym t.1) marks))) (λ (t : (i ≢ seat) × IsKnownAt views i v). k.whole i v t.1 marks) (at_set views seat i w v at);
  one = λ i j v u at at' marks marks'.
      ⊎_elim (λ (t : (i ≡ seat) × (w ≡ v)). absurd (unmarked w hidden (subst (λ (z : Known). z.publishes ≡ true) (sym t.1) marks)))
      (λ (t : (i ≢ seat) × IsKnownAt views i v).
      ⊎_elim (λ (t' : (j ≡ seat) × (w ≡ u)). absurd (unmarked w hidden (subst (λ (z : Known). z.publishes ≡ true) (sym t'.1) marks')))
      (λ (t' : (j ≢ seat) × IsKnownAt views j u). k.one i j v u t.1 t'.1 marks marks') (at_set views seat j w u at'))
      (at_set views seat i w v at);
  fresh = λ none i v at. ⊎_elim (λ (t : (i ≡ seat) × (w ≡ v)). subst (λ (u : Known). u.publishes ≡ false) t.1 hidden) (λ (t : (i ≢ seat) × IsKnownAt views i v). k.fresh none i v t.1) (at_set views seat i w v at);
}

-- a new seat that knows a first part
kept_and : (x : Latest) (views : List Known) (w : Known) (k : IsOneList x views) → w.publishes ≡ false → IsPrefix w.list k.all → IsOneList x (views ++ w ∷ [])
kept_and x views w k hidden front = record {
  all = k.all;
  ends = k.ends;
  counted = k.counted;
  each = λ i v at. ⊎_elim (λ (t : IsKnownAt views i v). k.each i v t) (λ (e : w ≡ v). subst (λ (u : Known). IsPrefix u.list k.all) e front) (at_snoc views w v i at);
  whole = λ i v at marks. ⊎_elim (λ (t : IsKnownAt views i v). k.whole i v t marks) (λ (e : w ≡ v). absurd (unmarked w hidden (subst (λ (u : Known). u.publishes ≡ true) (sym e) marks))) (at_snoc views w v i at);
  one = λ i j v u at at' marks marks'.
      ⊎_elim (λ (t : IsKnownAt views i v).
      ⊎_elim (λ (t' : IsKnownAt views j u). k.one i j v u t t' marks marks') (λ (e : w ≡ u). absurd (unmarked w hidden (subst (λ (z : Known). z.publishes ≡ true) (sym e) marks'))) (at_snoc views w u j at'))
      (λ (e : w ≡ v). absurd (unmarked w hidden (subst (λ (z : Known). z.publishes ≡ true) (sym e) marks)))
      (at_snoc views w v i at);
  fresh = λ none i v at. ⊎_elim (λ (t : IsKnownAt views i v). k.fresh none i v t) (λ (e : w ≡ v). subst (λ (u : Known). u.publishes ≡ false) e hidden) (at_snoc views w v i at);
}

pub admits : Admits IsOneList nothing_known
admits x views k = kept_and x views nothing_known k refl (k.all, refl)

pub enters : (seat : ℕ) (v : Known) → v.publishes ≡ false → Turns IsOneList seat v (λ x. x) LearnsAll
enters seat v hidden x views k at =
    (record { publishes = false; list = k.all }, kept_with x views seat _ k refl (whole_prefix k.all), (refl, k.each seat v at, k.ends, k.counted))

-- ---- a publication

empty_where : {A : Type 0} (xs : List A) → length xs ≡ 0 → xs ≡ []
empty_where [] h = refl
empty_where (x ∷ xs) h = absurd (omega arith)

module _ (x y : Latest) (views : List Known) (seat : ℕ) (z : Snapshot) (v : Known) (k : IsOneList x views) (at : IsKnownAt views seat v) (alone : (v.publishes ≡ true) ⊎ (x.number ≡ 0)) where
  others : (j : ℕ) (u : Known) → j ≢ seat → IsKnownAt views j u → u.publishes ≡ true → ⊥
  others j u other there marks =
      ⊎_elim (λ (mine : v.publishes ≡ true). other (k.one j seat u v there at marks mine)) (λ (none : x.number ≡ 0). unmarked u (k.fresh none j u there) marks) alone

  knows_all : v.list ≡ k.all
  knows_all =
      ⊎_elim (λ (mine : v.publishes ≡ true). k.whole seat v at mine)
      (λ (none : x.number ≡ 0).
      let empty = empty_where k.all (k.counted ∙ none) in
      let front = k.each seat v at in
      no_more v.list front.0 (sym empty ∙ front.1) ∙ sym empty)
      alone

  further : (xs : List Snapshot) → IsPrefix xs k.all → IsPrefix xs (k.all ++ z ∷ [])
  further xs p = (p.0 ++ z ∷ [], ap (λ (l : List Snapshot). l ++ z ∷ []) p.1 ∙ append_assoc xs p.0 (z ∷ []))

  ends_in : (o : Option Snapshot) → o ≡ Some z → EndsIn (k.all ++ z ∷ []) o
  ends_in None e = cc
  ends_in (Some n) e = let same : n ≡ z = cc in (k.all, ap (λ m. k.all ++ m ∷ []) (sym same))

  longer : y.number ≡ x.number + 1 → length (k.all ++ z ∷ []) ≡ y.number
  longer more = let c = k.counted in omega (arith, length-append k.all (z ∷ []))

  kept_further : y.last ≡ Some z → y.number ≡ x.number + 1 → IsOneList y (set views seat (record { publishes = true; list = k.all ++ z ∷ [] }))
  kept_further shows more =
      let w : Known = record { publishes = true; list = k.all ++ z ∷ [] } in
      record {
        all = k.all ++ z ∷ [];
        ends = ends_in (y.last) shows;
        counted = longer more;
        each = λ i u there. ⊎_elim (λ (t : (i ≡ seat) × (w ≡ u)). subst (λ (q : Known). IsPrefix q.list (k.all ++ z ∷ [])) t.1 (whole_prefix (k.all ++ z ∷ []))) (λ (t : (i ≢ seat) × IsKnownAt views i u). further u.list (k.each i u t.1)) (at_set views seat i w u there);
        whole = λ i u there marks. ⊎_elim (λ (t : (i ≡ seat) × (w ≡ u)). ap (λ (q : Known). q.list) (sym t.1)) (λ (t : (i ≢ seat) × IsKnownAt views i u). absurd (others i u t.0 t.1 marks)) (at_set views seat i w u there);
        one = λ i j u q there there' marks marks'.
            ⊎_elim (λ (t : (i ≡ seat) × (w ≡ u)).
            ⊎_elim (λ (t' : (j ≡ seat) × (w ≡ q)). t.0 ∙ sym t'.0) (λ (t' : (j ≢ seat) × IsKnownAt views j q). absurd (others j q t'.0 t'.1 marks')) (at_set views seat j w q there'))
            (λ (t : (i ≢ seat) × IsKnownAt views i u). absurd (others i u t.0 t.1 marks))
            (at_set views seat i w u there);
        fresh = λ none i u there. absurd (omega arith);
      }

pub publishes : (seat : ℕ) (v : Known) (x y : Latest) (z : Snapshot) → y.last ≡ Some z → y.number ≡ x.number + 1 → (v.publishes ≡ true) ⊎ (x.number ≡ 0) → TurnsAt IsOneList seat v x y PublishesOne
publishes seat v x y z shows more alone views k at =
    let knows = knows_all x y views seat z v k at alone in (
      record { publishes = true; list = k.all ++ z ∷ [] },
      kept_further x y views seat z v k at alone shows more,
      (z, shows, refl, ap (λ (l : List Snapshot). l ++ z ∷ []) (sym knows), longer x y views seat z v k at alone more),
    )

-- ---- the start

-- a seat of a list of one
only : (v : Known) (i : ℕ) → get_elem? (nothing_known ∷ []) i ≡ some v → (i ≡ 0) × (nothing_known ≡ v)
only v zero at = (refl, some-injective nothing_known v at)
only v (suc i) at = absurd (some-ne-none v (sym at))

nothing_shown : (o : Option Snapshot) → o ≡ None → EndsIn [] o
nothing_shown None e = refl
nothing_shown (Some n) e = cc

pub begins : (x : Latest) → x.last ≡ None → x.number ≡ 0 → IsOneList x (nothing_known ∷ [])
begins x none zero_is = record {
  all = [];
  ends = nothing_shown (x.last) none;
  counted = sym zero_is;
  each = λ i v at. subst (λ (u : Known). IsPrefix u.list []) (only v i at).1 ([], refl);
  whole = λ i v at marks. absurd (unmarked nothing_known refl (subst (λ (u : Known). u.publishes ≡ true) (sym (only v i at).1) marks));
  one = λ i j v w at at' marks marks'. (only v i at).0 ∙ sym (only w j at').0;
  fresh = λ _ i v at. subst (λ (u : Known). u.publishes ≡ false) (only v i at).1 refl;
}
