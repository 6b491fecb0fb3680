-- Line feeds in bytes that are held.
use Rattle.std.proofs.Common.{◌≡◌, ◌≢◌, ℕ, zero, suc, ◌+◌, ◌-◌, ◌<◌, true, false, List, [], ◌∷◌, ◌++◌, length, take, drop, refl, sym, ap, ◌∙◌, arith, add-one}
use Rattle.std.specs.Prelude.{slice_index}
use Rattle.std.proofs.Math.Seq.{drop-cons, take-length}
use Rattle.std.proofs.lemmas.Bool.{ne_eqb}
use Rattle.std.proofs.lemmas.List.{take-append-drop, drop-drop, drop-take, length-take}
use Rattle.tv_script.specs.ScriptLines.{NoFeed, IsFeedAt, Moves}

-- no line feed stands before a place
pub no_feed_before : (n : ℕ) (xs : List ℕ) → ((k : ℕ) → k < n → slice_index xs k ≢ 10) → NoFeed (take n xs)
no_feed_before zero xs h = refl
no_feed_before (suc n) [] h = refl
no_feed_before (suc n) (x ∷ xs) h = rw (ne_eqb x 10 (h 0 (omega arith))) (no_feed_before n xs (λ k lt. h (suc k) (omega arith)))

-- the bytes around the first line feed
pub around_feed : (held : List ℕ) (n : ℕ) → n < length held → slice_index held n ≡ 10 → held ≡ take n held ++ 10 ∷ drop (n + 1) held
around_feed held n lt feed =
    let cut : drop n held ≡ 10 ∷ drop (n + 1) held = rw (drop-cons held n 0 lt, add-one) (ap (λ (b : ℕ). b ∷ drop (suc n) held) feed) in
    sym (take-append-drop n held) ∙ ap (λ (xs : List ℕ). take n held ++ xs) cut

-- what is held after the first n + 1 bytes were taken
pub held_after : (items : List ℕ) (start end n : ℕ) → n < end - start → take (end - (start + (n + 1))) (drop (start + (n + 1)) items) ≡ drop (n + 1) (take (end - start) (drop start items))
held_after items start end n lt =
    let m : end - start ≡ (n + 1) + (end - (start + (n + 1))) = omega arith in
    rw (m, drop-take (n + 1) (end - (start + (n + 1))) (drop start items), drop-drop (n + 1) start items) refl

module _ (held items bytes : List ℕ) (start end n : ℕ) (line longer front : List ℕ) (view : take (end - start) (drop start items) ≡ held) (same : bytes ≡ items) (found : IsFeedAt (take (end - start) (drop start bytes)) n)
    (front-is : front ≡ take n (take (end - start) (drop start bytes))) (longer-is : longer ≡ line ++ front) where
  pub moves_line : (n ≡ length (take (end - start) (drop start bytes)) → ⊥) → Moves true held (take (end - (start + (n + 1))) (drop (start + (n + 1)) items)) line longer
  moves_line ne =
      let h = take (end - start) (drop start bytes) in
      let lt : n < length h = omega (arith, found.within) in
      let is : held ≡ h = sym view ∙ ap (λ (xs : List ℕ). take (end - start) (drop start xs)) (sym same) in
      let room : n < end - start = omega (arith, length-take (end - start) (drop start bytes)) in (
        front,
        rw front-is (no_feed_before n h found.before),
        is ∙ around_feed h n lt (found.feed lt) ∙ rw (← same, held_after bytes start end n room, front-is) refl,
        longer-is,
      )

  pub moves_all : n ≡ length (take (end - start) (drop start bytes)) → Moves false held (take (end - end) (drop end items)) line longer
  moves_all all =
      let h = take (end - start) (drop start bytes) in
      let is : h ≡ held = ap (λ (xs : List ℕ). take (end - start) (drop start xs)) same ∙ view in
      let whole : take n h ≡ h = ap (λ (k : ℕ). take k h) all ∙ take-length h in
      let none : end - end ≡ 0 = omega arith in
      (rw (← is, ← whole) (no_feed_before n h found.before), rw none refl, longer-is ∙ ap (λ (xs : List ℕ). line ++ xs) (front-is ∙ whole ∙ is))
