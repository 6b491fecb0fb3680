-- How the list of a composite file is found at its end.
use Rattle.std.proofs.Common.{◌≡◌, ◌≤◌, ◌<◌, ◌+◌, ◌-◌, ◌^◌, ℕ, List, [], ◌∷◌, ◌++◌, length, take, drop, refl, sym, ap, ◌∙◌, arith, append_assoc, append-nil, length-append, length-drop}
use Rattle.std.proofs.lemmas.List.{drop_at, take_at, take_rest, take-take, length-take-le, take-append-drop}
use Rattle.tv_formats.specs.Footer.{four_bytes}

-- the bytes without the last four, and those
pub record Cut (bytes : List ℕ) (end : ℕ) (before last : List ℕ) : Type 0 where
  pub large : 4 ≤ length bytes
  pub at : length bytes - 4 ≡ end
  pub front : before ≡ take end bytes
  pub back : last ≡ drop end bytes

pub last_of : (bytes : List ℕ) (end : ℕ) (before last front foot : List ℕ) → Cut bytes end before last → bytes ≡ front ++ (foot ++ four_bytes (length foot)) → (before ≡ front ++ foot) × (last ≡ four_bytes (length foot) ++ [])
last_of bytes end before last front foot c whole =
    let e : bytes ≡ (front ++ foot) ++ four_bytes (length foot) = whole ∙ sym (append_assoc front foot (four_bytes (length foot))) in
    let n : length (front ++ foot) ≡ end = omega (arith, c.at, ap length e, length-append (front ++ foot) (four_bytes (length foot))) in (
      c.front ∙ ap (take end) e ∙ take_at (front ++ foot) (four_bytes (length foot)) end n,
      c.back ∙ ap (drop end) e ∙ drop_at (front ++ foot) (four_bytes (length foot)) end n,
    )

-- the list isn't longer than what stands before the last four bytes
pub list_fits : (bytes : List ℕ) (end : ℕ) (before last front foot : List ℕ) → Cut bytes end before last → bytes ≡ front ++ (foot ++ four_bytes (length foot)) → (end ≡ length front + length foot) × (length foot ≤ end)
list_fits bytes end before last front foot c whole =
    grind (arith, append_assoc, length-append)

pub found_at : (bytes : List ℕ) (end : ℕ) (before last front foot : List ℕ) (start len : ℕ) → Cut bytes end before last → bytes ≡ front ++ (foot ++ four_bytes (length foot)) → len ≡ length foot → end - len ≡ start
    → (start ≡ length front) × (take (length before - start) (drop start before) ≡ foot)
found_at bytes end before last front foot start len c whole same is =
    let n = (list_fits bytes end before last front foot c whole).0 in
    let at : start ≡ length front = omega (arith, n, same, is) in
    let rest : drop start before ≡ foot = ap (drop start) (last_of bytes end before last front foot c whole).0 ∙ drop_at front foot start (sym at) in
    (at, take_rest before start ∙ rest)

left_nothing : (n : ℕ) (rest : List ℕ) → length (four_bytes n ++ rest) ≡ 4 → rest ≡ []
left_nothing n [] h = refl
left_nothing n (x ∷ xs) h = absurd (omega (arith, h))

pub cut_only : (bytes : List ℕ) (end : ℕ) (before last rest : List ℕ) (start len : ℕ) → Cut bytes end before last → last ≡ four_bytes len ++ rest → len < 2 ^ 32 → len ≤ end → end - len ≡ start
    → (start ≤ length bytes) × (length (take (length before - start) (drop start before)) < 2 ^ 32)
    × (bytes ≡ take start bytes ++ (take (length before - start) (drop start before) ++ four_bytes (length (take (length before - start) (drop start before)))))
cut_only bytes end before last rest start len c said small le is =
    let four : length last ≡ 4 = omega (arith, ap length c.back, length-drop end bytes, c.at, c.large) in
    let none : rest ≡ [] = left_nothing len rest (ap length (sym said) ∙ four) in
    let last_is : last ≡ four_bytes len = said ∙ ap (λ (l : List ℕ). four_bytes len ++ l) none ∙ append-nil (four_bytes len) in
    let foot = take (length before - start) (drop start before) in
    let foot_is : take (length before - start) (drop start before) ≡ drop start before = take_rest before start in
    let size : length before ≡ end = ap length c.front ∙ length-take-le end bytes (omega (arith, c.at)) in
    let long : length (take (length before - start) (drop start before)) ≡ len = ap length foot_is ∙ omega (arith, length-drop start before, size, is, le) in
    let front : take start before ≡ take start bytes = ap (take start) c.front ∙ take-take start end bytes (omega (arith, is)) in (
      omega (arith, is, c.at),
      omega (arith, long, small),
      sym (take-append-drop end bytes)
          ∙ ap (λ (l : List ℕ). l ++ drop end bytes) (sym c.front)
          ∙ ap (λ (l : List ℕ). before ++ l) (sym c.back ∙ last_is)
          ∙ ap (λ (l : List ℕ). l ++ four_bytes len) (sym (take-append-drop start before))
          ∙ append_assoc (take start before) (drop start before) (four_bytes len)
          ∙ ap (λ (l : List ℕ). l ++ (drop start before ++ four_bytes len)) front
          ∙ ap (λ (l : List ℕ). take start bytes ++ (l ++ four_bytes len)) (sym foot_is)
          ∙ ap (λ n. take start bytes ++ (take (length before - start) (drop start before) ++ four_bytes n)) (sym long),
    )
