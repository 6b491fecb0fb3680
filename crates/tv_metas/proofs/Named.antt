-- Which of some texts in order begins with some digits: the first one from them on tells.
use Rattle.std.proofs.Common.{◌≡◌, ℕ, Bool, true, false, true≢false, cond, nat_eq, ◌&&◌, ◌||◌, List, [], ◌∷◌, map, refl, sym, ap, subst, ◌∙◌, string_bytes, String, Global, arith}
use Rattle.std.specs.declared.cmp.Ordering.{Ordering}
use Rattle.std.specs.declared.cmp.Ordering.TheVariants.{Less, Equal, Greater}
use Rattle.std.specs.Ordering.{nat_cmp, is_le, ordering_then}
use Rattle.std.specs.List.{filter, list_any, starts_with, AllByRecursion}
use Rattle.std.specs.List.Sorted.{IsStrictlySortedBy}
use Rattle.std.specs.String.{string_cmp}
use Rattle.std.proofs.lemmas.Bool.Decides.{nat_tests}
use Rattle.std.proofs.lemmas.Bool.{false_from_ne_true}
use Rattle.hex.specs.Hex.{encode_lower}
use Rattle.tv_formats.specs.Names.{byte_cmp}
use Rattle.tv_formats.specs.Segments.{is_named}
use Rattle.tv_formats.proofs.PlainNames.{both}

-- whether a text begins with some bytes
abbrev begins : List ℕ → List ℕ → Bool
begins [] x = true
begins (b ∷ d) [] = false
begins (b ∷ d) (c ∷ x) = nat_eq b c && begins d x

starts_is : (x d : List ℕ) → starts_with nat_eq x d ≡ begins d x
starts_is x [] = refl
starts_is [] (b ∷ d) = refl
starts_is (c ∷ x) (b ∷ d) = ap (λ (t : Bool). nat_eq b c && t) (starts_is x d)

same_byte : (b c : ℕ) → nat_eq b c ≡ true → b ≡ c
same_byte b c e = grind (arith, nat_tests)

not_below_itself : (b : ℕ) (r : Ordering) → ordering_then (nat_cmp b b) r ≡ r
not_below_itself b r = rw (level b) refl where
  level : (n : ℕ) → nat_cmp n n ≡ Equal
  level n = grind (arith, nat_tests)

-- a text that begins with some bytes isn't below them
not_below : (d x : List ℕ) → begins d x ≡ true → is_le (byte_cmp d x) ≡ true
not_below [] [] h = refl
not_below [] (c ∷ x) h = refl
not_below (b ∷ d) [] h = absurd cc
not_below (b ∷ d) (c ∷ x) h =
    let t = both (nat_eq b c) (begins d x) h in
    let same : b ≡ c = same_byte b c t.0 in
    rw (← same, not_below_itself b (byte_cmp d x)) (not_below d x t.1)

-- the first bytes of two texts in order
first_bytes : (b c : ℕ) (r s : Ordering) → is_le (ordering_then (nat_cmp b c) r) ≡ true → ordering_then (nat_cmp c b) s ≡ Less → (c ≡ b) × (is_le r ≡ true) × (s ≡ Less)
first_bytes b c r s h l =
    elim (nat_cmp b c) as (λ o. nat_cmp b c ≡ o → is_le (ordering_then o r) ≡ true → (c ≡ b) × (is_le r ≡ true) × (s ≡ Less)) [
      | Less ↦ λ e k.
          let flip : nat_cmp c b ≡ Greater = above b c e in
          absurd (isnt_less s (sym (ap (λ (o : Ordering). ordering_then o s) flip) ∙ l))
      | Equal ↦ λ e k.
          let same : c ≡ b = level b c e in
          (same, k, sym (not_below_itself b s) ∙ ap (λ (n : ℕ). ordering_then (nat_cmp n b) s) (sym same) ∙ l)
      | Greater ↦ λ e k. absurd cc
    ] refl h where
      above : (m n : ℕ) → nat_cmp m n ≡ Less → nat_cmp n m ≡ Greater
      above m n e = grind (arith, nat_tests)

      level : (m n : ℕ) → nat_cmp m n ≡ Equal → n ≡ m
      level m n e = grind (arith, nat_tests)

      isnt_less : (o : Ordering) → Greater ≡ Less → ⊥
      isnt_less o e = absurd cc

-- what stands between some bytes and a text that begins with them begins with them too
between : (d x y : List ℕ) → is_le (byte_cmp d x) ≡ true → byte_cmp x y ≡ Less → begins d y ≡ true → begins d x ≡ true
between [] x y h l k = refl
between (b ∷ d) [] y h l k = absurd cc
between (b ∷ d) (c ∷ x) [] h l k = absurd cc
between (b ∷ d) (c ∷ x) (e ∷ y) h l k =
    let t = both (nat_eq b e) (begins d y) k in
    let last : b ≡ e = same_byte b e t.0 in
    let f = first_bytes b c (byte_cmp d x) (byte_cmp x y) h (subst (λ (n : ℕ). ordering_then (nat_cmp c n) (byte_cmp x y) ≡ Less) (sym last) l) in
    rw f.0 (rw (equal b) (between d x y f.1 f.2 t.1)) where
      equal : (n : ℕ) → nat_eq n n ≡ true
      equal n = grind (arith, nat_tests)

-- above a text that is at or above some bytes, and doesn't begin with them, none does
none_above : (keys : List (String Global)) (d x : List ℕ) → is_le (byte_cmp d x) ≡ true → begins d x ≡ false → AllByRecursion (λ k. byte_cmp x (string_bytes k) ≡ Less) keys
    → list_any (λ name. starts_with nat_eq name d) (map string_bytes keys) ≡ false
none_above [] d x h e l = refl
none_above (k ∷ keys) d x h e l =
    let not_it : begins d (string_bytes k) ≡ false = false_from_ne_true _ (λ t. true≢false (sym (between d x (string_bytes k) h l.0 t) ∙ e)) in
    rw (starts_is (string_bytes k) d, not_it) (none_above keys d x h e l.1)

-- the keys from some bytes on
abbrev from : List ℕ → List (String Global) → List (String Global)
from d keys = filter (λ k. is_le (byte_cmp d (string_bytes k)) && true) keys

-- some text begins with the bytes where the first does that isn't below them
first_tells : (d : List ℕ) (keys : List (String Global)) (k : String Global) (rest : List (String Global)) → IsStrictlySortedBy string_cmp keys → from d keys ≡ k ∷ rest
    → list_any (λ name. starts_with nat_eq name d) (map string_bytes keys) ≡ starts_with nat_eq (string_bytes k) d
unfolding IsStrictlySortedBy
first_tells d [] k rest o e = absurd cc
first_tells d (x ∷ keys) k rest o e =
    elim (is_le (byte_cmp d (string_bytes x))) as (λ b. is_le (byte_cmp d (string_bytes x)) ≡ b → cond (b && true) (x ∷ from d keys) (from d keys) ≡ k ∷ rest → (starts_with nat_eq (string_bytes x) d || list_any (λ name. starts_with nat_eq name d) (map string_bytes keys)) ≡ starts_with nat_eq (string_bytes k) d) [
      | true ↦ λ h is.
          let it : x ≡ k = cc in
          subst (λ (n : String Global). (starts_with nat_eq (string_bytes x) d || list_any (λ name. starts_with nat_eq name d) (map string_bytes keys)) ≡ starts_with nat_eq (string_bytes n) d) it
          (rw (starts_is (string_bytes x) d) (here (begins d (string_bytes x)) _ (λ f. none_above keys d (string_bytes x) h f o.0)))
      | false ↦ λ h is.
          let not_it : begins d (string_bytes x) ≡ false = false_from_ne_true _ (λ t. true≢false (sym (not_below d (string_bytes x) t) ∙ h)) in
          rw (starts_is (string_bytes x) d, not_it) (first_tells d keys k rest o.1 is)
    ] refl e where
      here : (b c : Bool) → (b ≡ false → c ≡ false) → (b || c) ≡ b
      here true c h = refl
      here false c h = h refl

-- where all are below the bytes, none begins with them
none_from : (d : List ℕ) (keys : List (String Global)) → from d keys ≡ [] → list_any (λ name. starts_with nat_eq name d) (map string_bytes keys) ≡ false
none_from d [] e = refl
none_from d (x ∷ keys) e =
    elim (is_le (byte_cmp d (string_bytes x))) as (λ b. is_le (byte_cmp d (string_bytes x)) ≡ b → cond (b && true) (x ∷ from d keys) (from d keys) ≡ [] → (starts_with nat_eq (string_bytes x) d || list_any (λ name. starts_with nat_eq name d) (map string_bytes keys)) ≡ false) [
      | true ↦ λ h is. absurd cc
      | false ↦ λ h is.
          let not_it : begins d (string_bytes x) ≡ false = false_from_ne_true _ (λ t. true≢false (sym (not_below d (string_bytes x) t) ∙ h)) in
          rw (starts_is (string_bytes x) d, not_it) (none_from d keys is)
    ] refl e

-- a name begins with an id where the first name from its digits on does
pub named_by_first : (keys : List (String Global)) (digits id : List ℕ) (range rest : List (String Global)) (k : String Global) → IsStrictlySortedBy string_cmp keys → digits ≡ encode_lower id
    → range ≡ from digits keys → range ≡ k ∷ rest → starts_with nat_eq (string_bytes k) (encode_lower id) ≡ is_named (map string_bytes keys) id
named_by_first keys digits id range rest k o is found first =
    sym (first_tells (encode_lower id) keys k rest o (ap (λ (d : List ℕ). from d keys) (sym is) ∙ sym found ∙ first))

-- where no name stands from an id's digits on, none begins with it
pub named_by_none : (keys : List (String Global)) (digits id : List ℕ) (range : List (String Global)) → digits ≡ encode_lower id
    → range ≡ from digits keys → range ≡ [] → false ≡ is_named (map string_bytes keys) id
named_by_none keys digits id range is found none = sym (none_from (encode_lower id) keys (ap (λ (d : List ℕ). from d keys) (sym is) ∙ sym found ∙ none))
