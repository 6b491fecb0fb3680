-- Facts on where the bodies of a composite file begin.
use Rattle.std.proofs.Common.{◌≡◌, ◌≢◌, ◌≤◌, ◌<◌, ◌+◌, ◌-◌, ◌^◌, ℕ, zero, suc, Bool, false, ◌||◌, List, [], ◌∷◌, ◌++◌, length, take, drop, get_or, slice_range, refl, sym, ap, subst, ◌∙◌, arith, append_assoc, append-nil, length-append, length-drop}
use Rattle.std.proofs.lemmas.List.{map-append, take-append-drop, length-take-le, take-append-le, drop-append-le, drop-drop, take_rest, drop_all, drop_more}
use Rattle.std.proofs.lemmas.List.Folds.{list_any-append}
use Rattle.std.proofs.lemmas.Bool.Decides.{nat_tests}
use Rattle.std.specs.List.{AllByRecursion, list_any}
use Rattle.tv_formats.specs.Footer.{four_bytes}
use Rattle.tv_formats.specs.VInt.{vint}
use Rattle.tv_framing.specs.declared.address.FileAddr.{FileAddr}
use Rattle.tv_framing.specs.declared.starts.Start.{Start}
use Rattle.tv_framing.specs.Composite.{Part, AreDistinct, IsAddress, IsComposite, addresses, bodies, composite, footing, grown, is_at, listed}
use Rattle.tv_framing.specs.Starts.{Ascend, Fill, footing_text, listed_from, next_start, parts_of, start_addresses}
use Rattle.std.specs.Prelude.{Result, Ok, Err, OnOk}
use Rattle.std.proofs.lemmas.Bool.{or_parts}
use Rattle.tv_base.specs.declared.io.IoError.{IoError}
use Rattle.tv_base.specs.declared.writers.TerminatingWrite.{Ghosts}
use Rattle.tv_framing.specs.Closing.{EndFaults}
use Rattle.tv_framing.specs.Composing.{Composing, IsBegun, before_last, the_last}

pub addresses_of : (bytes : List ℕ) (ss : List Start) → addresses (parts_of bytes ss) ≡ start_addresses ss
addresses_of bytes [] = refl
addresses_of bytes (s ∷ ss) = ap (λ (l : List FileAddr). s.addr ∷ l) (addresses_of bytes ss)

-- a test of their addresses
pub any_start : (p : FileAddr → Bool) (ss : List Start) → list_any p (start_addresses ss) ≡ list_any (λ s. p s.addr) ss
any_start p [] = refl
any_start p (s ∷ ss) = ap (λ b. p s.addr || b) (any_start p ss)

length_of : (bytes : List ℕ) (ss : List Start) → length (parts_of bytes ss) ≡ length ss
length_of bytes [] = refl
length_of bytes (s ∷ ss) = ap suc (length_of bytes ss)

pub ascend_le : (from end : ℕ) (ss : List Start) → Ascend from ss end → from ≤ end
ascend_le from end [] h = h
ascend_le from end (s ∷ ss) h = omega (arith, h.0, ascend_le s.offset end ss h.1)

pub ascend_further : (from end more : ℕ) (ss : List Start) → Ascend from ss end → end ≤ more → Ascend from ss more
ascend_further from end more [] h le = omega (arith, h)
ascend_further from end more (s ∷ ss) h le = (h.0, ascend_further s.offset end more ss h.1 le)

ascend_push : (from end : ℕ) (ss : List Start) (a : FileAddr) → Ascend from ss end → Ascend from (ss ++ record { addr = a; offset = end } ∷ []) end
ascend_push from end [] a h = (h, omega arith)
ascend_push from end (s ∷ ss) a h = (h.0, ascend_push s.offset end ss a h.1)

fill_push : (end : ℕ) (ss : List Start) (a : FileAddr) → Fill ss end → Fill (ss ++ record { addr = a; offset = end } ∷ []) end
fill_push end [] a h = (h, omega arith)
fill_push end (s ∷ ss) a h = (h.0, ascend_push 0 end ss a h.1)

pub fill_further : (end more : ℕ) (ss : List Start) → ss ≢ [] → Fill ss end → end ≤ more → Fill ss more
fill_further end more [] some h le = absurd (some refl)
fill_further end more (s ∷ ss) some h le = (h.0, ascend_further 0 end more ss h.1 le)

-- ---- the bodies

two_cuts : (o p : ℕ) (bytes : List ℕ) → o ≤ p → take (p - o) (drop o bytes) ++ drop p bytes ≡ drop o bytes
two_cuts o p bytes le =
    let whole : o + (p - o) ≡ p = omega (arith, le) in
    let rest : drop p bytes ≡ drop (p - o) (drop o bytes) = ap (λ n. drop n bytes) (sym whole) ∙ sym (drop-drop (p - o) o bytes) in
    ap (λ (l : List ℕ). take (p - o) (drop o bytes) ++ l) rest ∙ take-append-drop (p - o) (drop o bytes)

bodies_from : (bytes : List ℕ) (s : Start) (ss : List Start) → Ascend s.offset ss (length bytes) → bodies (parts_of bytes (s ∷ ss)) ≡ drop s.offset bytes
bodies_from bytes s [] h = append-nil (take (length bytes - s.offset) (drop s.offset bytes)) ∙ take_rest bytes s.offset
bodies_from bytes s (t ∷ ts) h =
    ap (λ (l : List ℕ). slice_range bytes s.offset t.offset ++ l) (bodies_from bytes t ts h.1) ∙ two_cuts s.offset t.offset bytes h.0

nothing : (bytes : List ℕ) → length bytes ≡ 0 → [] ≡ bytes
nothing [] h = refl
nothing (b ∷ bytes) h = absurd (omega (arith, h))

pub bodies_whole : (bytes : List ℕ) (ss : List Start) → Fill ss (length bytes) → bodies (parts_of bytes ss) ≡ bytes
bodies_whole bytes [] h = nothing bytes h
bodies_whole bytes (s ∷ ss) h =
    bodies_from bytes s ss (subst (λ n. Ascend n ss (length bytes)) (sym h.0) h.1) ∙ ap (λ n. drop n bytes) h.0

-- how long a body is that the next one follows
body_length : (bytes : List ℕ) (o p : ℕ) → o ≤ p → p ≤ length bytes → length (slice_range bytes o p) ≡ p - o
body_length bytes o p le in_it = length-take-le (p - o) (drop o bytes) (omega (arith, length-drop o bytes))

listed_same : (bytes : List ℕ) (before : ℕ) (s : Start) (ss : List Start) → Ascend s.offset ss (length bytes)
    → listed_from before (s ∷ ss) ≡ listed (s.offset - before) (parts_of bytes (s ∷ ss))
listed_same bytes before s [] h = refl
listed_same bytes before s (t ∷ ts) h =
    grind (arith, body_length, ascend_le, listed_same bytes s.offset t ts h.1)

pub listed_whole : (bytes : List ℕ) (ss : List Start) → Fill ss (length bytes) → listed_from 0 ss ≡ listed 0 (parts_of bytes ss)
listed_whole bytes [] h = refl
listed_whole bytes (s ∷ ss) h =
    listed_same bytes 0 s ss (subst (λ n. Ascend n ss (length bytes)) (sym h.0) h.1) ∙ ap (λ n. listed (n - 0) (parts_of bytes (s ∷ ss))) h.0

pub footing_same : (bytes : List ℕ) (ss : List Start) → Fill ss (length bytes) → footing_text ss ≡ footing (parts_of bytes ss)
footing_same bytes ss h =
    ap (λ n. vint n ++ listed_from 0 ss) (sym (length_of bytes ss)) ∙ ap (λ (l : List ℕ). vint (length (parts_of bytes ss)) ++ l) (listed_whole bytes ss h)

-- ---- more bytes

cut_before : (bytes more : List ℕ) (o p : ℕ) → o ≤ p → p ≤ length bytes → slice_range (bytes ++ more) o p ≡ slice_range bytes o p
cut_before bytes more o p le in_it =
    ap (take (p - o)) (drop-append-le o bytes more (omega arith)) ∙ take-append-le (p - o) (drop o bytes) more (omega (arith, length-drop o bytes))

cut_last : (bytes more : List ℕ) (o : ℕ) → o ≤ length bytes → slice_range (bytes ++ more) o (length (bytes ++ more)) ≡ slice_range bytes o (length bytes) ++ more
cut_last bytes more o le =
    take_rest (bytes ++ more) o ∙ drop-append-le o bytes more le ∙ ap (λ (l : List ℕ). l ++ more) (sym (take_rest bytes o))

grown_from : (bytes more : List ℕ) (s : Start) (ss : List Start) → Ascend s.offset ss (length bytes) → parts_of (bytes ++ more) (s ∷ ss) ≡ grown (parts_of bytes (s ∷ ss)) more
grown_from bytes more s [] h = ap (λ (b : List ℕ). record { addr = s.addr; body = b } ∷ []) (cut_last bytes more s.offset h)
grown_from bytes more s (t ∷ ts) h =
    ap (λ (b : List ℕ). record { addr = s.addr; body = b } ∷ parts_of (bytes ++ more) (t ∷ ts)) (cut_before bytes more s.offset t.offset h.0 (ascend_le t.offset (length bytes) ts h.1))
    ∙ ap (λ (l : List Part). record { addr = s.addr; body = slice_range bytes s.offset t.offset } ∷ l) (grown_from bytes more t ts h.1)

pub grown_whole : (bytes more : List ℕ) (ss : List Start) → Fill ss (length bytes) → parts_of (bytes ++ more) ss ≡ grown (parts_of bytes ss) more
grown_whole bytes more [] h = refl
grown_whole bytes more (s ∷ ss) h = grown_from bytes more s ss (subst (λ n. Ascend n ss (length bytes)) (sym h.0) h.1)

-- ---- one more start

empty_end : (bytes : List ℕ) → slice_range bytes (length bytes) (length bytes) ≡ []
empty_end bytes = take_rest bytes (length bytes) ∙ drop_all (length bytes) bytes (omega arith)

pub parts_push : (bytes : List ℕ) (ss : List Start) (a : FileAddr) → parts_of bytes (ss ++ record { addr = a; offset = length bytes } ∷ []) ≡ parts_of bytes ss ++ record { addr = a; body = [] } ∷ []
parts_push bytes [] a = ap (λ (b : List ℕ). record { addr = a; body = b } ∷ []) (empty_end bytes)
parts_push bytes (s ∷ []) a =
    ap (λ (l : List Part). record { addr = s.addr; body = slice_range bytes s.offset (length bytes) } ∷ l) (parts_push bytes [] a)
parts_push bytes (s ∷ t ∷ ts) a =
    ap (λ (l : List Part). record { addr = s.addr; body = slice_range bytes s.offset t.offset } ∷ l) (parts_push bytes (t ∷ ts) a)

pub turned : (a b : FileAddr) → is_at a b ≡ is_at b a
turned a b =
    grind (arith, nat_tests)

neither : (a b : Bool) → a ≡ false → b ≡ false → (a || b) ≡ false
neither a b p q = rw p q

pub distinct_push : (addrs : List FileAddr) (a : FileAddr) → AreDistinct addrs → list_any (is_at a) addrs ≡ false → AreDistinct (addrs ++ a ∷ [])
distinct_push [] a h new = (refl, tt)
distinct_push (x ∷ xs) a h new =
    let both = or_parts (is_at a x) (list_any (is_at a) xs) new in
    (list_any-append (is_at x) xs (a ∷ []) ∙ neither _ _ h.0 (neither (is_at x a) false (turned x a ∙ both.0) refl), distinct_push xs a h.1 both.1)

-- ---- what was written so far

last_more : (taken more : List ℕ) (n : ℕ) → n ≤ length taken → the_last (n + length more) (taken ++ more) ≡ the_last n taken ++ more
last_more taken more n le =
    grind (arith, length-append, drop-append-le)

before_more : (taken more : List ℕ) (n : ℕ) → n ≤ length taken → before_last (n + length more) (taken ++ more) ≡ before_last n taken
before_more taken more n le =
    grind (arith, length-append, take-append-le)

pub last_length : (taken : List ℕ) (n : ℕ) → n ≤ length taken → length (the_last n taken) ≡ n
last_length taken n le = omega (arith, length-drop (length taken - n) taken)

fill_last : (ss : List Start) (taken : List ℕ) (n : ℕ) → IsBegun ss n taken → Fill ss (length (the_last n taken))
fill_last ss taken n b = subst (Fill ss) (sym (last_length taken n b.within)) b.fill

pub written_is : (ss : List Start) (n : ℕ) (taken : List ℕ) → IsBegun ss n taken → length (bodies (parts_of (the_last n taken) ss)) ≡ n
written_is ss n taken b = ap length (bodies_whole (the_last n taken) ss (fill_last ss taken n b)) ∙ last_length taken n b.within

some_starts : (bytes : List ℕ) (ss : List Start) → parts_of bytes ss ≢ [] → ss ≢ []
some_starts bytes ss h e = h (ap (parts_of bytes) e)

pub begun_more : (ss : List Start) (n : ℕ) (taken more now : List ℕ) → IsBegun ss n taken → parts_of (the_last n taken) ss ≢ [] → now ≡ taken ++ more → IsBegun ss (n + length more) now
begun_more ss n taken more now b some is = record {
  within = omega (arith, b.within, ap length is, length-append taken more);
  fill = fill_further n (n + length more) ss (some_starts (the_last n taken) ss some) b.fill (omega arith);
  each = b.each;
  distinct = b.distinct;
}

pub parts_more : (ss : List Start) (n : ℕ) (taken more now : List ℕ) → IsBegun ss n taken → now ≡ taken ++ more → parts_of (the_last (n + length more) now) ss ≡ grown (parts_of (the_last n taken) ss) more
parts_more ss n taken more now b is =
    ap (λ (l : List ℕ). parts_of (the_last (n + length more) l) ss) is
    ∙ ap (λ (l : List ℕ). parts_of l ss) (last_more taken more n b.within)
    ∙ grown_whole (the_last n taken) more ss (fill_last ss taken n b)

pub before_same : (n : ℕ) (taken more now : List ℕ) → n ≤ length taken → now ≡ taken ++ more → before_last (n + length more) now ≡ before_last n taken
before_same n taken more now le is = ap (before_last (n + length more)) is ∙ before_more taken more n le

pub addresses_push : (ss : List Start) (s : Start) → start_addresses (ss ++ s ∷ []) ≡ start_addresses ss ++ s.addr ∷ []
addresses_push ss s = map-append (λ (x : Start). x.addr) ss (s ∷ [])

pub all_get : {X : Type 0} (P : X → Type 0) (xs : List X) (i : ℕ) (d : X) → i < length xs → AllByRecursion P xs → P (get_or xs i d)
all_get P [] i d lt h = absurd (omega (arith, lt))
all_get P (x ∷ xs) zero d lt h = h.0
all_get P (x ∷ xs) (suc i) d lt h = all_get P xs i d (omega (arith, lt)) h.1

pub all_push : {X : Type 0} (P : X → Type 0) (xs : List X) (x : X) → AllByRecursion P xs → P x → AllByRecursion P (xs ++ x ∷ [])
all_push P [] x each h = (h, tt)
all_push P (y ∷ ys) x each h = (each.0, all_push P ys x each.1 h)

pub begun_push : (ss now : List Start) (n : ℕ) (taken : List ℕ) (a : FileAddr) → IsAddress a → IsBegun ss n taken → list_any (is_at a) (addresses (parts_of (the_last n taken) ss)) ≡ false
    → now ≡ ss ++ record { addr = a; offset = n } ∷ [] → IsBegun now n taken
begun_push ss now n taken a fits b new is = record {
  within = b.within;
  each = subst (λ (l : List Start). AllByRecursion IsAddress (start_addresses l)) (sym is)
      (subst (AllByRecursion IsAddress) (sym (addresses_push ss (record { addr = a; offset = n }))) (all_push IsAddress (start_addresses ss) a b.each fits));
  fill = subst (λ (l : List Start). Fill l n) (sym is) (fill_push n ss a b.fill);
  distinct = subst (λ (l : List Start). AreDistinct (start_addresses l)) (sym is)
      (subst AreDistinct (sym (addresses_push ss (record { addr = a; offset = n })))
      (distinct_push (start_addresses ss) a b.distinct (ap (list_any (is_at a)) (sym (addresses_of (the_last n taken) ss)) ∙ new)));
}

pub parts_begun : (ss now : List Start) (n : ℕ) (taken : List ℕ) (a : FileAddr) → IsBegun ss n taken → now ≡ ss ++ record { addr = a; offset = n } ∷ []
    → parts_of (the_last n taken) now ≡ parts_of (the_last n taken) ss ++ record { addr = a; body = [] } ∷ []
parts_begun ss now n taken a b is =
    ap (parts_of (the_last n taken)) (is ∙ ap (λ k. ss ++ record { addr = a; offset = k } ∷ []) (sym (last_length taken n b.within)))
    ∙ parts_push (the_last n taken) ss a

-- ---- the whole file

pub footing_last : (ss : List Start) (n : ℕ) (taken : List ℕ) → IsBegun ss n taken → footing_text ss ≡ footing (parts_of (the_last n taken) ss)
footing_last ss n taken b = footing_same (the_last n taken) ss (fill_last ss taken n b)

pub closed : (ss : List Start) (n : ℕ) (taken now : List ℕ) → IsBegun ss n taken → now ≡ taken ++ (footing_text ss ++ four_bytes (length (footing_text ss)))
    → now ≡ before_last n taken ++ composite (parts_of (the_last n taken) ss)
closed ss n taken now b is =
    let last = the_last n taken in
    let list : footing_text ss ++ four_bytes (length (footing_text ss)) ≡ footing (parts_of (the_last n taken) ss) ++ four_bytes (length (footing (parts_of (the_last n taken) ss))) =
    ap (λ (l : List ℕ). l ++ four_bytes (length l)) (footing_last ss n taken b) in
    let cut : taken ≡ before_last n taken ++ bodies (parts_of (the_last n taken) ss) =
    sym (take-append-drop (length taken - n) taken) ∙ ap (λ (l : List ℕ). before_last n taken ++ l) (sym (bodies_whole (the_last n taken) ss (fill_last ss taken n b))) in
    is ∙ ap (λ (l : List ℕ). taken ++ l) list ∙ ap (λ (l : List ℕ). l ++ (footing (parts_of (the_last n taken) ss) ++ four_bytes (length (footing (parts_of (the_last n taken) ss))))) cut
    ∙ append_assoc (before_last n taken) (bodies (parts_of (the_last n taken) ss)) (footing (parts_of (the_last n taken) ss) ++ four_bytes (length (footing (parts_of (the_last n taken) ss))))

pub closed_form : (ss : List Start) (n : ℕ) (taken : List ℕ) → IsBegun ss n taken → length (footing_text ss) < 2 ^ 32 → IsComposite (composite (parts_of (the_last n taken) ss)) (parts_of (the_last n taken) ss)
closed_form ss n taken b short = record {
  each = subst (AllByRecursion IsAddress) (sym (addresses_of (the_last n taken) ss)) b.each;
  distinct = subst AreDistinct (sym (addresses_of (the_last n taken) ss)) b.distinct;
  short = subst (λ (l : List ℕ). length l < 2 ^ 32) (footing_last ss n taken b) short;
  whole = refl;
}

-- ---- what is seen of a writer

pub begun_view : {W : Type 0} (v : Composing W) (w : W) (before : List ℕ) (old now : List Part) (p : Part) → record { writer = w; before = before; parts = old } ≡ v → now ≡ old ++ p ∷ []
    → record { writer = w; before = before; parts = now } ≡ record v { parts = v.parts ++ p ∷ [] }
begun_view {W} v w before old now p is grows =
    ap (λ (l : List Part). let r : Composing W = record { writer = w; before = before; parts = l } in r) grows
    ∙ ap (λ (u : Composing W). record u { parts = u.parts ++ p ∷ [] }) is

pub on_ok : {T E P Q : Type 0} (r : Result T E) → OnOk r P → (P → Q) → OnOk r Q
on_ok (Ok x) h f = f h
on_ok (Err e) h f = tt

pub faults_so : {W A : Type 0} (w : Ghosts W) (old new : W) (m n : ℕ) (text bytes : List ℕ) (result : Result A IoError) → m ≡ n → text ≡ bytes → EndFaults w (2 ^ 32 ≤ m) old new text result → EndFaults w (2 ^ 32 ≤ n) old new bytes result
faults_so w old new m n text bytes result same is h =
    subst (λ k. EndFaults w (2 ^ 32 ≤ k) old new bytes result) same (subst (λ (l : List ℕ). EndFaults w (2 ^ 32 ≤ m) old new l result) is h)

-- ---- where a body lies

next_between : (from end : ℕ) (ss : List Start) → Ascend from ss end → (from ≤ next_start end ss) × (next_start end ss ≤ end)
next_between from end [] h = (h, omega arith)
next_between from end (s ∷ ss) h = (h.0, ascend_le s.offset end ss h.1)

pub start_front : (ss : List Start) (i : ℕ) (s : Start) → i < length ss → s ≡ get_or ss i s → drop i ss ≡ s ∷ drop (i + 1) ss
start_front ss i s lt is = drop_more ss i s lt ∙ ap (λ (x : Start). x ∷ drop (i + 1) ss) (sym is)

pub later_ascend : (ss : List Start) (i from end : ℕ) (s : Start) → drop i ss ≡ s ∷ drop (i + 1) ss → Ascend from (drop i ss) end → Ascend s.offset (drop (i + 1) ss) end
later_ascend ss i from end s front h =
    let both : Ascend from (s ∷ drop (i + 1) ss) end = subst (λ (l : List Start). Ascend from l end) front h in both.1

pub range_inside : (ss : List Start) (i from end to : ℕ) (s : Start) → drop i ss ≡ s ∷ drop (i + 1) ss → Ascend from (drop i ss) end → to ≡ next_start end (drop (i + 1) ss) → (s.offset ≤ to) × (to ≤ end)
range_inside ss i from end to s front h is =
    let between = next_between s.offset end (drop (i + 1) ss) (later_ascend ss i from end s front h) in (omega (arith, between.0, is), omega (arith, between.1, is))
