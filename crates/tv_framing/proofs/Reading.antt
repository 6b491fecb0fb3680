-- How the list of a composite file and its bodies agree.
use Rattle.std.proofs.Common.{◌≡◌, ◌≤◌, ◌<◌, ◌==◌, ◌+◌, ◌-◌, ◌^◌, ℕ, suc, Bool, true, false, ◌||◌, ◌&&◌, cond, eqb, List, [], ◌∷◌, ◌++◌, length, take, drop, get_or, slice_range, Option, Some, None, refl, sym, ap, subst, ◌∙◌, arith, append_assoc, append-nil, length-append, length-drop}
use Rattle.std.proofs.lemmas.List.{drop_at, drop_more, take_at, take_more, length-take-le}
use Rattle.std.specs.List.{AllByRecursion, list_any}
use Rattle.tv_formats.specs.Footer.{four_bytes}
use Rattle.tv_formats.specs.VInt.{vint}
use Rattle.tv_framing.specs.declared.address.FileAddr.{FileAddr}
use Rattle.tv_framing.specs.declared.entries.PartEntry.{PartEntry}
use Rattle.tv_framing.specs.declared.starts.Start.{Start}
use Rattle.std.specs.BTreeSet.{BTreeSet}
use Rattle.std.specs.BTreeSet as tree
use Rattle.std.specs.Ordering.{is_eq, nat_cmp, ordering_then}
use Rattle.std.specs.declared.cmp.Ordering.{Ordering}
use Rattle.std.specs.declared.cmp.Ordering.TheVariants.{Less, Equal, Greater}
use Rattle.std.proofs.lemmas.Bool.{eqb-true, or_parts}
use Rattle.std.proofs.lemmas.Bool.Decides.{nat_tests}
use Rattle.std.proofs.lemmas.List.Folds.{list_any-append}
use Rattle.std.proofs.lemmas.Option.{none-some, same_Some}
use Rattle.tv_framing.specs.contracts.address.FileAddrOrd.TheImpl as order
use Rattle.tv_framing.specs.Composite.{Part, AreDistinct, IsAddress, IsComposite, addresses, bodies, footing, is_at, listed}
use Rattle.tv_framing.specs.Entries.{BeginsAtFirst, IsLayout, entries_text, entry_addresses, entry_text, gaps, starts_after}
use Rattle.tv_framing.specs.Fitting.{EntryFits, SpellsEntries}
use Rattle.tv_framing.specs.Starts.{Ascend, Fill, next_start, parts_of, start_addresses}
use Rattle.tv_framing.proofs.Parts.{addresses_of, addresses_push, all_get, all_push, bodies_whole, distinct_push, turned}

-- ---- the entries of some parts

abbrev pub entries_of : ℕ → List Part → List PartEntry
entries_of gap [] = []
entries_of gap (part ∷ parts) = record { gap = gap; addr = part.addr } ∷ entries_of (length part.body) parts

pub listed_entries : (gap : ℕ) (parts : List Part) → listed gap parts ≡ entries_text (entries_of gap parts)
listed_entries gap [] = refl
listed_entries gap (p ∷ ps) =
    ap (λ (l : List ℕ). vint gap ++ (four_bytes p.addr.field ++ (vint p.addr.idx ++ l))) (listed_entries (length p.body) ps)
    ∙ regrouped (vint gap) (four_bytes p.addr.field) (vint p.addr.idx) (entries_text (entries_of (length p.body) ps))
  where
    regrouped : (a b c d : List ℕ) → a ++ (b ++ (c ++ d)) ≡ (a ++ (b ++ c)) ++ d
    regrouped a b c d = simp append_assoc

pub count_entries : (gap : ℕ) (parts : List Part) → length (entries_of gap parts) ≡ length parts
count_entries gap [] = refl
count_entries gap (p ∷ ps) = ap suc (count_entries (length p.body) ps)

pub addresses_entries : (gap : ℕ) (parts : List Part) → entry_addresses (entries_of gap parts) ≡ addresses parts
addresses_entries gap [] = refl
addresses_entries gap (p ∷ ps) = ap (λ (l : List FileAddr). p.addr ∷ l) (addresses_entries (length p.body) ps)

pub gaps_entries : (gap : ℕ) (parts : List Part) → gaps (entries_of gap parts) ≤ gap + length (bodies parts)
gaps_entries gap [] = omega arith
gaps_entries gap (p ∷ ps) = omega (arith, gaps_entries (length p.body) ps, length-append p.body (bodies ps))

pub fits_entries : (gap : ℕ) (parts : List Part) → gap < 2 ^ 64 → length (bodies parts) < 2 ^ 64 → AllByRecursion IsAddress (addresses parts) → AllByRecursion EntryFits (entries_of gap parts)
fits_entries gap [] lt short h = tt
fits_entries gap (p ∷ ps) lt short h =
    let long = length-append p.body (bodies ps) in
    ((lt, h.0), fits_entries (length p.body) ps (omega (arith, long, short)) (omega (arith, long, short)) h.1)

first_entry : (parts : List Part) → BeginsAtFirst (entries_of 0 parts) (length (bodies parts))
first_entry [] = refl
first_entry (p ∷ ps) = refl

pub layout_of : (parts : List Part) → AreDistinct (addresses parts) → IsLayout (entries_of 0 parts) (length (bodies parts))
layout_of parts h = record {
  first = first_entry parts;
  within = omega (arith, gaps_entries 0 parts);
  distinct = subst AreDistinct (sym (addresses_entries 0 parts)) h;
}

-- ---- the parts of some entries

pub start_addresses_after : (o : ℕ) (es : List PartEntry) → start_addresses (starts_after o es) ≡ entry_addresses es
start_addresses_after o [] = refl
start_addresses_after o (e ∷ es) = ap (λ (l : List FileAddr). e.addr ∷ l) (start_addresses_after (o + e.gap) es)

ascend_after : (o len : ℕ) (es : List PartEntry) → o + gaps es ≤ len → Ascend o (starts_after o es) len
ascend_after o len [] h = omega (arith, h)
ascend_after o len (e ∷ es) h = (omega arith, ascend_after (o + e.gap) len es (omega (arith, h)))

pub fill_after : (len : ℕ) (es : List PartEntry) → IsLayout es len → Fill (starts_after 0 es) len
fill_after len [] h = h.first
fill_after len (e ∷ es) h =
    let at : 0 + e.gap ≡ 0 = omega (arith, h.first) in
    (at, subst (λ n. Ascend n (starts_after (0 + e.gap) es) len) at (ascend_after (0 + e.gap) len es (omega (arith, h.within))))

entries_back : (bytes : List ℕ) (o : ℕ) (e : PartEntry) (es : List PartEntry) → o + (e.gap + gaps es) ≤ length bytes → entries_of e.gap (parts_of bytes (starts_after o (e ∷ es))) ≡ e ∷ es
entries_back bytes o e [] h = refl
entries_back bytes o e (f ∷ fs) h =
    grind (arith, length-take-le, length-drop, entries_back bytes (o + e.gap) f fs (omega (arith, h)))

pub entries_whole : (bytes : List ℕ) (es : List PartEntry) → IsLayout es (length bytes) → entries_of 0 (parts_of bytes (starts_after 0 es)) ≡ es
entries_whole bytes [] h = refl
entries_whole bytes (e ∷ es) h =
    ap (λ n. entries_of n (parts_of bytes (starts_after 0 (e ∷ es)))) (sym h.first) ∙ entries_back bytes 0 e es (omega (arith, h.within))

fits_addresses : (es : List PartEntry) → AllByRecursion EntryFits es → AllByRecursion IsAddress (entry_addresses es)
fits_addresses [] h = tt
fits_addresses (e ∷ es) h = (h.0.1, fits_addresses es h.1)

-- a file whose list has these entries is made of the parts that begin there
pub composite_of : (bytes front foot : List ℕ) (es : List PartEntry) → bytes ≡ front ++ (foot ++ four_bytes (length foot)) → length foot < 2 ^ 32 → foot ≡ vint (length es) ++ entries_text es
    → IsLayout es (length front) → AllByRecursion EntryFits es → IsComposite bytes (parts_of front (starts_after 0 es))
composite_of bytes front foot es whole short list layout fits =
    let parts = parts_of front (starts_after 0 es) in
    let same : addresses (parts_of front (starts_after 0 es)) ≡ entry_addresses es = addresses_of front (starts_after 0 es) ∙ start_addresses_after 0 es in
    let back = entries_whole front es layout in
    let number : length (parts_of front (starts_after 0 es)) ≡ length es = sym (count_entries 0 parts) ∙ ap length back in
    let listing : listed 0 (parts_of front (starts_after 0 es)) ≡ entries_text es = listed_entries 0 parts ∙ ap entries_text back in
    let foot_is : foot ≡ footing (parts_of front (starts_after 0 es)) = list ∙ ap (λ n. vint n ++ entries_text es) (sym number) ∙ ap (λ (l : List ℕ). vint (length parts) ++ l) (sym listing) in
    record {
      each = subst (AllByRecursion IsAddress) (sym same) (fits_addresses es fits);
      distinct = subst AreDistinct (sym same) layout.distinct;
      short = subst (λ (l : List ℕ). length l < 2 ^ 32) foot_is short;
      whole = whole ∙ ap (λ (l : List ℕ). front ++ (l ++ four_bytes (length l))) foot_is ∙ ap (λ (l : List ℕ). l ++ (footing parts ++ four_bytes (length (footing parts)))) (sym (bodies_whole front (starts_after 0 es) (fill_after (length front) es layout)));
    }

-- ---- reading entry by entry

text_push : (es : List PartEntry) (e : PartEntry) → entries_text (es ++ e ∷ []) ≡ entries_text es ++ entry_text e
text_push [] e = append-nil (entry_text e)
text_push (x ∷ xs) e = ap (λ (l : List ℕ). entry_text x ++ l) (text_push xs e) ∙ sym (append_assoc (entry_text x) (entries_text xs) (entry_text e))

pub read_more : (bytes front : List ℕ) (es now : List PartEntry) (e : PartEntry) (left after : List ℕ) → bytes ≡ front ++ (entries_text es ++ left) → left ≡ entry_text e ++ after → now ≡ es ++ e ∷ [] → bytes ≡ front ++ (entries_text now ++ after)
read_more bytes front es now e left after whole is now_is =
    grind (arith, append_assoc, text_push)

-- so many entries were read behind their number
pub record IsReading (bytes : List ℕ) (count i : ℕ) (done : List PartEntry) (left : List ℕ) : Type 0 where
  pub number : length done ≡ i
  pub within : i ≤ count
  pub text : bytes ≡ vint count ++ (entries_text done ++ left)
  pub each : AllByRecursion EntryFits done
  pub goes_on : (entries : List PartEntry) → length entries < 2 ^ 64 → AllByRecursion EntryFits entries → bytes ≡ vint (length entries) ++ entries_text entries → (count ≡ length entries) × (done ≡ take i entries) × (left ≡ entries_text (drop i entries))

pub reads_on : (bytes : List ℕ) (count i : ℕ) (done now : List PartEntry) (left after : List ℕ) (x : PartEntry) → IsReading bytes count i done left → i < count
    → ((e : PartEntry) (rest : List ℕ) → EntryFits e → left ≡ entry_text e ++ rest → (◌≡◌ {A = Option PartEntry} (Some x) (Some e)) × (after ≡ rest))
    → left ≡ entry_text x ++ after → EntryFits x → now ≡ done ++ x ∷ [] → IsReading bytes count (i + 1) now after
reads_on bytes count i done now left after x r below found is fits_x now_is = record {
  number = omega (arith, ap length now_is, length-append done (x ∷ []), r.number);
  within = omega (arith, below);
  text = read_more bytes (vint count) done now x left after r.text is now_is;
  each = subst (AllByRecursion EntryFits) (sym now_is) (all_push EntryFits done x r.each fits_x);
  goes_on = λ entries short fits whole.
      let g = r.goes_on entries short fits whole in
      let lt : i < length entries = omega (arith, g.0, below) in
      let f = found (get_or entries i x) (entries_text (drop (i + 1) entries)) (all_get EntryFits entries i x lt fits) (g.2 ∙ ap entries_text (drop_more entries i x lt)) in (
        g.0,
        now_is ∙ ap (λ (l : List PartEntry). l ++ x ∷ []) g.1 ∙ ap (λ (e : PartEntry). take i entries ++ e ∷ []) (same_Some x (get_or entries i x) f.0) ∙ sym (take_more entries i x lt),
        f.1,
      );
}

-- no entry comes next where the list would go on
pub stops_short : (bytes : List ℕ) (count i : ℕ) (done : List PartEntry) (left after : List ℕ) → IsReading bytes count i done left → i < count
    → ((e : PartEntry) (rest : List ℕ) → EntryFits e → left ≡ entry_text e ++ rest → (◌≡◌ {A = Option PartEntry} None (Some e)) × (after ≡ rest))
    → (entries : List PartEntry) → length entries < 2 ^ 64 → AllByRecursion EntryFits entries → bytes ≡ vint (length entries) ++ entries_text entries → ⊥
stops_short bytes count i done left after r below found entries short fits whole =
    let none : PartEntry = record { gap = 0; addr = record { field = 0; idx = 0 } } in
    let g = r.goes_on entries short fits whole in
    let lt : i < length entries = omega (arith, g.0, below) in
    none-some (get_or entries i none) (found (get_or entries i none) (entries_text (drop (i + 1) entries)) (all_get EntryFits entries i none lt fits) (g.2 ∙ ap entries_text (drop_more entries i none lt))).0

-- the list was read to its end
pub reads_all : (bytes : List ℕ) (count i : ℕ) (done : List PartEntry) (left : List ℕ) → IsReading bytes count i done left → count ≤ i → (length left == 0) ≡ true → SpellsEntries bytes done
reads_all bytes count i done [] r over none =
    let all : count ≡ length done = omega (arith, r.number, r.within, over) in
    record { fits = r.each; text = r.text ∙ ap (λ (l : List ℕ). vint count ++ l) (append-nil (entries_text done)) ∙ ap (λ n. vint n ++ entries_text done) all }
reads_all bytes count i done (x ∷ xs) r over none = absurd (omega (arith, eqb-true (length (x ∷ xs)) 0 none))

-- ---- adding up the gaps

-- so many starts were made of the entries
pub record IsSoFar (entries : List PartEntry) (i offset len : ℕ) (starts : List Start) : Type 0 where
  pub within : offset ≤ len
  pub sum : offset + gaps (drop i entries) ≡ gaps entries
  pub made : starts ++ starts_after offset (drop i entries) ≡ starts_after 0 entries
  pub distinct : AreDistinct (start_addresses starts)
  pub named : start_addresses starts ++ entry_addresses (drop i entries) ≡ entry_addresses entries
  pub first : BeginsAtFirst entries len

pub at_front : (entries : List PartEntry) (i : ℕ) (e : PartEntry) → i < length entries → e ≡ get_or entries i e → drop i entries ≡ e ∷ drop (i + 1) entries
at_front entries i e lt is = drop_more entries i e lt ∙ ap (λ (x : PartEntry). x ∷ drop (i + 1) entries) (sym is)

pub so_far_more : (entries : List PartEntry) (i offset len : ℕ) (starts now : List Start) (e : PartEntry) → IsSoFar entries i offset len starts → drop i entries ≡ e ∷ drop (i + 1) entries → e.gap ≤ len - offset
    → list_any (is_at e.addr) (start_addresses starts) ≡ false → now ≡ starts ++ record { addr = e.addr; offset = offset + e.gap } ∷ [] → IsSoFar entries (i + 1) (offset + e.gap) len now
so_far_more entries i offset len starts now e s front le new is =
    let start : Start = record { addr = e.addr; offset = offset + e.gap } in
    let names : start_addresses now ≡ start_addresses starts ++ e.addr ∷ [] = ap start_addresses is ∙ addresses_push starts (record { addr = e.addr; offset = offset + e.gap }) in
    record {
      within = omega (arith, s.within, le);
      sum = omega (arith, s.sum, ap gaps front);
      made = ap (λ (l : List Start). l ++ starts_after (offset + e.gap) (drop (i + 1) entries)) is
          ∙ append_assoc starts (record { addr = e.addr; offset = offset + e.gap } ∷ []) (starts_after (offset + e.gap) (drop (i + 1) entries))
          ∙ ap (λ (l : List PartEntry). starts ++ starts_after offset l) (sym front) ∙ s.made;
      distinct = subst AreDistinct (sym names) (distinct_push (start_addresses starts) e.addr s.distinct new);
      named = ap (λ (l : List FileAddr). l ++ entry_addresses (drop (i + 1) entries)) names
          ∙ append_assoc (start_addresses starts) (e.addr ∷ []) (entry_addresses (drop (i + 1) entries))
          ∙ ap (λ (l : List PartEntry). start_addresses starts ++ entry_addresses l) (sym front) ∙ s.named;
      first = s.first;
    }

here : (xs : List FileAddr) (a : FileAddr) (rest : List FileAddr) (x : FileAddr) → is_at x a ≡ true → list_any (is_at x) (xs ++ a ∷ rest) ≡ false → ⊥
here xs a rest x e h =
    grind (arith, or_parts, list_any-append)

twice_by : (x : FileAddr) (xs : List FileAddr) (a : FileAddr) (rest : List FileAddr) (b : Bool) → (list_any (is_at a) xs ≡ true → AreDistinct (xs ++ a ∷ rest) → ⊥)
    → is_at a x ≡ b → (b || list_any (is_at a) xs) ≡ true → AreDistinct (x ∷ (xs ++ a ∷ rest)) → ⊥
twice_by x xs a rest true later e is h = here xs a rest x (turned x a ∙ e) h.0
twice_by x xs a rest false later e is h = later is h.1

-- an address that stands before stands twice
twice : (front : List FileAddr) (a : FileAddr) (rest : List FileAddr) → list_any (is_at a) front ≡ true → AreDistinct (front ++ a ∷ rest) → ⊥
twice [] a rest is h = cc
twice (x ∷ xs) a rest is h = twice_by x xs a rest (is_at a x) (twice xs a rest) refl is h

pub stands_twice : (entries : List PartEntry) (i offset len : ℕ) (starts : List Start) (e : PartEntry) → IsSoFar entries i offset len starts → drop i entries ≡ e ∷ drop (i + 1) entries → list_any (is_at e.addr) (start_addresses starts) ≡ true → IsLayout entries len → ⊥
stands_twice entries i offset len starts e s front is h =
    grind (arith, twice)

-- ---- the addresses in a set

nat_same : (x y : ℕ) → is_eq (nat_cmp x y) ≡ eqb x y
nat_same x y = grind (arith, nat_tests)

both_same : (x y : Ordering) (b c : Bool) → is_eq x ≡ b → is_eq y ≡ c → is_eq (ordering_then x y) ≡ (b && c)
both_same Less y b c p q = ap (λ d. d && c) p
both_same Equal y b c p q = q ∙ ap (λ d. d && c) p
both_same Greater y b c p q = ap (λ d. d && c) p

same_order : (a q : FileAddr) → is_eq (order.cmp-value.it a q) ≡ is_at q a
same_order a q = both_same (nat_cmp a.field q.field) (nat_cmp a.idx q.idx) (eqb a.field q.field) (eqb a.idx q.idx) (nat_same a.field q.field) (nat_same a.idx q.idx)

-- the set has the addresses of these starts
abbrev pub HasSeen : BTreeSet FileAddr → List Start → Type 0
HasSeen seen starts = (q : FileAddr) → tree.contains order.cmp-value.it seen q ≡ list_any (is_at q) (start_addresses starts)

or_so : (b d c e : Bool) → b ≡ d → c ≡ e → cond b true c ≡ (e || (d || false))
or_so true true c true p q = refl
or_so true true c false p q = refl
or_so true false c e p q = absurd (cc)
or_so false true c e p q = absurd (cc)
or_so false false true true p q = refl
or_so false false false false p q = refl
or_so false false true false p q = absurd (cc)
or_so false false false true p q = absurd (cc)

pub seen_more : (old new : BTreeSet FileAddr) (starts now : List Start) (e : PartEntry) (offset : ℕ) → HasSeen old starts
    → ((q : FileAddr) → tree.contains order.cmp-value.it new q ≡ cond (is_eq (order.cmp-value.it e.addr q)) true (tree.contains order.cmp-value.it old q))
    → now ≡ starts ++ record { addr = e.addr; offset = offset } ∷ [] → HasSeen new now
seen_more old new starts now e offset seen updates is q =
    updates q ∙ or_so _ _ _ _ (same_order e.addr q) (seen q)
    ∙ sym (list_any-append (is_at q) (start_addresses starts) (e.addr ∷ []))
    ∙ sym (ap (list_any (is_at q)) (ap start_addresses is ∙ addresses_push starts (record { addr = e.addr; offset = offset })))

-- ---- the parts of a file are those that begin where the entries say

parts_back : (bytes front : List ℕ) (o g : ℕ) (parts : List Part) → bytes ≡ front ++ bodies parts → o + g ≡ length front → parts_of bytes (starts_after o (entries_of g parts)) ≡ parts
parts_back bytes front o g [] whole at = refl
parts_back bytes front o g (p ∷ ps) whole at =
    let ending : next_start (length bytes) (starts_after (o + g) (entries_of (length p.body) ps)) ≡ length front + length p.body = next_is bytes (o + g) p.body ps (omega (arith, ap length whole, length-append front (p.body ++ bodies ps), length-append p.body (bodies ps), at)) ∙ omega (arith, at) in
    let rest : drop (o + g) bytes ≡ p.body ++ bodies ps = ap (drop (o + g)) whole ∙ drop_at front (p.body ++ bodies ps) (o + g) (sym at) in
    let body : slice_range bytes (o + g) (next_start (length bytes) (starts_after (o + g) (entries_of (length p.body) ps))) ≡ p.body =
    ap (λ n. take (n - (o + g)) (drop (o + g) bytes)) ending
    ∙ ap (λ (l : List ℕ). take (length front + length p.body - (o + g)) l) rest
    ∙ take_at p.body (bodies ps) (length front + length p.body - (o + g)) (omega (arith, at)) in
    let again : bytes ≡ (front ++ p.body) ++ bodies ps = whole ∙ sym (append_assoc front p.body (bodies ps)) in
    ap (λ (b : List ℕ). record { addr = p.addr; body = b } ∷ parts_of bytes (starts_after (o + g) (entries_of (length p.body) ps))) body
    ∙ ap (λ (l : List Part). p ∷ l) (parts_back bytes (front ++ p.body) (o + g) (length p.body) ps again (omega (arith, length-append front p.body, at)))
  where
    next_is : (bytes : List ℕ) (o : ℕ) (body : List ℕ) (ps : List Part) → length bytes ≡ o + (length body + length (bodies ps)) → next_start (length bytes) (starts_after o (entries_of (length body) ps)) ≡ o + length body
    next_is bytes o body [] h = omega (arith, h)
    next_is bytes o body (q ∷ qs) h = refl

pub parts_are : (bytes : List ℕ) (parts : List Part) → bytes ≡ bodies parts → parts_of bytes (starts_after 0 (entries_of 0 parts)) ≡ parts
parts_are bytes parts whole = parts_back bytes [] 0 0 parts whole (omega arith)
