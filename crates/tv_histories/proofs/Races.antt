-- What a race leaves.
use Rattle.std.proofs.Common.{◌≡◌, ◌<◌, ◌+◌, ℕ, zero, suc, List, [], ◌∷◌, ◌++◌, map, length, Bool, true, false, true≢false, Option, Some, None, Result, Ok, Err, get_or, refl, sym, ap, ap₂, subst, ◌∙◌, arith}
use Rattle.std.specs.Prelude.{◌==◌, slice_get, if◌then◌else◌, IfOk, IsOk, option_map}
use Rattle.std.proofs.lemmas.Option.{slice_get_within, get_or_from_slice_get, slice_get-map}
use Rattle.tv_base.specs.declared.error.TantivyError.{TantivyError}
use Rattle.tv_base.specs.declared.error.TantivyError.TheVariants as errors
use Rattle.tv_events.specs.declared.event.Event.{Event}
use Rattle.tv_histories.specs.declared.entry.Entry.{Entry}
use Rattle.tv_histories.specs.declared.entry.Receipt.{Receipt}
use Rattle.tv_histories.specs.Receipts.{AllStand, entry_of}
use Rattle.tv_histories.specs.Histories.{has_reader}
use Rattle.tv_histories.specs.Callers.{of_caller}
use Rattle.tv_histories.specs.Merging.{entries, IsMerged}
use Rattle.tv_histories.specs.Races.{Follows, IsMergedFrom, IsOfStore, IsRace, fault_or_memory, first_of}
use Rattle.tv_histories.proofs.Places.{some_is, never, some_at}
use Rattle.tv_histories.proofs.Mixing.{length_map}

-- the first of them, and the rest
abbrev pub AreFirst : {X E : Type 0} → List (Result X E) → List X → List (Result X E) → Type 0
AreFirst answers all rest = answers ≡ map Ok all ++ rest

count_ok : {L E : Type 0} (answers : List (Result L E)) (lists : List L) → answers ≡ map Ok lists → length lists ≡ length answers
count_ok answers lists e = sym (ap length e ∙ length_map Ok lists)

pub if_ok_map : {X E : Type 0} (P Q : X → Type 0) (r : Result X E) → IfOk r P → ((x : X) → P x → Q x) → IfOk r Q
if_ok_map P Q (Ok x) p f = f x p
if_ok_map P Q (Err e) p f = tt

pub always : {X E : Type 0} (Q : Type 0) (r : Result X E) → Q → IfOk r (λ _. Q)
always Q (Ok x) q = q
always Q (Err e) q = tt

pub of_ok : {X E : Type 0} (P : X → Type 0) (r : Result X E) (x : X) → r ≡ Ok x → IfOk r P → P x
of_ok P (Ok y) x e p = let same : y ≡ x = cc in subst P same p
of_ok P (Err y) x e p = cc

pub ok_there : {X E : Type 0} (r : Result X E) → IsOk r → (x : X) × (r ≡ Ok x)
ok_there (Ok x) i = (x, refl)
ok_there (Err e) i = absurd (true≢false (sym i))

pub follows : {S L E : Type 0} (events : S → List Event) (receipts : L → List Receipt) (scripts : List S) (answers : List (Result L E)) (lists : List L)
    → answers ≡ map Ok lists → length answers ≡ length scripts
    → ((i : ℕ) (d : Result L E) (e : S) → i < length scripts → IfOk (get_or answers i d) (λ rs. map (λ (r : Receipt). r.event) (receipts rs) ≡ events (get_or scripts i e)))
    → Follows events receipts scripts lists
follows {L = L} {E = E} events receipts scripts answers lists all count each = record {
  count = count_ok answers lists all ∙ count;
  each = λ k s l at_s at_l.
      let there : get_or answers k (Ok l) ≡ Ok l = get_or_from_slice_get answers k (Ok l) (Ok l) (ap (λ l. slice_get l k) all ∙ slice_get-map Ok lists k ∙ ap (λ o. option_map Ok o) at_l) in
      subst (λ (a : Result L E). IfOk a (λ rs. map (λ (r : Receipt). r.event) (receipts rs) ≡ events s)) there
      (subst (λ (z : _). IfOk (get_or answers k (Ok l)) (λ rs. map (λ (r : Receipt). r.event) (receipts rs) ≡ events z)) (get_or_from_slice_get scripts k s s at_s) (each k (Ok l) s (slice_get_within scripts k s at_s)));
}

map_if : {A B : Type 0} (b : Bool) (f : A → B) (x : A) (l : List A) → (if b then f x ∷ map f l else map f l) ≡ map f (if b then x ∷ l else l)
map_if true f x l = refl
map_if false f x l = refl

at_suc : {A : Type 0} (x : A) (xs : List A) (i : ℕ) {y : A} → slice_get (x ∷ xs) (i + 1) ≡ Some y → slice_get xs i ≡ Some y
at_suc x xs i e = let q : i + 1 ≡ suc i = omega arith in sym (ap (λ n. slice_get (x ∷ xs) n) q) ∙ e

of_map : {A B : Type 0} (f : A → B) (xs : List A) (k : ℕ) (y : B) → slice_get (map f xs) k ≡ Some y → (x : A) × (slice_get xs k ≡ Some x) × (f x ≡ y)
of_map f [] k y e = absurd (never e)
of_map f (x ∷ xs) zero y e = (x, refl, some_is e)
of_map f (x ∷ xs) (suc k) y e = of_map f xs k y e

map_of_caller : {A B : Type 0} (f : A → B) (k : ℕ) (ts : List ℕ) (xs : List A) → of_caller k ts (map f xs) ≡ map f (of_caller k ts xs)
map_of_caller f k [] xs = refl
map_of_caller f k (t ∷ ts) [] = refl
map_of_caller f k (t ∷ ts) (x ∷ xs) = ap (λ l. if t == k then f x ∷ l else l) (map_of_caller f k ts xs) ∙ map_if (t == k) f x (of_caller k ts xs)

map_entries : (rs : List Receipt) → map (λ (e : Entry). e.event) (entries rs) ≡ map (λ (r : Receipt). r.event) rs
map_entries [] = refl
map_entries (r ∷ rs) = ap (λ l. r.event ∷ l) (map_entries rs)

-- what stands where all receipts stand, and there are no more entries
stands_all : (h : List Entry) (rs : List Receipt) (n : ℕ) → length h ≡ length rs → ((i : ℕ) (r : Receipt) → slice_get rs i ≡ Some r → slice_get h i ≡ Some (entry_of r)) → h ≡ entries rs
stands_all [] [] n e f = refl
stands_all [] (r ∷ rs) n e f = absurd (omega arith)
stands_all (x ∷ h) [] n e f = absurd (omega arith)
stands_all (x ∷ h) (r ∷ rs) n e f = ap₂ (λ (y : Entry) (l : List Entry). y ∷ l) (some_is (f 0 r refl)) (stands_all h rs n (omega arith) (λ i q at. f (suc i) q at))

-- the merged receipts of the lists that follow the scripts
pub merged_from : {S L : Type 0} (events : S → List Event) (receipts : L → List Receipt) (scripts : List S)
    (lists : List L) (callers : List ℕ) (rs : List Receipt)
    → Follows events receipts scripts lists → IsMerged receipts lists callers rs
    → IsMergedFrom (map events scripts) callers rs
merged_from {S = S} events receipts scripts lists callers rs f m = record {
  long = m.long;
  known = λ i k at. let a = m.known i k at in let b = f.count in let c = length_map events scripts in omega arith;
  numbered = m.numbered;
  each = λ k l at.
      let s = of_map events scripts k l at in
      let q = some_at lists k (let w = slice_get_within scripts k s.0 s.1 in let b = f.count in omega arith) in
      ap (λ es. of_caller k callers es) (sym (map_entries rs))
      ∙ map_of_caller (λ (e : Entry). e.event) k callers (entries rs)
      ∙ ap (λ es. map (λ (e : Entry). e.event) es) (m.each k q.0 q.1)
      ∙ map_entries (receipts q.0)
      ∙ f.each k s.0 q.0 s.1 q.1
      ∙ s.2;
}

pub raced : (scripts : List (List Event)) (callers : List ℕ) (rs : List Receipt) (history : List Entry)
    → IsMergedFrom scripts callers rs → AllStand history rs → length history ≡ length rs + 1
    → has_reader history ≡ true → IsRace scripts history
raced scripts callers rs [] m stand count reads = absurd (true≢false (sym reads))
raced scripts callers rs (x ∷ h) m stand count reads =
    let same : h ≡ entries rs =
    stands_all h rs 0 (omega arith) (λ i r at.
    let p : slice_get (x ∷ h) (i + 1) ≡ Some (entry_of r) =
    ap (λ n. slice_get (x ∷ h) n) (sym (m.numbered i r at)) ∙ stand i r at in at_suc x h i p) in
    let told : map (λ (e : Entry). e.event) h ≡ map (λ (r : Receipt). r.event) rs =
    ap (λ (es : List Entry). map (λ (e : Entry). e.event) es) same ∙ map_entries rs in
    record {
      first = x;
      rest = h;
      parts = refl;
      reads = reads;
      callers = record {
        callers = callers;
        long = m.long ∙ sym (length_map (λ (r : Receipt). r.event) rs) ∙ ap length (sym told);
        known = m.known;
        each = λ k l at. ap (λ es. of_caller k callers es) told ∙ m.each k l at;
      };
    }

-- a history that begins with a reader has an entry
pub some_entry : (h : List Entry) → has_reader h ≡ true → 0 < length h
some_entry [] e = absurd (true≢false (sym e))
some_entry (x ∷ h) e = omega arith

-- the first of three faults
pub first_assoc : (a b c : Option TantivyError) → first_of (first_of a b) c ≡ first_of a (first_of b c)
first_assoc None b c = refl
first_assoc (Some x) b c = refl

pub first_none : (a : Option TantivyError) → first_of a None ≡ a
first_none None = refl
first_none (Some x) = refl

-- a fault is the store's
pub of_store : (a : Option TantivyError) → IsOfStore (fault_or_memory a)
of_store None = (errors.Memory, refl)
of_store (Some error) = (error, refl)
