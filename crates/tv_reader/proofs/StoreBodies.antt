-- Stored documents: that a body has one list of them, and how a reader goes through it.
use Rattle.std.proofs.Common.{◌≡◌, ◌≤◌, ◌<◌, ◌+◌, ◌-◌, ◌*◌, ◌/◌, ◌%◌, ◌^◌, ℕ, List, [], ◌∷◌, ◌++◌, length, take, drop, sum_by, refl, sym, ap, subst, ◌∙◌, arith, append_assoc, append-nil, length-append, length-drop}
use Rattle.std.proofs.lemmas.List.{drop_all, drop_at, drop-drop, length-map, length-take-le, map-append, take_at, take-append-drop}
use Rattle.std.proofs.lemmas.List.Sums.{sum_by-cons}
use Rattle.std.specs.List.{AllByRecursion}
use Rattle.tv_formats.specs.Footer.{four_bytes}
use Rattle.tv_framing.specs.Usage.{StoreSpace}
use Rattle.tv_reader.specs.StoreBodies.{FitsStore, IsNotStoreBody, IsStoreBody, store_space, store_text}
use Rattle.tv_reader.specs.StorePlaces.{AreRead, AreStored, IsWithin, NothingNext, StandsNext, document_at, documents_at}
use Rattle.tv_reader.specs.declared.store_reader.DocPlace.{DocPlace}

-- ---- a body has one list of documents

-- the length in front and what stands behind it are told apart
heads : (m n : ℕ) (xs ys : List ℕ) → m < 2 ^ 32 → n < 2 ^ 32 → four_bytes m ++ xs ≡ four_bytes n ++ ys → (m ≡ n) × (xs ≡ ys)
heads m n xs ys p q e =
    let a : m % 256 ≡ n % 256 = cc in
    let b : m / 256 % 256 ≡ n / 256 % 256 = cc in
    let c : m / 65536 % 256 ≡ n / 65536 % 256 = cc in
    let d : m / 16777216 % 256 ≡ n / 16777216 % 256 = cc in
    (omega arith, cc)

-- equal texts with fronts of one length have equal fronts, and equal ends
fronts : (a b x y : List ℕ) → length a ≡ length b → a ++ x ≡ b ++ y → (a ≡ b) × (x ≡ y)
fronts a b x y long e = (
  sym (take_at a x (length a) refl) ∙ ap (take (length a)) e ∙ take_at b y (length a) (sym long),
  sym (drop_at a x (length a) refl) ∙ ap (drop (length a)) e ∙ drop_at b y (length a) (sym long),
)

-- documents of which these are the first, and then what is left
pub record GoesOn (docs others : List (List ℕ)) (left : List ℕ) : Type 0 where
  pub rest : List (List ℕ)
  pub all : others ≡ docs ++ rest
  pub text : left ≡ store_text rest
  pub each : AllByRecursion FitsStore rest

pub goes_on : (docs others : List (List ℕ)) (left : List ℕ) → AllByRecursion FitsStore docs → AllByRecursion FitsStore others → store_text others ≡ store_text docs ++ left → GoesOn docs others left
goes_on [] others left f g e = record { rest = others; all = refl; text = sym e; each = g }
goes_on (d ∷ docs) [] left f g e = absurd (cc)
goes_on (d ∷ docs) (o ∷ others) left f g e =
    let whole : four_bytes (length o) ++ (o ++ store_text others) ≡ four_bytes (length d) ++ (d ++ (store_text docs ++ left)) =
    e ∙ append_assoc (four_bytes (length d)) (d ++ store_text docs) left ∙ ap (λ l. four_bytes (length d) ++ l) (append_assoc d (store_text docs) left) in
    let head : (length o ≡ length d) × (o ++ store_text others ≡ d ++ (store_text docs ++ left)) = heads (length o) (length d) _ _ g.0 f.0 whole in
    let parts : (o ≡ d) × (store_text others ≡ store_text docs ++ left) = fronts o d (store_text others) (store_text docs ++ left) head.0 head.1 in
    let on : GoesOn docs others left = goes_on docs others left f.1 g.1 parts.1 in
    record { rest = on.rest; all = cc (parts.0, on.all); text = on.text; each = on.each }

no_text : (docs : List (List ℕ)) → [] ≡ store_text docs → docs ≡ []
no_text [] e = refl
no_text (d ∷ docs) e = absurd (cc)

pub are_all : (bytes : List ℕ) (docs others : List (List ℕ)) → IsStoreBody bytes docs → IsStoreBody bytes others → others ≡ docs
are_all bytes docs others a b =
    let on : GoesOn docs others [] = goes_on docs others [] a.each b.each (sym b.whole ∙ a.whole ∙ sym (append-nil (store_text docs))) in
    on.all ∙ ap (λ l. docs ++ l) (no_text on.rest on.text) ∙ append-nil docs

-- ---- how many bytes they take

text_long : (docs : List (List ℕ)) → length (store_text docs) ≡ sum_by length docs + 4 * length docs
text_long [] = refl
text_long (d ∷ docs) = omega (arith, text_long docs, length-append d (store_text docs), sum_by-cons length d docs)

pub stored_long : (bytes : List ℕ) (places : List DocPlace) → AreStored bytes places → length bytes ≡ sum_by length (documents_at bytes places) + 4 * length places
stored_long bytes places s =
    omega (arith, ap length s.are.whole, text_long (documents_at bytes places), length-map places (document_at bytes))

pub space_is : (bytes : List ℕ) (places : List DocPlace) (len n : ℕ) (space : StoreSpace) → AreStored bytes places → len ≡ length bytes → n ≡ length places
    → space ≡ record { body = record { 0 = len - 4 * n }; offsets = record { 0 = 4 * n } } → space ≡ store_space (documents_at bytes places)
space_is bytes places len n space s long many is =
    let docs : List (List ℕ) = documents_at bytes places in
    let count : length docs ≡ length places = length-map places (document_at bytes) in
    let body : len - 4 * n ≡ sum_by length docs = omega (arith, stored_long bytes places s) in
    let offsets : 4 * n ≡ 4 * length docs = omega arith in
    is ∙ ap (λ k. record { body = record { 0 = k }; offsets = record { 0 = 4 * n } }) body
    ∙ ap (λ k. record { body = record { 0 = sum_by length docs }; offsets = record { 0 = k } }) offsets

-- ---- a reader goes through them

all_push : {X : Type 0} (P : X → Type 0) (xs : List X) (x : X) → AllByRecursion P xs → P x → AllByRecursion P (xs ++ x ∷ [])
all_push P [] x each h = (h, tt)
all_push P (y ∷ ys) x each h = (each.0, all_push P ys x each.1 h)

text_push : (docs : List (List ℕ)) (doc : List ℕ) (left : List ℕ) → store_text docs ++ (four_bytes (length doc) ++ (doc ++ left)) ≡ store_text (docs ++ doc ∷ []) ++ left
text_push [] doc left = ap (λ l. four_bytes (length doc) ++ l) (sym (append_assoc doc [] left))
text_push (d ∷ docs) doc left =
    ap (λ l. four_bytes (length d) ++ l)
    (append_assoc d (store_text docs) (four_bytes (length doc) ++ (doc ++ left))
    ∙ ap (λ l. d ++ l) (text_push docs doc left)
    ∙ sym (append_assoc d (store_text (docs ++ doc ∷ [])) left))

pub reads_on : (bytes : List ℕ) (start : ℕ) (places now : List DocPlace) (place : DocPlace) → AreRead bytes start places → StandsNext bytes start place → now ≡ places ++ place ∷ [] → AreRead bytes place.end now
reads_on bytes start places now place read next is =
    let doc : List ℕ = document_at bytes place in
    let n : ℕ = place.end - place.start in
    let long : length doc ≡ n = length-take-le n (drop place.start bytes) (omega (arith, length-drop place.start bytes, next.within.inside)) in
    let tail : drop n (drop place.start bytes) ≡ drop place.end bytes = drop-drop n place.start bytes ∙ ap (λ k. drop k bytes) (omega (arith, next.within.order)) in
    let here : drop start bytes ≡ four_bytes (length doc) ++ (doc ++ drop place.end bytes) =
    next.stated ∙ ap (λ l. four_bytes n ++ l) (sym (take-append-drop n (drop place.start bytes)) ∙ ap (λ l. doc ++ l) tail)
    ∙ ap (λ k. four_bytes k ++ (doc ++ drop place.end bytes)) (sym long) in
    let docs : documents_at bytes places ++ doc ∷ [] ≡ documents_at bytes now = sym (map-append (document_at bytes) places (place ∷ [])) ∙ ap (documents_at bytes) (sym is) in
    record {
      inside = next.within.inside;
      within = subst (AllByRecursion (IsWithin (length bytes))) (sym is) (all_push (IsWithin (length bytes)) places place read.within next.within);
      each = subst (AllByRecursion FitsStore) docs (all_push FitsStore (documents_at bytes places) doc read.each (omega (arith, long, next.short)));
      text = read.text ∙ ap (λ l. store_text (documents_at bytes places) ++ l) here ∙ text_push (documents_at bytes places) doc (drop place.end bytes)
          ∙ ap (λ l. store_text l ++ drop place.end bytes) docs;
    }

nothing_left : (bytes : List ℕ) (start : ℕ) (rest : List (List ℕ)) → start < length bytes → NothingNext bytes start → drop start bytes ≡ store_text rest → AllByRecursion FitsStore rest → ⊥
nothing_left bytes start [] more none text each = omega (arith, ap length text, length-drop start bytes)
nothing_left bytes start (d ∷ docs) more none text each = none d (store_text docs) each.0 text

pub stops_short : (bytes : List ℕ) (start : ℕ) (places : List DocPlace) → AreRead bytes start places → start < length bytes → NothingNext bytes start → IsNotStoreBody bytes
stops_short bytes start places read more none docs is =
    let on : GoesOn (documents_at bytes places) docs (drop start bytes) = goes_on (documents_at bytes places) docs (drop start bytes) read.each is.each (sym is.whole ∙ read.text) in
    nothing_left bytes start on.rest more none on.text on.each

pub reads_all : (bytes : List ℕ) (end : ℕ) (places : List DocPlace) → AreRead bytes end places → length bytes ≤ end → AreStored bytes places
reads_all bytes end places read all = record {
  within = read.within;
  are = record {
    each = read.each;
    whole = read.text ∙ ap (λ l. store_text (documents_at bytes places) ++ l) (drop_all end bytes all) ∙ append-nil (store_text (documents_at bytes places));
  };
}
