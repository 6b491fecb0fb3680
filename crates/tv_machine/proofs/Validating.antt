-- What a validation tells.
use Rattle.std.proofs.Common.{◌≡◌, ℕ, ◌==◌, ◌&&◌, ◌||◌, Bool, true, false, true≢false, not, cond, List, [], ◌∷◌, ◌++◌, Option, Some, None, filter, codes, refl, sym, ap, ◌∙◌, arith}
use Rattle.std.specs.Prelude.{is_some, is_none, find}
use Rattle.std.specs.List.{flat_map}
use Rattle.std.proofs.lemmas.Bool.{and_parts, eqb-true, eq-eqb}
use Rattle.tv_formats.specs.Checksum.{crc32}
use Rattle.tv_formats.specs.Footer.{body_of}
use Rattle.tv_events.specs.AnswerLines.{line}
use Rattle.tv_machine.specs.Lines.{unless, words_of}
use Rattle.tv_formats.specs.Segments.{segment_names}
use Rattle.tv_formats.specs.Names.{is, has}
use Rattle.tv_machine.specs.ReportEvents.{committed_names, damaged_files, first_unreadable, intact_at, is_damaged}
use Rattle.tv_machine.specs.State.{State, StepResult, FileState, SealedFile, Open, Left, file_at}
use Rattle.tv_machine.specs.Validating.{IsCommitted, IsDamaged, IsReadable, Validates}
use Rattle.tv_formats.proofs.Entries.{is_itself, is_text}
use Rattle.tv_formats.proofs.Framing.{intact_again, intact_found}

-- which names pass a test
pub has_filter : (test : List ℕ → Bool) (names : List (List ℕ)) (n : List ℕ) → has (filter test names) n ≡ (has names n && test n)
has_filter test [] n = refl
has_filter test (x ∷ xs) n = by_head (is x n) refl (test x) refl (has_filter test xs n) where
  by_head : (same : Bool) → is x n ≡ same → (passes : Bool) → test x ≡ passes → has (filter test xs) n ≡ (has xs n && test n)
      → has (cond passes (x ∷ filter test xs) (filter test xs)) n ≡ ((same || has xs n) && test n)
  by_head true e true t later = let here : test n ≡ true = ap test (sym (is_text x n e)) ∙ t in rw (e, here) refl
  by_head true e false t later = let here : test n ≡ false = ap test (sym (is_text x n e)) ∙ t in rw (later, here) (grind arith)
  by_head false e true t later = rw (e, later) refl
  by_head false e false t later = later

-- what is found of a file of which something can be said
module _ (s : State) (n : List ℕ) where
  said_at : (file : Option FileState) (intact : Bool) → file_at s n ≡ file → intact_at file ≡ Some intact → (r : IsReadable s n) × (intact ≡ (r.footer.crc == crc32 r.body))
  said_at None intact is e = absurd cc
  said_at (Some (Open body)) intact is e = absurd cc
  said_at (Some Left) intact is e = absurd cc
  said_at (Some (SealedFile bytes)) intact is e =
      let found = intact_found bytes intact e in
      (record { bytes = bytes; sealed = is; footer = found.0; body = body_of bytes; framed = found.1 }, found.2)

  pub said : (intact : Bool) → intact_at (file_at s n) ≡ Some intact → (r : IsReadable s n) × (intact ≡ (r.footer.crc == crc32 r.body))
  said intact e = said_at (file_at s n) intact refl e

  pub says : (r : IsReadable s n) → intact_at (file_at s n) ≡ Some (r.footer.crc == crc32 r.body)
  says r = ap intact_at r.sealed ∙ intact_again r.bytes r.footer r.body r.framed

  readable_some : IsReadable s n → is_none (intact_at (file_at s n)) ≡ false
  readable_some r = rw (says r) refl

  unreadable_none : (IsReadable s n → ⊥) → is_none (intact_at (file_at s n)) ≡ true
  unreadable_none h = by_answer (intact_at (file_at s n)) refl where
    by_answer : (found : Option Bool) → intact_at (file_at s n) ≡ found → is_none found ≡ true
    by_answer None e = refl
    by_answer (Some intact) e = absurd (h (said intact e).0)

  damaged_to : is_damaged (intact_at (file_at s n)) ≡ true → IsDamaged s n
  damaged_to e = by_answer (intact_at (file_at s n)) refl e where
    by_answer : (found : Option Bool) → intact_at (file_at s n) ≡ found → is_damaged found ≡ true → IsDamaged s n
    by_answer None is e = absurd cc
    by_answer (Some true) is e = absurd cc
    by_answer (Some false) is e =
        let r = said false is in
        (r.0, λ same. true≢false (sym (eq-eqb r.0.footer.crc (crc32 r.0.body) same) ∙ sym r.1))

  damaged_from : IsDamaged s n → is_damaged (intact_at (file_at s n)) ≡ true
  damaged_from (r, other) = rw (says r) (differs (r.footer.crc == crc32 r.body) refl) where
    differs : (b : Bool) → (r.footer.crc == crc32 r.body) ≡ b → not b ≡ true
    differs true e = absurd (other (eqb-true r.footer.crc (crc32 r.body) e))
    differs false e = refl

-- the first of some names that passes a test
first_passes : (test : List ℕ → Bool) (front rest : List (List ℕ)) (n : List ℕ) → ((m : List ℕ) → has front m ≡ true → test m ≡ false) → test n ≡ true → find test (front ++ n ∷ rest) ≡ Some n
first_passes test [] rest n before here = rw here refl
first_passes test (m ∷ front) rest n before here =
    let not_here : test m ≡ false = before m (ap (λ (b : Bool). b || has front m) (is_itself m)) in
    let later = first_passes test front rest n (λ k h. before k (rw h (grind arith))) here in
    rw not_here later

none_passes : (test : List ℕ → Bool) (names : List (List ℕ)) → ((m : List ℕ) → has names m ≡ true → test m ≡ false) → find test names ≡ None
none_passes test [] h = refl
none_passes test (m ∷ names) h =
    let not_here : test m ≡ false = h m (ap (λ (b : Bool). b || has names m) (is_itself m)) in
    let later = none_passes test names (λ k e. h k (rw e (grind arith))) in
    rw not_here later

pub validates : (s : State) → Validates s
validates s = record {
  told = λ readable. ap (λ (o : Option (List ℕ)). (answer o).0) (none_passes unread names (λ m h. let t = committed_to m h in readable_some s m (readable m t)));
  damaged = λ n. (
    λ h. let t = and_parts (has names n) _ (sym (has_filter broken names n) ∙ h) in (committed_to n t.0, damaged_to s n t.1),
    λ h. has_filter broken names n ∙ and_true (committed_from n h.0) (damaged_from s n h.1),
  );
  refused = λ front rest n split before here.
      ap (λ (o : Option (List ℕ)). (answer o).0) (ap (find unread) split ∙ first_passes unread front rest n (λ m h. readable_some s m (before m h)) (unreadable_none s n here));
  same = unchanged (first_unreadable s names);
}
  where
    names : List (List ℕ)
    names = committed_names s.catalog s.managed

    unread : List ℕ → Bool
    unread name = is_none (intact_at (file_at s name))

    broken : List ℕ → Bool
    broken name = is_damaged (intact_at (file_at s name))

    answer : Option (List ℕ) → StepResult State
    answer found = unless s ((is_some found, codes "unreadable" ∷ words_of found) ∷ []) (line (codes "damaged") (damaged_files s names), s)

    unchanged : (found : Option (List ℕ)) → (answer found).1 ≡ s
    unchanged None = refl
    unchanged (Some n) = refl

    and_true : {a b : Bool} → a ≡ true → b ≡ true → (a && b) ≡ true
    and_true p q = rw (p, q) refl

    committed_to : (n : List ℕ) → has names n ≡ true → IsCommitted s n
    committed_to n h = and_parts (has s.managed n) _ (sym (has_filter (λ name. has (flat_map segment_names s.catalog.commit.segments) name) s.managed n) ∙ h)

    committed_from : (n : List ℕ) → IsCommitted s n → has names n ≡ true
    committed_from n h = has_filter (λ name. has (flat_map segment_names s.catalog.commit.segments) name) s.managed n ∙ and_true h.0 h.1
