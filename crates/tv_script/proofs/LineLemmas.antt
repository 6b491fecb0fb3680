-- The lines of a script that comes in pieces.
use Rattle.std.proofs.Common.{◌≡◌, ℕ, suc, ◌+◌, ◌≤◌, ◌<◌, ◌==◌, Bool, true, false, not, List, [], ◌∷◌, ◌++◌, length, Option, Some, None, refl, sym, ap, ◌∙◌, arith, append_assoc, length-append}
use Rattle.std.specs.List.{onto_first}
use Rattle.std.proofs.lemmas.List.{append-nil}
use Rattle.std.proofs.lemmas.Bool.{and_parts, not-true}
use Rattle.std.proofs.lemmas.Option.{same_Some}
use Rattle.tv_base.specs.Streams.{KeepsLeft}
use Rattle.tv_formats.specs.Files.{has_no_feed}
use Rattle.tv_events.specs.Script.{line_limit, lines_of}
use Rattle.tv_script.specs.ScriptLines.{NoFeed, pending, Moves, TakesLine, IsTooLong, BeginsLine, ReadsAhead}

-- ---- what is left

pub pending_some : (held script : List ℕ) (left : Option (List ℕ)) → pending held left ≡ Some script → (rest : List ℕ) × (left ≡ Some rest) × (script ≡ held ++ rest)
pending_some held script None e = absurd cc
pending_some held script (Some rest) e = (rest, refl, sym (same_Some _ _ e))

pub pending_is : (held rest : List ℕ) (left : Option (List ℕ)) → left ≡ Some rest → pending held left ≡ Some (held ++ rest)
pending_is held rest left e = rw e refl

-- ---- line feeds

NoFeed-append : (xs ys : List ℕ) → NoFeed xs → NoFeed ys → NoFeed (xs ++ ys)
NoFeed-append [] ys h k = k
NoFeed-append (x ∷ xs) ys h k = let t = and_parts (not (x == 10)) (has_no_feed xs) h in rw t.0 (NoFeed-append xs ys t.1 k)

-- ---- lines

lines_of-line : (line rest : List ℕ) → NoFeed line → lines_of (line ++ 10 ∷ rest) ≡ line ∷ lines_of rest
lines_of-line [] rest h = refl
lines_of-line (b ∷ line) rest h =
    let t = and_parts (not (b == 10)) (has_no_feed line) h in
    rw (not-true (b == 10) t.0, lines_of-line line rest t.1) refl

lines_of-last : (b : ℕ) (line : List ℕ) → NoFeed (b ∷ line) → lines_of (b ∷ line) ≡ (b ∷ line) ∷ []
lines_of-last b [] h = let t = and_parts (not (b == 10)) true h in rw (not-true (b == 10) t.0) refl
lines_of-last b (c ∷ line) h =
    let t = and_parts (not (b == 10)) (has_no_feed (c ∷ line)) h in
    rw (not-true (b == 10) t.0, lines_of-last c line t.1) refl

abbrev FirstIsLong : ℕ → List (List ℕ) → Type 0
FirstIsLong n all = (line : List ℕ) × (lines : List (List ℕ)) × (all ≡ line ∷ lines) × (n ≤ length line)

longer : (b n : ℕ) (all : List (List ℕ)) → FirstIsLong n all → FirstIsLong (suc n) (onto_first b all)
longer b n all (line, lines, is, le) = (b ∷ line, lines, rw is refl, omega arith)

first_of : (b : ℕ) (all : List (List ℕ)) → FirstIsLong 1 (onto_first b all)
first_of b [] = (b ∷ [], [], refl, omega arith)
first_of b (line ∷ lines) = (b ∷ line, lines, refl, omega arith)

lines_of-begins : (b : ℕ) (line rest : List ℕ) → NoFeed (b ∷ line) → FirstIsLong (length (b ∷ line)) (lines_of ((b ∷ line) ++ rest))
lines_of-begins b [] rest h = let t = and_parts (not (b == 10)) true h in rw (not-true (b == 10) t.0) (first_of b (lines_of rest))
lines_of-begins b (c ∷ line) rest h =
    let t = and_parts (not (b == 10)) (has_no_feed (c ∷ line)) h in
    rw (not-true (b == 10) t.0) (longer b (length (c ∷ line)) (lines_of ((c ∷ line) ++ rest)) (lines_of-begins c line rest t.1))

-- ---- steps of the loop

pub begins_after : (script held after line more : List ℕ) (left : Option (List ℕ)) → BeginsLine script line (pending held left) → Moves false held after line more → BeginsLine script more (pending after left)
begins_after script held after line more left b m =
    let p = pending_some held b.0 left b.1 in (
      p.0,
      pending_is after p.0 left p.1 ∙ ap (λ (xs : List ℕ). Some (xs ++ p.0)) m.1,
      b.2 ∙ ap (λ (xs : List ℕ). line ++ xs) p.2 ∙ sym (append_assoc line held p.0) ∙ ap (λ (xs : List ℕ). xs ++ p.0) (sym m.2),
      rw m.2 (NoFeed-append line held b.3 m.0),
    )

regrouped : (line front after rest : List ℕ) → line ++ ((front ++ 10 ∷ after) ++ rest) ≡ (line ++ front) ++ 10 ∷ (after ++ rest)
regrouped line front after rest = simp append_assoc

pub takes_line : (script held after line more : List ℕ) (left : Option (List ℕ)) → BeginsLine script line (pending held left) → Moves true held after line more → TakesLine script (Some more) (pending after left)
takes_line script held after line more left b m =
    let p = pending_some held b.0 left b.1 in
    let whole : script ≡ more ++ 10 ∷ (after ++ p.0) =
    b.2 ∙ ap (λ (xs : List ℕ). line ++ xs) (p.2 ∙ ap (λ (xs : List ℕ). xs ++ p.0) m.2) ∙ regrouped line m.0 after p.0 ∙ ap (λ (xs : List ℕ). xs ++ 10 ∷ (after ++ p.0)) (sym m.3) in (
      after ++ p.0,
      pending_is after p.0 left p.1,
      ap lines_of whole ∙ lines_of-line more (after ++ p.0) (rw m.3 (NoFeed-append line m.0 b.3 m.1)),
    )

long : (script more rest : List ℕ) → script ≡ more ++ rest → NoFeed more → line_limit < length more → IsTooLong script
long script [] rest e clean lt = absurd (omega arith)
long script (b ∷ more) rest e clean lt =
    let f = lines_of-begins b more rest clean in
    (f.0, f.1, ap lines_of e ∙ f.2, omega (arith, f.3))

pub too_long : (found : Bool) (script held after line more : List ℕ) (left : Option (List ℕ)) → BeginsLine script line (pending held left) → Moves found held after line more → line_limit < length more → IsTooLong script
too_long true script held after line more left b m lt =
    let t = takes_line script held after line more left b m in
    (more, lines_of t.0, t.2, lt)
too_long false script held after line more left b m lt =
    let t = begins_after script held after line more left b m in
    long script more t.0 t.2 t.3 lt

-- the whole rest of a script was its last line
pub takes_last : (script line : List ℕ) (left : Option (List ℕ)) (b : BeginsLine script line left) → b.0 ≡ [] → (shown : List ℕ) → shown ≡ line → false ≡ (length shown == 0) → TakesLine script (Some line) left
takes_last script [] left b none shown is some = absurd (let e : false ≡ true = rw is at some in cc)
takes_last script (x ∷ line) left b none shown is some =
    ([], b.1 ∙ ap (λ (xs : List ℕ). Some xs) none, ap lines_of (b.2 ∙ ap (λ (xs : List ℕ). (x ∷ line) ++ xs) none ∙ append-nil (x ∷ line)) ∙ lines_of-last x line b.3)

-- what was read of a script is the line so far and what is held
pub reads_ahead : (line held : List ℕ) (before mid left : Option (List ℕ)) → ((script : List ℕ) → before ≡ Some script → BeginsLine script line mid) → KeepsLeft mid (pending held left) → length held + length line ≤ line_limit + 1 → ReadsAhead before left
reads_ahead line held before mid left begins keeps most script told =
    let b = begins script told in
    let p = pending_some held b.0 left (keeps b.0 b.1) in
    record {
      over = line ++ held;
      rest = p.0;
      left_is = p.1;
      script_is = b.2 ∙ ap (λ (xs : List ℕ). line ++ xs) p.2 ∙ sym (append_assoc line held p.0);
      most = rw length-append (omega arith);
    }

-- the bytes that are left stay as they are
abbrev pub still_begins : (script line : List ℕ) (before after : Option (List ℕ)) → BeginsLine script line before → KeepsLeft before after → BeginsLine script line after
still_begins script line before after b keeps = (b.0, keeps b.0 b.1, b.2, b.3)
