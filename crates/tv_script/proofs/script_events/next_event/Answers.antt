use Rattle.std.proofs.Common.{◌≡◌, ◌≤◌, sym, ◌∙◌, arith, length, Option, Some, None, vec_len, ℕ, ◌*◌, List, [], ◌∷◌, ap, length-append}
use Rattle.tv_events.specs.Script.{AllSpell, line_limit, line_of, lines_of, IsLine}
use Rattle.tv_script.proofs.script_events.next_event.Goals as goal
use Rattle.std.specs.List.{join_with_byte}
use Rattle.hex.proofs.HexLemmas.{decode_of-ok}
use Rattle.tv_events.specs.declared.event.Event.{Event}
use Rattle.tv_events.specs.declared.event.Event.TheVariants as events
use Rattle.tv_formats.specs.declared.segment.SegmentComponent.{SegmentComponent}
use Rattle.tv_script.specs.ScriptLines.{bytes_in}

-- the fourth of some words is within their line
fourth_within : (a b c d : List ℕ) (words : List (List ℕ)) → length d ≤ length (join_with_byte 32 (a ∷ b ∷ c ∷ d ∷ words))
fourth_within a b c d [] = simp length-append (omega arith)
fourth_within a b c d (word ∷ words) = simp length-append (omega arith)

-- what a write adds to its file fits into its words
bytes_within : (id : List ℕ) (c : SegmentComponent) (bytes : List ℕ) (words : List (List ℕ)) → AllSpell (line_of (events.Write id c bytes)) words → length bytes ≤ length (join_with_byte 32 words)
bytes_within id c bytes [] spell = absurd spell
bytes_within id c bytes (keyword ∷ []) spell = absurd spell.1
bytes_within id c bytes (keyword ∷ first ∷ []) spell = absurd spell.1.1
bytes_within id c bytes (keyword ∷ first ∷ second ∷ []) spell = absurd spell.1.1.1
bytes_within id c bytes (keyword ∷ first ∷ second ∷ digits ∷ words) spell =
    let twice : length digits ≡ 2 * length bytes = (decode_of-ok digits bytes spell.1.1.1.0).2 in
    omega (arith, fourth_within keyword first second digits words)

-- what an event adds to a file fits into its line
written_fits : (text : List ℕ) (e : Event) → IsLine text e → bytes_in e ≤ line_limit
written_fits text (events.Write id c bytes) line =
    let len : length text ≡ length (join_with_byte 32 line.words) = ap length line.joined in
    omega (arith, line.short, len, bytes_within id c bytes line.words line.spell)
written_fits text other line = omega arith

not_both : {A : Type 0} {o : Option A} {x : A} → o ≡ None → o ≡ Some x → ⊥
not_both e f = let h : ◌≡◌ {A = Option _} None (Some _) = sym e ∙ f in absurd cc

pub returns-in_default-clause-event : goal.returns-in_default-clause-event
returns-in_default-clause-event g c = rw c.in_default.is at c.in_ok-line.ensures.line

pub returns-in-Some-2-clause-event : goal.returns-in-Some-2-clause-event
returns-in-Some-2-clause-event g c script told =
    let t = (rw c.in-Some.is at c.in_ok-line.ensures.line) script told in
    let found = rw c.in-Some-2.is at c.in_ok-event.ensures.found in
    (_, t.0, t.1, t.2, rw c.as_slice.ensures.value at found)

pub returns-in-Some-2-clause-fits : goal.returns-in-Some-2-clause-fits
returns-in-Some-2-clause-fits g c = let line = rw c.in-Some-2.is at c.in_ok-event.ensures.found in record { small = written_fits _ _ line; fits = line.fits }

pub returns-clause-faults : goal.returns-clause-faults
returns-clause-faults g c =
    let taken = rw c.in-Some.is at c.in_ok-line.ensures.line in
    let short : vec_len c.in-Some.line ≤ line_limit = rw c.in-Some.is at c.in_ok-line.ensures.within in
    let most : length c.in-Some.line.items ≤ line_limit = omega (arith, short, c.in-Some.line.ok.0) in
    record {
      quiet = tt;
      cause = (
        c.in_ok-line.ensures.faults.quiet,
        λ script told.
            let t = taken script told in (
              c.in-Some.line.items,
              lines_of t.0,
              t.2,
              most,
              λ e line. not_both c.in-None.is (c.in_ok-event.ensures.only e (rw c.as_slice.ensures.value line)),
            ),
      );
    }
