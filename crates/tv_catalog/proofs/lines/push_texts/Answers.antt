use Rattle.std.proofs.Common.{arith, ◌≡◌, ◌++◌, ◌∷◌, ◌+◌, ℕ, List, [], true, drop, get_or, length, sym, ap, subst, ◌∙◌}
use Rattle.std.specs.Borrow.{Bor}
use Rattle.std.proofs.lemmas.List.{drop_more}
use Rattle.tv_formats.specs.Files.{has_no_feed}
use Rattle.tv_events.specs.AnswerLines.{line}
use Rattle.tv_catalog.specs.Kept.{texts_of}
use Rattle.tv_catalog.proofs.AnswerRoom.{begun_fits, word_feeds}
use Rattle.tv_catalog.proofs.PlannedCollections.{first_plain_name}
use Rattle.tv_catalog.proofs.lines.push_texts.Goals as goal

pub push_word-requires : goal.push_word-requires
push_word-requires c =
    let text = c.loop-name.text.items in
    let names = c.args.names.now in
    let blank : Bor (List ℕ) = record { ref_ptr = (0, 0); now = [] } in
    let name = get_or names c.loop-name.name-index blank in
    let rest = texts_of (drop (c.loop-name.name-index + 1) names) in
    let next = ap texts_of (drop_more names c.loop-name.name-index blank c.loop-name-test.true) in
    let whole : line (text ++ 32 ∷ name.now) rest ≡ line c.args.text.now.items (texts_of names) =
    sym (ap (λ (ns : List (List ℕ)). line text ns) next) ∙ c.loop-name.invariant.line in
    omega (
      arith,
      begun_fits (text ++ 32 ∷ name.now) rest,
      ap (λ (t : List ℕ). length t) whole,
      ap (λ (word : List ℕ). length (text ++ 32 ∷ word)) c.as_bytes.ensures.value,
      c.loop-name.invariant.room,
      c.requires.room,
    )

pub loop-name-preserved : goal.loop-name-preserved
loop-name-preserved c =
    let text = c.loop-name.text.items in
    let names = c.args.names.now in
    let blank : Bor (List ℕ) = record { ref_ptr = (0, 0); now = [] } in
    let name = get_or names c.loop-name.name-index blank in
    let rest = texts_of (drop (c.loop-name.name-index + 1) names) in
    let next = ap texts_of (drop_more names c.loop-name.name-index blank c.loop-name-test.true) in
    let longer : c.push_word.new.text.items ≡ text ++ 32 ∷ name.now = c.push_word.ensures.word ∙ ap (λ (word : List ℕ). text ++ 32 ∷ word) c.as_bytes.ensures.value in
    let first = first_plain_name (texts_of (drop c.loop-name.name-index names)) rest name.now next c.loop-name.invariant.plain in
    record {
      line = ap (λ (t : List ℕ). line t rest) longer ∙ sym (ap (λ (ns : List (List ℕ)). line text ns) next) ∙ c.loop-name.invariant.line;
      room = omega (arith, c.loop-name.invariant.room, c.push_word.ensures.room);
      feed = subst (λ (t : List ℕ). has_no_feed t ≡ true) (sym longer) (word_feeds text name.now c.loop-name.invariant.feed first.0);
      plain = first.1;
    }
