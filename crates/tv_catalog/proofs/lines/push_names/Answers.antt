use Rattle.std.proofs.Common.{arith, ◌≡◌, ◌++◌, ◌∷◌, ◌+◌, ℕ, List, true, drop, length, sym, ap, subst, ◌∙◌}
use Rattle.tv_formats.specs.Files.{has_no_feed}
use Rattle.tv_formats.proofs.NoFeeds.{no_feed_name}
use Rattle.tv_events.specs.AnswerLines.{line}
use Rattle.tv_catalog.proofs.AnswerRoom.{begun_fits, word_feeds}
use Rattle.tv_catalog.proofs.SharedLaws.{drop_here}
use Rattle.tv_catalog.proofs.lines.push_names.Goals as goal

pub push_word-requires : goal.push_word-requires
push_word-requires c =
    let text = c.loop-name.text.items in
    let name = c.name-item.result in
    let names = c.args.names.now in
    let rest = drop (c.loop-name.name-index + 1) names in
    let next = drop_here names c.loop-name.name-index name (omega arith) c.name-item.is in
    let whole : line (text ++ 32 ∷ name) rest ≡ line c.args.text.now.items names = sym (ap (λ (ns : List (List ℕ)). line text ns) next) ∙ c.loop-name.invariant.line in
    omega (
      arith,
      begun_fits (text ++ 32 ∷ name) rest,
      ap (λ (t : List ℕ). length t) whole,
      ap (λ (word : List ℕ). length (text ++ 32 ∷ word)) (c.as_bytes.ensures.value ∙ c.as_str.ensures.text),
      c.loop-name.invariant.room,
      c.requires.room,
    )

pub loop-name-preserved : goal.loop-name-preserved
loop-name-preserved c =
    let text = c.loop-name.text.items in
    let name = c.name-item.result in
    let names = c.args.names.now in
    let rest = drop (c.loop-name.name-index + 1) names in
    let next = drop_here names c.loop-name.name-index name (omega arith) c.name-item.is in
    let longer : c.push_word.new.text.items ≡ text ++ 32 ∷ c.as_str.result.now = c.push_word.ensures.word ∙ ap (λ (word : List ℕ). text ++ 32 ∷ word) c.as_bytes.ensures.value in
    record {
      line =
          ap (λ (t : List ℕ). line t rest) (longer ∙ ap (λ (word : List ℕ). text ++ 32 ∷ word) c.as_str.ensures.text)
          ∙ sym (ap (λ (ns : List (List ℕ)). line text ns) next) ∙ c.loop-name.invariant.line;
      room = omega (arith, c.loop-name.invariant.room, c.push_word.ensures.room);
      feed = subst (λ (t : List ℕ). has_no_feed t ≡ true) (sym longer)
          (word_feeds text c.as_str.result.now c.loop-name.invariant.feed (no_feed_name c.as_str.result.now c.as_str.ensures.name));
    }
