use Rattle.std.proofs.Common.{◌≡◌, ◌++◌, ◌∷◌, List, ℕ, true, refl, sym, subst}
use Rattle.tv_formats.proofs.NoFeeds.{no_feed_name}
use Rattle.tv_formats.specs.Files.{has_no_feed}
use Rattle.tv_catalog.proofs.AnswerRoom.{word_feeds}
use Rattle.tv_catalog.proofs.lines.line_of.Goals as goal

-- a line with one more word has no line feed
pub longer_feeds : (new text word value : List ℕ) → new ≡ text ++ 32 ∷ word → word ≡ value → has_no_feed text ≡ true → has_no_feed value ≡ true → has_no_feed new ≡ true
longer_feeds new text word value is same first second = rw (is, same) (word_feeds text value first second)

pub from_bytes-requires-in-Unsealed : goal.from_bytes-requires-in-Unsealed
from_bytes-requires-in-Unsealed c =
    longer_feeds _ _ _ _ c.push_word.ensures.word c.as_bytes.ensures.value (subst (λ (t : List ℕ). has_no_feed t ≡ true) (sym c.replaced-text.ensures.text) refl) (no_feed_name c.as_str.result.now c.as_str.ensures.name)

pub from_bytes-requires-in-Tried : goal.from_bytes-requires-in-Tried
from_bytes-requires-in-Tried c =
    let first : has_no_feed c.push_word-in-Tried.new.text.items ≡ true = longer_feeds _ _ _ _ c.push_word-in-Tried.ensures.word c.as_bytes-in-Tried.ensures.value c.requires.feed c.tried_word.ensures.feed in
    longer_feeds _ _ _ _ c.push_word-in-Tried-2.ensures.word c.as_bytes-in-Tried-2.ensures.value first (no_feed_name c.as_str-in-Tried.result.now c.as_str-in-Tried.ensures.name)

pub from_bytes-requires-in-Unreadable : goal.from_bytes-requires-in-Unreadable
from_bytes-requires-in-Unreadable c =
    longer_feeds _ _ _ _ c.push_word-in-Unreadable.ensures.word c.as_bytes-in-Unreadable.ensures.value (subst (λ (t : List ℕ). has_no_feed t ≡ true) (sym c.replaced-text-in-Unreadable.ensures.text) refl) (no_feed_name c.as_str-in-Unreadable.result.now c.as_str-in-Unreadable.ensures.name)
