-- Lines of names, and what live segments are.
use Rattle.std.proofs.Common.{◌≡◌, ℕ, true, List, [], ◌∷◌, ◌++◌, map, refl, ap, ◌∙◌, string_bytes, String, Global}
use Rattle.std.specs.List.{list_all}
use Rattle.std.proofs.lemmas.List.{map_push}
use Rattle.tv_formats.specs.Names.{is_plain}
use Rattle.tv_events.specs.AnswerLines.{line}
use Rattle.tv_formats.specs.Files.{has_no_feed}
use Rattle.tv_formats.proofs.PlainNames.{plain_head}
use Rattle.tv_formats.proofs.NoFeeds.{no_feed_plain}

-- ---- lines of names

-- one more word
line_more : (text : List ℕ) (words : List (List ℕ)) (word : List ℕ) → line text (words ++ word ∷ []) ≡ line text words ++ 32 ∷ word
line_more text [] word = refl
line_more text (w ∷ words) word = line_more (text ++ 32 ∷ w) words word

pub line_of_more : {X : Type 0} (f : X → List ℕ) (text : List ℕ) (xs : List X) (x : X) → line text (map f (xs ++ x ∷ [])) ≡ line text (map f xs) ++ 32 ∷ f x
line_of_more f text xs x = ap (λ (ws : List (List ℕ)). line text ws) (map_push f xs x) ∙ line_more text (map f xs) (f x)

-- the first of some plain names has no line feed
pub plain_first : (keys rest : List (String Global)) (name : String Global) → keys ≡ name ∷ rest → list_all is_plain (map string_bytes keys) ≡ true → (has_no_feed (string_bytes name) ≡ true) × (list_all is_plain (map string_bytes rest) ≡ true)
plain_first keys rest name e h =
    let t = plain_head keys rest name e h in
    (no_feed_plain (string_bytes name) t.0, t.1)
