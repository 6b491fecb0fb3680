use Rattle.std.proofs.Common.{◌≡◌, Bool, true, false, List, ℕ, Some, None, refl}
use Rattle.std.specs.Prelude.{IsUtf8}
use Rattle.std.specs.Str.{is_utf8}
use Rattle.std.proofs.lemmas.Str.{IsUtf8-from_is_utf8, is_utf8-from_IsUtf8}
use Rattle.tv_script.specs.EventWords.{text_in}
use Rattle.tv_script.proofs.script.keyword_of.Goals as goal

no_text : (word : List ℕ) → (IsUtf8 word → ⊥) → None ≡ text_in word
no_text word other = by_utf8 (is_utf8 word) refl where
  by_utf8 : (b : Bool) → is_utf8 word ≡ b → None ≡ text_in word
  by_utf8 true is = absurd (other (IsUtf8-from_is_utf8 word is))
  by_utf8 false is = rw is refl

is_text : (word text : List ℕ) → text ≡ word → IsUtf8 word → Some text ≡ text_in word
is_text word text e utf8 = rw (e, is_utf8-from_IsUtf8 word utf8) refl

pub returns-in_default : goal.returns-in_default
returns-in_default c = no_text c.args.word.now c.in_default.ensures.cases.0

pub returns : goal.returns
returns c = is_text c.args.word.now c.in-Ok.text.now c.in-Ok.ensures.cases.0 c.in-Ok.ensures.cases.1
