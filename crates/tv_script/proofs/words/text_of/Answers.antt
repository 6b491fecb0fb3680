use Rattle.std.proofs.Common.{◌≡◌, ℕ, Bool, true, false, true≢false, List, string_bytes, None, Ok, refl, sym, ap, subst, ◌∙◌}
use Rattle.std.specs.Prelude.{IsOk, IsUtf8}
use Rattle.std.specs.Str.{is_utf8}
use Rattle.std.proofs.lemmas.Str.{IsUtf8-from_is_utf8, IsUtf8-string_bytes}
use Rattle.hex.specs.Hex.{decode_of}
use Rattle.tv_script.specs.Fields.{text_at}
use Rattle.tv_script.proofs.WordLaws.{text_again}
use Rattle.tv_script.proofs.words.text_of.Goals as goal

-- digits of bytes that are no text
no_text : (digits bytes : List ℕ) → decode_of digits ≡ Ok bytes → (IsUtf8 bytes → ⊥) → None ≡ text_at digits
no_text digits bytes e other = by_utf8 (is_utf8 bytes) refl where
  by_utf8 : (b : Bool) → is_utf8 bytes ≡ b → None ≡ text_at digits
  by_utf8 true is = absurd (other (IsUtf8-from_is_utf8 bytes is))
  by_utf8 false is = rw (e, is) refl

pub returns-in-Ok-from_utf8 : goal.returns-in-Ok-from_utf8
returns-in-Ok-from_utf8 c =
    let text = c.in-Ok-from_utf8.text in
    let is : string_bytes text ≡ c.in-Ok.bytes.items = ap (λ v. v.items) c.in-Ok-from_utf8.ensures.ok in
    let decoded : decode_of c.args.digits.now ≡ Ok c.new.result = c.in-Ok.ensures.ok ∙ ap (λ (bytes : List ℕ). Ok bytes) (sym is ∙ sym c.new.ensures) in
    sym (text_again c.args.digits.now c.new.result decoded (subst IsUtf8 (sym c.new.ensures) (IsUtf8-string_bytes text)))

pub returns-in-Ok : goal.returns-in-Ok
returns-in-Ok c = no_text c.args.digits.now c.in-Ok.bytes.items c.in-Ok.ensures.ok (λ utf8. true≢false (sym (subst IsOk c.in-Err-from_utf8.is (c.from_utf8.ensures.succeeds utf8))))
