use Rattle.std.proofs.Common.{◌≡◌, ℕ, ◌^◌, ◌<◌, sym, ◌∙◌, ap, Ok, Result}
use Rattle.std.specs.Fmt.{decimal}
use Rattle.std.proofs.lemmas.Fmt.{parse-decimal, IsAscii-decimal}
use Rattle.std.proofs.lemmas.Str.{IsUtf8-from_ascii}
use Rattle.std.specs.Cmp.Lexicographic.{same_text, other_text}
use Rattle.tv_script.proofs.Numbers.{number_again, number_none}
use Rattle.tv_script.proofs.words.number_of.Goals as goal

ok_is : {E : Type 0} {x y : ℕ} → ◌≡◌ {A = Result ℕ E} (Ok x) (Ok y) → x ≡ y
ok_is e = cc

pub returns-in_default : goal.returns-in_default
returns-in_default c = sym (number_none (2 ^ 64) c.args.word.now (λ n lt e. c.in_default.ensures.cases.0 (rw e (IsUtf8-from_ascii (decimal n) (IsAscii-decimal n lt)))))

pub returns-in_default-parse : goal.returns-in_default-parse
returns-in_default-parse c = sym (number_none (2 ^ 64) c.args.word.now (λ n lt e.
    c.in_default-parse.not-Ok n (parse-decimal 64 n c.in-Ok.text.now c.parse.result lt lt (c.in-Ok.ensures.cases.0 ∙ e) c.parse.ensures.value.0)))

pub returns-then-eq : goal.returns-then-eq
returns-then-eq c =
    let n = c.in-Ok-parse.number in
    let read = c.in-Ok-parse.ensures.value.0 in
    let lt : n < 2 ^ 64 = rw read.1 read.0.1 in
    let spelled : decimal n ≡ c.args.word.now = sym c.format.ensures.text ∙ sym c.as_bytes.ensures.value ∙ same_text _ _ c.if-eq.ensures in
    sym (rw (← spelled) (number_again (2 ^ 64) n lt lt))

pub returns-else-eq : goal.returns-else-eq
returns-else-eq c = sym (number_none (2 ^ 64) c.args.word.now (λ n lt e.
    let read : c.parse.result ≡ Ok n = parse-decimal 64 n c.in-Ok.text.now c.parse.result lt lt (c.in-Ok.ensures.cases.0 ∙ e) c.parse.ensures.value.0 in
    let same : c.in-Ok-parse.number ≡ n = ok_is (sym c.in-Ok-parse.is ∙ read) in
    other_text _ _ c.if-eq.ensures (c.as_bytes.ensures.value ∙ c.format.ensures.text ∙ ap decimal same ∙ sym e)))
