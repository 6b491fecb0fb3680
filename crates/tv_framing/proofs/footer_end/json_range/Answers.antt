use Rattle.std.proofs.Common.{inl, inr, sym, subst, ◌∙◌, ap, arith, ◌+◌}
use Rattle.tv_base.specs.declared.io.IoKind.TheVariants.{InvalidData, UnexpectedEof}
use Rattle.tv_framing.specs.Faults.{IsFault}
use Rattle.tv_framing.specs.Footers.{cut_off_text, too_long_text}
use Rattle.tv_framing.proofs.FooterEnds.{has_end, last_is, of_fault, other_magic, stated_is}
use Rattle.tv_formats.specs.Footer.{four_bytes}
use Rattle.tv_framing.proofs.footer_end.json_range.Goals as goal

pub returns-then-magic-ne-FOOTER_MAGIC_NUMBER : goal.returns-then-magic-ne-FOOTER_MAGIC_NUMBER
returns-then-magic-ne-FOOTER_MAGIC_NUMBER c =
    let e = c.in-Some.ensures in
    of_fault c.refusal.result c.refusal.ensures
    (λ f is. inr (inl (record { large = omega (arith, e.size); other = λ same. other_magic c.in-Some.magic e.magic_small c.if-magic-ne-FOOTER_MAGIC_NUMBER.true (sym (last_is _ _ _ _ e) ∙ same); is = is })))

pub returns-then-len-gt-MAX_LEN : goal.returns-then-len-gt-MAX_LEN
returns-then-len-gt-MAX_LEN c =
    let e = c.in-Some.ensures in
    let n = stated_is c.args.bytes.now c.in-Some.front c.in-Some.stated c.in-Some.magic e in
    of_fault c.numbered-then-len-gt-MAX_LEN.result c.numbered-then-len-gt-MAX_LEN.ensures
    (λ f is. inr (inr (inl (record {
      large = omega (arith, e.size);
      magic = last_is _ _ _ _ e ∙ ap four_bytes c.if-magic-ne-FOOTER_MAGIC_NUMBER.false;
      long = omega (arith, n, c.if-len-gt-MAX_LEN.true);
      is = subst (λ k. IsFault InvalidData (too_long_text k) f) (sym n) is;
    }))))

pub returns-then-front-len : goal.returns-then-front-len
returns-then-front-len c =
    let e = c.in-Some.ensures in
    let n = stated_is c.args.bytes.now c.in-Some.front c.in-Some.stated c.in-Some.magic e in
    of_fault c.numbered-then-front-len.result c.numbered-then-front-len.ensures
    (λ f is. inr (inr (inr (inl (record {
      large = omega (arith, e.size);
      magic = last_is _ _ _ _ e ∙ ap four_bytes c.if-magic-ne-FOOTER_MAGIC_NUMBER.false;
      short = omega (arith, n, c.if-len-gt-MAX_LEN.false);
      cut = omega (arith, n, e.size, c.if-front-len.true);
      is = subst (λ k. IsFault UnexpectedEof (cut_off_text (k + 8)) f) (sym n) is;
    })))))

pub returns : goal.returns
returns c =
    let e = c.in-Some.ensures in
    has_end c.args.bytes.now c.in-Some.front c.in-Some.stated c.in-Some.magic e c.if-magic-ne-FOOTER_MAGIC_NUMBER.false (omega arith) (omega arith)
