use Rattle.std.proofs.Common.{◌≡◌, length, ℕ, ap, arith, sym, ◌∙◌, append_assoc}
use Rattle.std.proofs.lemmas.Grind.{common_steps}
use Rattle.tv_formats.specs.Footer.{footer, footer_magic, four_bytes}
use Rattle.tv_framing.specs.declared.footer.Footer.{Footer}
use Rattle.tv_framing.specs.Footers.{footer_json, footer_text, own_footer}
use Rattle.tv_framing.proofs.footer.Footer.to_bytes.Goals as goal

own_text : (f : Footer) (crc : ℕ) → f ≡ own_footer crc → footer_text f ≡ footer crc
own_text f crc is =
    let json = footer_json (own_footer crc) in ap footer_text is ∙ sym (append_assoc json (four_bytes (length json)) (four_bytes footer_magic))

pub returns-clause-own : goal.returns-clause-own
returns-clause-own c crc is = ◌∙◌ {b = footer_text c.args.self.now} (grind (arith, common_steps)) (own_text c.args.self.now crc is)
