use Rattle.std.proofs.Common.{length, refl}
use Rattle.tv_formats.proofs.FooterTexts.{json_short, own_framed, spells_itself}
use Rattle.tv_framing.specs.Footers.{footer_json, numbers_of}
use Rattle.tv_framing.proofs.laws.footers_are_read_back.Goals as goal

pub returns : goal.returns
returns c = record {
  framed = λ footer body h. record { json = footer_json footer; whole = refl; short = json_short (numbers_of footer) h; spells = spells_itself (numbers_of footer) (length body) h };
  sealed = λ crc body h. own_framed crc body h;
}
