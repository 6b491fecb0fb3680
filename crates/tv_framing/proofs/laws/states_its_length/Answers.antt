use Rattle.std.proofs.Common.{◌≡◌, ◌+◌, ℕ, List, [], length, arith}
use Rattle.std.proofs.lemmas.Result.{IfOk-weaker}
use Rattle.tv_formats.specs.Footer.{stated}
use Rattle.tv_formats.proofs.FooterTexts.{json_short, spells_itself}
use Rattle.tv_framing.specs.declared.footer.Footer.{Footer}
use Rattle.tv_framing.specs.Footers.{HasFittingNumbers, IsFramedAs, footer_json, footer_text, numbers_of}
use Rattle.tv_framing.proofs.FooterEnds.{ends_of, stated_is}
use Rattle.tv_framing.proofs.laws.states_its_length.Goals as goal

-- the footer alone is a file whose body is empty
states : (bytes : List ℕ) (footer : Footer) → HasFittingNumbers footer → bytes ≡ footer_text footer → stated bytes + 8 ≡ length bytes
states bytes footer fits is =
    let framed : IsFramedAs bytes footer [] = record { json = footer_json footer; whole = is; short = json_short (numbers_of footer) fits; spells = spells_itself (numbers_of footer) 0 fits } in
    let ends = ends_of bytes footer [] framed in
    omega (arith, stated_is bytes _ _ _ ends, ends.size)

pub returns : goal.returns
returns c = λ fits. IfOk-weaker c.to_bytes.result _ _ (λ bytes is. states bytes.items c.args.footer.now fits is) c.to_bytes.ensures.bytes
