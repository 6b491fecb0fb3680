use Rattle.std.proofs.Common.{◌≡◌, ℕ, List, Option, None, Some, subst, sym, ◌∙◌}
use Rattle.std.proofs.lemmas.Option.{same_Some}
use Rattle.std.specs.Prelude.{IsUtf8, MatchOption}
use Rattle.serde_json.specs.Data.{Data}
use Rattle.serde_json.specs.Read.{read}
use Rattle.serde_json.specs.View.{view}
use Rattle.tv_framing.specs.declared.footer.Footer.{Footer}
use Rattle.tv_framing.specs.Footers.{HasFooterFields, SpellsFooter}
use Rattle.tv_framing.proofs.footer_json.read_footer.Goals as goal

spelled : (json : List ℕ) (d : Data) (o : Option Footer) → IsUtf8 json × (read json ≡ Some d) → MatchOption o ((footer : Footer) (n : ℕ) → HasFooterFields d n footer → ⊥) (λ footer. (n : ℕ) → HasFooterFields d n footer)
    → MatchOption o ((footer : Footer) (n : ℕ) → SpellsFooter json n footer → ⊥) (λ footer. (n : ℕ) → SpellsFooter json n footer)
spelled json d (Some footer) h form = λ n. record { text = h.0; tree = d; parsed = h.1; form = form n }
spelled json d None h none = λ footer n s. none footer n (subst (λ t. HasFooterFields t n footer) (sym (same_Some d s.tree (sym h.1 ∙ s.parsed))) s.form)

pub returns-in-Ok : goal.returns-in-Ok
returns-in-Ok c = spelled c.args.bytes.now (view c.in-Ok.tree) c.footer_of.result c.in-Ok.ensures.ok c.footer_of.ensures
