use Rattle.std.proofs.Common.{ℕ, rules, subst, sym, ◌∙◌}
use Rattle.std.proofs.lemmas.Option.{same_Some}
use Rattle.serde_json.specs.View.{view}
use Rattle.tv_framing.specs.declared.footer.Footer.{Footer}
use Rattle.tv_framing.specs.Footers.{HasFooterFields}
use Rattle.tv_framing.specs.FooterTrees.{IsVersion}
use Rattle.tv_framing.proofs.footer_json.footer_of.Goals as goal

pub returns-in_err-version_of : goal.returns-in_err-version_of
returns-in_err-version_of c =
    let none : (footer : Footer) (length : ℕ) → HasFooterFields (view c.args.tree.now) length footer → ⊥ = λ footer length h.
    let at = same_Some _ _ (c.in_ok-get.ensures ∙ h.version_at) in
    c.in_err-version_of.ensures footer.version (subst (λ d. IsVersion d footer.version) (sym at) (record { major = h.major; minor = h.minor; patch = h.patch; format = h.format })) in
    search rules
