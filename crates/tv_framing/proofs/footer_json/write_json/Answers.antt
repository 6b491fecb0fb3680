use Rattle.std.proofs.Common.{◌≡◌, ◌++◌, ℕ, List, refl, ap₂, ◌∙◌}
use Rattle.json.specs.Print.{print}
use Rattle.json.specs.Token.{Token}
use Rattle.json.specs.Tree.{json_tokens}
use Rattle.serde_json.specs.Written.{outline}
use Rattle.serde_json.proofs.Texts.{print-outline}
use Rattle.tv_formats.specs.FooterForm.{footer_tree}
use Rattle.tv_framing.specs.Footers.{numbers_of}
use Rattle.tv_framing.proofs.footer_json.write_json.Goals as goal

pub returns : goal.returns
returns c =
    let before = c.end_object-2.ensures.room.0 ∙ c.u64-5.ensures.room.0 ∙ c.key-6.ensures.room.0 ∙ c.end_object.ensures.room.0 ∙ c.u64-4.ensures.room.0
    ∙ c.key-5.ensures.room.0 ∙ c.u64-3.ensures.room.0 ∙ c.key-4.ensures.room.0 ∙ c.u64-2.ensures.room.0 ∙ c.key-3.ensures.room.0 ∙ c.u64.ensures.room.0
    ∙ c.key-2.ensures.room.0 ∙ c.begin_object-2.ensures.room.0 ∙ c.key.ensures.room.0 ∙ c.begin_object.ensures.room.0 ∙ c.new-json.ensures.before ∙ c.new.ensures.items in
    let tokens : c.end_object-2.new.self.tokens ≡ json_tokens (outline (footer_tree (numbers_of c.args.footer.now))) =
    rw (
      c.in_ok-end_object-2.ensures.ok,
      c.in_ok-u64-5.ensures.ok,
      c.from-5.ensures,
      c.in_ok-key-6.ensures.ok,
      c.in_ok-end_object.ensures.ok,
      c.in_ok-u64-4.ensures.ok,
      c.from-4.ensures,
      c.in_ok-key-5.ensures.ok,
      c.in_ok-u64-3.ensures.ok,
      c.from-3.ensures,
      c.in_ok-key-4.ensures.ok,
      c.in_ok-u64-2.ensures.ok,
      c.from-2.ensures,
      c.in_ok-key-3.ensures.ok,
      c.in_ok-u64.ensures.ok,
      c.from.ensures,
      c.in_ok-key-2.ensures.ok,
      c.in_ok-begin_object-2.ensures.ok,
      c.in_ok-key.ensures.ok,
      c.in_ok-begin_object.ensures.ok,
      c.new-json.ensures.tokens,
    )
    refl in
    c.into_inner.ensures.items ∙ ap₂ (λ (b : List ℕ) (ts : List Token). b ++ print ts) before tokens ∙ print-outline (footer_tree (numbers_of c.args.footer.now))
