use Rattle.std.proofs.Common.{rules, ◌≡◌, ◌∷◌, ◌++◌, [], ℕ, List, option_map, refl, ap, ap₂, ◌∙◌, append_assoc}
use Rattle.json.specs.Print.{print}
use Rattle.json.specs.Token.{Token}
use Rattle.json.specs.Tree.{members_tokens}
use Rattle.serde_json.specs.Written.{members_outline}
use Rattle.tv_formats.specs.Commits.{last_members}
use Rattle.tv_formats.proofs.PrintedTrees.{last_print}
use Rattle.tv_metas.proofs.meta_text.ended.Goals as goal

pub returns : goal.returns
returns c =
    let payload = option_map (λ s. s.now) c.args.payload in
    let last = members_tokens (members_outline (last_members c.args.opstamp payload)) in
    let before : c.write_payload.new.out.before ≡ c.args.text.items ++ 44 ∷ [] = search rules in
    let tokens : c.write_payload.new.out.tokens ≡ members_tokens (members_outline (last_members c.args.opstamp payload)) =
    rw (c.in_ok-write_payload.ensures.tokens, c.in_ok-u64.ensures.ok, c.in_ok-key.ensures.ok, c.new-out.ensures.tokens) refl in
    c.into_inner.ensures.items ∙ ap₂ (λ (b : List ℕ) (ts : List Token). b ++ print ts) before tokens
    ∙ append_assoc c.args.text.items (44 ∷ []) (print last) ∙ ap (λ (l : List ℕ). c.args.text.items ++ l) (last_print c.args.opstamp payload)
