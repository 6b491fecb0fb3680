use Rattle.std.proofs.Common.{◌++◌, List, ap, append_assoc, ◌∙◌, ℕ}
use Rattle.tv_metas.proofs.PrintedForms.{bared, if_none, unprinted}
use Rattle.tv_metas.proofs.printed.under_no_fields.Goals as goal

pub returns-in_default : goal.returns-in_default
returns-in_default c = unprinted c.args.schema.now c.args.bytes.now (if_none c.around_schema.result _ _ c.in_default.is c.around_schema.ensures)

pub returns : goal.returns
returns c =
    let front = c.in-Some.front.now in
    let back = c.in-Some.back.now in
    bared c.args.schema.now c.args.bytes.now front back c.extend_from_slice-2.new.self.items c.in-Some.ensures
    (c.in_ok-extend_from_slice-2.ensures.items
    ∙ ap (λ (l : List ℕ). l ++ back) (c.in_ok-extend_from_slice.ensures.items ∙ ap (λ (l : List ℕ). l ++ _) c.in_ok-text.ensures.items)
    ∙ append_assoc front _ back)
