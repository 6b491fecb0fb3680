use Rattle.std.proofs.Common.{◌++◌, List, None, Some, ap, sym, ◌∙◌, ℕ}
use Rattle.std.proofs.lemmas.Bool.Decides.{Decides-eqb}
use Rattle.std.proofs.lemmas.Slice.Eq.{strip_prefix_is}
use Rattle.tv_metas.proofs.PrintedForms.{around, no_key, no_schema, none_closed, none_on}
use Rattle.tv_metas.proofs.printed.around_schema.Goals as goal

pub returns-in_err-close_of : goal.returns-in_err-close_of
returns-in_err-close_of c = none_on _ _ _ c.from_residual.ensures (none_closed c.args.schema.now c.args.bytes.now (sym c.in_err-close_of.ensures))

pub returns-in_err-rest : goal.returns-in_err-rest
returns-in_err-rest c =
    none_on _ _ _ c.from_residual-in_err-rest.ensures
    (no_key c.args.schema.now c.args.bytes.now c.in_ok-close_of.field-0 (sym c.in_ok-close_of.ensures) c.split_at.result.1.now c.split_at.ensures.back
    (λ tail e. strip_prefix_is Decides-eqb c.split_at.result.1.now c.as_slice.result.now None c.in_err-rest.ensures.cases tail
    (e ∙ ap (λ (l : List ℕ). l ++ tail) (sym c.as_slice.ensures))))

pub returns-in_err-back : goal.returns-in_err-back
returns-in_err-back c =
    none_on _ _ _ c.from_residual-in_err-back.ensures
    (no_schema c.args.schema.now c.args.bytes.now c.in_ok-close_of.field-0 (sym c.in_ok-close_of.ensures) c.split_at.result.1.now c.in_ok-rest.rest.now
    c.split_at.ensures.back (strip_prefix_is Decides-eqb c.split_at.result.1.now c.as_slice.result.now (Some c.in_ok-rest.rest) c.in_ok-rest.ensures.cases
    ∙ ap (λ (l : List ℕ). l ++ c.in_ok-rest.rest.now) c.as_slice.ensures)
    (strip_prefix_is Decides-eqb c.in_ok-rest.rest.now c.args.schema.now None c.in_err-back.ensures.cases))

pub returns : goal.returns
returns c =
    around c.args.schema.now c.args.bytes.now c.in_ok-close_of.field-0 (sym c.in_ok-close_of.ensures) c.split_at.result.0.now c.split_at.result.1.now
    c.in_ok-rest.rest.now c.in_ok-back.back.now c.split_at.ensures.front c.split_at.ensures.back
    (strip_prefix_is Decides-eqb c.split_at.result.1.now c.as_slice.result.now (Some c.in_ok-rest.rest) c.in_ok-rest.ensures.cases
    ∙ ap (λ (l : List ℕ). l ++ c.in_ok-rest.rest.now) c.as_slice.ensures)
    (strip_prefix_is Decides-eqb c.in_ok-rest.rest.now c.args.schema.now (Some c.in_ok-back.back) c.in_ok-back.ensures.cases)
