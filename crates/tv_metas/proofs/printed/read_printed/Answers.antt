use Rattle.std.proofs.Common.{◌++◌, ◌∷◌, [], List, ap, subst, sym, ◌∙◌, ℕ}
use Rattle.std.specs.Cmp.Lexicographic.{other_text, same_text}
use Rattle.tv_formats.specs.Commits.{printed}
use Rattle.tv_formats.specs.Meaning.{IsNotPrinted, Means}
use Rattle.tv_metas.specs.declared.index_meta.UntrackedIndexMeta.{UntrackedIndexMeta}
use Rattle.tv_metas.specs.Metas.{commit_of, settings_of}
use Rattle.tv_metas.specs.Printed.{IsBared}
use Rattle.tv_metas.specs.Reads.{IfCorrupt}
use Rattle.tv_metas.proofs.HandedOn.{told_on}
use Rattle.tv_metas.proofs.PrintedForms.{printed_again, printed_otherwise, unheld}
use Rattle.tv_metas.proofs.printed.read_printed.Goals as goal

pub returns-in_err-text : goal.returns-in_err-text
returns-in_err-text c =
    told_on c.from_residual.result c.in_err-text.field-0.0 _ c.from_residual.ensures.1 (λ x q. q) _ _
    (subst (λ (s : List ℕ). IfCorrupt c.in_err-text.field-0.0 (IsNotPrinted s c.args.bytes.now)) c.text.ensures.text c.in_err-text.ensures)

pub returns-in_err-body : goal.returns-in_err-body
returns-in_err-body c =
    let bare : IsBared c.args.schema.now c.args.bytes.now c.as_slice.result.now =
    subst (IsBared c.args.schema.now c.args.bytes.now) (sym c.as_slice.ensures.value)
    (subst (λ (s : List ℕ). IsBared s c.args.bytes.now c.in_ok-text.text.items) c.text.ensures.text c.in_ok-text.ensures) in
    told_on c.from_residual-in_err-body.result c.in_err-body.field-0.0 _ c.from_residual-in_err-body.ensures.1 (λ x q. q) _ _
    (unheld c.args.schema.now c.args.bytes.now c.as_slice.result.now bare c.in_err-body.field-0.0 c.in_err-body.ensures)

pub returns : goal.returns
returns c =
    let bare : IsBared c.args.schema.now c.args.bytes.now c.as_slice.result.now =
    subst (IsBared c.args.schema.now c.args.bytes.now) (sym c.as_slice.ensures.value)
    (subst (λ (s : List ℕ). IsBared s c.args.bytes.now c.in_ok-text.text.items) c.text.ensures.text c.in_ok-text.ensures) in
    let body = c.in_ok-body.body in
    let meta : UntrackedIndexMeta =
    record { index_settings = body.index_settings; segments = body.segments; schema = c.in_ok-share.field-0; opstamp = body.opstamp; payload = body.payload } in
    printed_otherwise c.args.schema.now c.args.bytes.now c.as_slice.result.now bare meta c.in_ok-body.ensures.0 c.in_ok-body.ensures.1 c.as_slice-2.result.now
    (c.as_slice-2.ensures.value ∙ c.in_ok-push.ensures.items
    ∙ ap (λ (l : List ℕ). l ++ 10 ∷ []) (c.in_ok-again.ensures.text ∙ ap (λ (s : List ℕ). printed (settings_of meta) s (commit_of meta)) c.in_ok-share.ensures.text))
    (other_text _ _ c.if-eq.ensures)

pub returns-then-eq : goal.returns-then-eq
returns-then-eq c =
    let bare : IsBared c.args.schema.now c.args.bytes.now c.as_slice.result.now =
    subst (IsBared c.args.schema.now c.args.bytes.now) (sym c.as_slice.ensures.value)
    (subst (λ (s : List ℕ). IsBared s c.args.bytes.now c.in_ok-text.text.items) c.text.ensures.text c.in_ok-text.ensures) in
    let body = c.in_ok-body.body in
    let meta : UntrackedIndexMeta =
    record { index_settings = body.index_settings; segments = body.segments; schema = c.in_ok-share.field-0; opstamp = body.opstamp; payload = body.payload } in
    let means : Means (settings_of meta) c.args.schema.now c.args.bytes.now (commit_of meta) =
    printed_again c.args.schema.now c.args.bytes.now c.as_slice.result.now bare meta c.in_ok-body.ensures.0 c.in_ok-body.ensures.1 c.as_slice-2.result.now
    (c.as_slice-2.ensures.value ∙ c.in_ok-push.ensures.items
    ∙ ap (λ (l : List ℕ). l ++ 10 ∷ []) (c.in_ok-again.ensures.text ∙ ap (λ (s : List ℕ). printed (settings_of meta) s (commit_of meta)) c.in_ok-share.ensures.text))
    (same_text _ _ c.if-eq.ensures) c.text.ensures.form in
    (subst (λ (s : List ℕ). Means (settings_of meta) s c.args.bytes.now (commit_of meta)) (sym c.in_ok-share.ensures.text) means, c.in_ok-share.ensures.text, tt)
