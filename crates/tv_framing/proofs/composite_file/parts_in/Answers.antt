use Rattle.std.proofs.Common.{◌∙◌, ap, sym, subst, length, arith, option_map, Vec, Global}
use Rattle.std.proofs.lemmas.Option.{none-some, same_Some}
use Rattle.std.specs.Prelude.{IfSome}
use Rattle.tv_framing.specs.declared.starts.Start.{Start}
use Rattle.tv_framing.specs.Fitting.{AreListed}
use Rattle.tv_framing.proofs.Opening.{fills, only_parts, opened, starts_told, told}
use Rattle.tv_framing.proofs.composite_file.parts_in.Goals as goal

pub returns-in_default-2 : goal.returns-in_default-2
returns-in_default-2 c parts h =
    let t = told c.args.file.now c.as_slice.result.now c.in-Some.len c.in-Some.footing.now parts h (c.as_slice.ensures.bytes ∙ c.in_ok-bytes.ensures.bytes) c.in-Some.ensures.only.0 c.in-Some.ensures.found in
    absurd (none-some _ (sym (ap (option_map (λ (v : Vec Start Global). v.items)) c.in_default-2.is) ∙ starts_told _ _ _ c.in_ok-starts.field-0 h.distinct c.in_ok-starts.ensures.found t))

pub invariant_of-result : goal.invariant_of-result
invariant_of-result c =
    fills c.args.file.now c.in_ok-bytes-2.bytes c.in-Some.footing.now c.in-Some.len c.in-Some-2.starts.items (subst (λ o. IfSome o (λ v. AreListed c.in-Some.footing.now c.in-Some.len v.items)) c.in-Some-2.is c.in_ok-starts.ensures.only)
    (omega (arith, c.in-Some.ensures.only.1.0, ap length (c.as_slice.ensures.bytes ∙ c.in_ok-bytes.ensures.bytes))) c.in_ok-bytes-2.ensures.bytes

pub returns : goal.returns
returns c = (
  opened c.args.file.now c.as_slice.result.now c.in_ok-bytes-2.bytes c.in-Some.footing.now c.in-Some.len c.in-Some-2.starts.items (c.as_slice.ensures.bytes ∙ c.in_ok-bytes.ensures.bytes) c.in-Some.ensures.only.1 c.in_ok-bytes-2.ensures.bytes
      (subst (λ o. IfSome o (λ v. AreListed c.in-Some.footing.now c.in-Some.len v.items)) c.in-Some-2.is c.in_ok-starts.ensures.only),
  λ parts h.
      let t = told c.args.file.now c.as_slice.result.now c.in-Some.len c.in-Some.footing.now parts h (c.as_slice.ensures.bytes ∙ c.in_ok-bytes.ensures.bytes) c.in-Some.ensures.only.0 c.in-Some.ensures.found in
      let starts = sym (ap (option_map (λ (v : Vec Start Global). v.items)) c.in-Some-2.is) ∙ starts_told _ _ _ c.in_ok-starts.field-0 h.distinct c.in_ok-starts.ensures.found t in
      only_parts c.args.file.now c.in_ok-bytes-2.bytes c.in-Some.footing.now c.in-Some.len c.in-Some-2.starts.items parts h t (same_Some _ _ starts) c.in_ok-bytes-2.ensures.bytes,
)
