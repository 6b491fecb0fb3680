use Rattle.std.proofs.Common.{[], length, ◌∙◌, sym, arith}
use Rattle.std.proofs.lemmas.Option.{same_Some}
use Rattle.tv_framing.proofs.Footing.{Cut, cut_only, found_at, last_of, list_fits}
use Rattle.tv_framing.proofs.composite_file.split_footing.Goals as goal

pub returns-in_err-start-clause-found : goal.returns-in_err-start-clause-found
returns-in_err-start-clause-found c front foot short whole =
    let cut : Cut c.args.bytes.now c.in_ok-end.end c.split_at.result.0.now c.split_at.result.1.now = record { large = c.in_ok-end.ensures.0; at = sym c.in_ok-end.ensures.1; front = c.split_at.ensures.front; back = c.split_at.ensures.back } in
    let same = same_Some _ _ (c.in_ok-len.ensures.found (length foot) [] short (c.new.ensures ∙ (last_of _ _ _ _ front foot cut whole).1)).0 in
    absurd (c.in_err-start.ensures (omega (arith, same, (list_fits _ _ _ _ front foot cut whole).1)))

pub returns-clause-found : goal.returns-clause-found
returns-clause-found c front foot short whole =
    let cut : Cut c.args.bytes.now c.in_ok-end.end c.split_at.result.0.now c.split_at.result.1.now = record { large = c.in_ok-end.ensures.0; at = sym c.in_ok-end.ensures.1; front = c.split_at.ensures.front; back = c.split_at.ensures.back } in
    let same = same_Some _ _ (c.in_ok-len.ensures.found (length foot) [] short (c.new.ensures ∙ (last_of _ _ _ _ front foot cut whole).1)).0 in
    found_at _ _ _ _ front foot _ _ cut whole same (sym c.in_ok-start.ensures.1)

pub returns-clause-only : goal.returns-clause-only
returns-clause-only c =
    let cut : Cut c.args.bytes.now c.in_ok-end.end c.split_at.result.0.now c.split_at.result.1.now = record { large = c.in_ok-end.ensures.0; at = sym c.in_ok-end.ensures.1; front = c.split_at.ensures.front; back = c.split_at.ensures.back } in
    (omega arith, cut_only _ _ _ _ _ _ _ cut (sym c.new.ensures ∙ c.in_ok-len.ensures.cases) (omega arith) c.in_ok-start.ensures.0 (sym c.in_ok-start.ensures.1))
