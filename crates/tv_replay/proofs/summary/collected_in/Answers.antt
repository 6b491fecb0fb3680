use Rattle.std.proofs.Common.{rules, ◌==◌, ◌+◌, ◌≤◌, List, ℕ, length, map, take, sym, ap, subst, ◌∙◌, arith}
use Rattle.std.specs.Borrow.{Bor}
use Rattle.std.specs.List.{sum_by}
use Rattle.std.proofs.lemmas.Iterator.Consumers.{map_from_collect}
use Rattle.std.proofs.lemmas.Iterator.Splits.{YieldsList-from_slice_split}
use Rattle.tv_replay.specs.Summaries.{deleted_in}
use Rattle.tv_replay.proofs.CollectedNames.{deleted_by, sum_more, sum_all}
use Rattle.tv_replay.proofs.summary.collected_in.Goals as goal

pub overflow_add-collected : goal.overflow_add-collected
overflow_add-collected c =
    let got = map_from_collect _ c.collect.ensures.ran (YieldsList-from_slice_split _ (λ b. b == 10) c.args.text.now c.split.ensures.rest c.split.ensures.done c.split.ensures.closure (λ x r q k. search rules)) in
    let lines = rw c.in_ok-lines.was at got in
    let words = ap (λ (l : List (Bor (List ℕ))). map (λ w. w.now) l) c.as_slice.ensures.value ∙ c.in_ok-words.ensures in
    let all = c.deref-line-items.result.now in
    let are = ap (λ (l : List (Bor (List ℕ))). map (λ w. w.now) l) c.deref-line-items.ensures.value ∙ lines in
    let here : sum_by deleted_by (take c.loop-line.line-index all) + c.deleted_in-collected.result ≤ length c.args.text.now =
    subst (λ (n : ℕ). sum_by deleted_by (take c.loop-line.line-index all) + n ≤ length c.args.text.now) (sym (c.deleted_in-collected.ensures ∙ ap deleted_in words))
    (sum_more c.args.text.now all c.loop-line.line-index _ are c.loop-line-test.true) in
    record { fits = omega (arith, here, c.loop-line.invariant, c.requires) }

pub returns : goal.returns
returns c =
    let got = map_from_collect _ c.collect.ensures.ran (YieldsList-from_slice_split _ (λ b. b == 10) c.args.text.now c.split.ensures.rest c.split.ensures.done c.split.ensures.closure (λ x r q k. search rules)) in
    let lines = rw c.in_ok-lines.was at got in
    let same = c.deref-line-items.ensures.value in
    rw same at c.loop-line.invariant ∙ sum_all c.args.text.now c.in_ok-lines.lines.items c.loop-line.line-index lines (rw same at c.loop-line-test.false)
