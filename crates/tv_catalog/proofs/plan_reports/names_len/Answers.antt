use Rattle.std.proofs.Common.{arith, ℕ, List, length, ap}
use Rattle.std.proofs.lemmas.List.{take_all}
use Rattle.tv_catalog.proofs.ValidatedFiles.{words_all, words_further}
use Rattle.tv_catalog.proofs.plan_reports.names_len.Goals as goal

pub loop-name-preserved : goal.loop-name-preserved
loop-name-preserved c =
    let names = c.args.names.now in
    let i = c.loop-name.name-index in
    omega (arith, c.in_ok-len.ensures, c.loop-name.invariant, ap (λ (t : List ℕ). length t) c.as_str.ensures.text, words_further names i c.name-item.result (omega arith) c.name-item.is)

pub returns : goal.returns
returns c =
    let names = c.args.names.now in
    words_all names c.loop-name.name-index c.loop-name.len (take_all c.loop-name.name-index names c.loop-name-test.false) c.loop-name.invariant
