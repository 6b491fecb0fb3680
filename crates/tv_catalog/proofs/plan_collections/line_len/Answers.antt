use Rattle.std.proofs.Common.{rules, ◌≡◌, [], length, map, string_bytes, ap, arith}
use Rattle.std.proofs.lemmas.Map.Iter.{iter_end}
use Rattle.tv_events.specs.AnswerLines.{line}
use Rattle.tv_catalog.proofs.SharedLaws.{line_len, words_len}
use Rattle.tv_catalog.proofs.plan_collections.line_len.Goals as goal

pub loop-name-init : goal.loop-name-init
loop-name-init c =
    let all = line_len c.args.text.now (map string_bytes c.args.names.now.keys) in
    let is : c.into_iter-name-iterator.result ≡ c.args.names.now.keys = search rules in
    record { sum = omega (arith, all, ap (λ ns. words_len (map string_bytes ns)) is); fits = search rules }

pub returns : goal.returns
returns c =
    let none : c.loop-name.name-iterator ≡ [] = search (rules, iter_end) in
    let is : c.loop-name.len ≡ length (line c.args.text.now (map string_bytes c.args.names.now.keys)) = omega (arith, c.loop-name.invariant.sum, ap (λ ns. words_len (map string_bytes ns)) none) in
    (omega (arith, is, c.loop-name.invariant.fits), is)
