use Rattle.std.proofs.Common.{rules, ◌≡◌, ◌∷◌, ◌++◌, List, ℕ, codes, map, string_bytes, sym, ap, ◌∙◌}
use Rattle.std.proofs.lemmas.Map.Iter.{iter_end}
use Rattle.std.proofs.lemmas.Simd.{map-map}
use Rattle.tv_events.specs.AnswerLines.{line}
use Rattle.tv_catalog.proofs.Named.{plain_first, line_of_more}
use Rattle.tv_catalog.proofs.catalog.Catalog.managed.Goals as goal

pub word-requires : goal.word-requires
word-requires c =
    rw c.as_bytes.ensures.value (plain_first c.loop-name.name-iterator c.next.new.self c.in-Some.name.now c.in-Some.ensures.steps c.loop-name.invariant.plain).0

pub loop-name-preserved : goal.loop-name-preserved
loop-name-preserved c = record {
  text =
      c.in_ok-answer-2.ensures
      ∙ ap (λ (word : List ℕ). c.loop-name.answer ++ 32 ∷ word) c.as_bytes.ensures.value
      ∙ ap (λ (text : List ℕ). text ++ 32 ∷ string_bytes c.in-Some.name.now) c.loop-name.invariant.text
      ∙ sym (line_of_more (λ name. string_bytes name.now) (codes "managed") c.loop-name.yielded c.in-Some.name);
  plain = (plain_first c.loop-name.name-iterator c.next.new.self c.in-Some.name.now c.in-Some.ensures.steps c.loop-name.invariant.plain).1;
}

pub returns : goal.returns
returns c =
    let all : map (λ name. name.now) c.loop-name.yielded ≡ c.args.names.now.keys = search (rules, iter_end) in
    ap (λ (answer : List ℕ). (answer, c.args.self.now))
    (c.loop-name.invariant.text ∙ ap (λ (names : List (List ℕ)). line (codes "managed") names) (sym (map-map string_bytes (λ name. name.now) c.loop-name.yielded) ∙ ap (map string_bytes) all))
