use Rattle.std.proofs.Common.{◌≡◌, ◌+◌, ◌∷◌, false, true, drop, map, string_bytes, sym, ◌∙◌, arith}
use Rattle.std.proofs.lemmas.List.{drop_more}
use Rattle.tv_formats.specs.Ids.{are_distinct}
use Rattle.tv_formats.specs.Names.{has}
use Rattle.tv_metas.proofs.SeenNames.{seen_texts, known, none_seen, one_seen, seen_twice}
use Rattle.tv_metas.proofs.schema_tree.are_distinct.Goals as goal

pub loop-name-init : goal.loop-name-init
loop-name-init c = none_seen c.new-seen.result.keys (map string_bytes c.args.names.now) c.new-seen.ensures.empty

pub returns-then-not-branch : goal.returns-then-not-branch
returns-then-not-branch c =
    let there : has (seen_texts c.loop-name.seen.keys) c.as_str.result.now ≡ true = sym (known c.loop-name.seen.keys c.as_str.result)
    ∙ grind (arith, c.in_ok-insert.ensures.added, c.if-not-branch.true) in
    let left : drop c.loop-name.name-index c.args.names.now ≡ c.name-item.result ∷ drop (c.loop-name.name-index + 1) c.args.names.now =
    grind (arith, drop_more c.args.names.now c.loop-name.name-index c.name-item.result c.loop-name-test.true, c.name-item.is) in
    seen_twice (are_distinct (map string_bytes c.args.names.now)) c.loop-name.seen.keys c.as_str.result _ _ c.name-item.result
    c.loop-name.invariant left c.as_str.ensures.value there

pub loop-name-preserved : goal.loop-name-preserved
loop-name-preserved c =
    let absent : has (seen_texts c.loop-name.seen.keys) c.as_str.result.now ≡ false = sym (known c.loop-name.seen.keys c.as_str.result)
    ∙ grind (arith, c.in_ok-insert.ensures.added, c.if-not-branch.false) in
    let left : drop c.loop-name.name-index c.args.names.now ≡ c.name-item.result ∷ drop (c.loop-name.name-index + 1) c.args.names.now =
    grind (arith, drop_more c.args.names.now c.loop-name.name-index c.name-item.result c.loop-name-test.true, c.name-item.is) in
    one_seen (are_distinct (map string_bytes c.args.names.now)) c.loop-name.seen.keys c.insert.new.self.keys c.as_str.result _ _ c.name-item.result
    c.loop-name.invariant left c.as_str.ensures.value c.in_ok-insert.ensures.keys absent
