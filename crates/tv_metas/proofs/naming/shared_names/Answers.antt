use Rattle.std.proofs.Common.{rules, ◌≡◌, ℕ, List, ◌∷◌, [], ◌++◌, filter, map, string_bytes, sym, ap, ◌∙◌}
use Rattle.std.proofs.lemmas.List.{map-append}
use Rattle.std.proofs.lemmas.Map.Iter.{iter_end}
use Rattle.std.proofs.lemmas.Simd.{map-map}
use Rattle.tv_formats.specs.Names.{has}
use Rattle.tv_formats.proofs.PlainNames.{plain_head}
use Rattle.tv_metas.proofs.SharedNames.{shared_last}
use Rattle.tv_metas.proofs.naming.shared_names.Goals as goal

pub push_shared-requires : goal.push_shared-requires
push_shared-requires c = (plain_head c.loop-name.name-iterator c.next.new.self c.in-Some.name.now c.in-Some.ensures.steps c.loop-name.invariant.plain).0

pub loop-name-preserved : goal.loop-name-preserved
loop-name-preserved c =
    let others = map string_bytes c.args.others.now.keys in
    let name = string_bytes c.in-Some.name.now in
    let ys = map (λ name. string_bytes name.now) c.loop-name.yielded in
    record {
      names =
          c.in_ok-push_shared.ensures ∙ ap (λ (l : List (List ℕ)). l ++ filter (has others) (name ∷ [])) c.loop-name.invariant.names
          ∙ sym (ap (filter (has others)) (map-append (λ name. string_bytes name.now) c.loop-name.yielded (c.in-Some.name ∷ [])) ∙ shared_last others ys name);
      plain = (plain_head c.loop-name.name-iterator c.next.new.self c.in-Some.name.now c.in-Some.ensures.steps c.loop-name.invariant.plain).1;
    }

pub returns : goal.returns
returns c =
    let all : map (λ name. name.now) c.loop-name.yielded ≡ c.args.names.now.keys = search (rules, iter_end) in
    c.loop-name.invariant.names
    ∙ ap (filter (has (map string_bytes c.args.others.now.keys))) (sym (map-map string_bytes (λ name. name.now) c.loop-name.yielded) ∙ ap (map string_bytes) all)
