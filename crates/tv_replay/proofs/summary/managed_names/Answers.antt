use Rattle.std.proofs.Common.{rules, ◌≡◌, map, string_bytes, sym, ap, ◌∙◌}
use Rattle.std.proofs.lemmas.Map.Iter.{iter_end}
use Rattle.std.proofs.lemmas.Simd.{map-map}
use Rattle.tv_replay.proofs.summary.managed_names.Goals as goal

pub returns-clause-names : goal.returns-clause-names
returns-clause-names g c =
    let all : map (λ name. name.now) c.loop-name.yielded ≡ c.list_managed_files-name-items.result.now.keys = search (rules, iter_end) in
    c.loop-name.invariant ∙ sym (map-map string_bytes (λ name. name.now) c.loop-name.yielded) ∙ ap (map string_bytes) all ∙ c.list_managed_files-name-items.ensures.names
