use Rattle.std.proofs.Common.{◌∙◌, [], ap, map, fold, rules}
use Rattle.std.proofs.lemmas.Fn.{always_returns_same}
use Rattle.std.specs.Vec.Iter.{into_iter_items}
use Rattle.tv_framing.specs.NamedParts.{alone}
use Rattle.tv_framing.specs.Places.{with_field}
use Rattle.tv_framing.proofs.Reordered.{same_by_name, stable_order}
use Rattle.tv_framing.proofs.per_field_usage.PerFieldSpaceUsage.of_parts.Goals as goal

pub loop-part-init : goal.loop-part-init
loop-part-init c =
    let given = c.args.parts.items in
    let sorted = c.sort_by_key.new.self.items in
    let stable = c.sort_by_key.ensures.stable (λ part. part.name) (always_returns_same _ _ _ (λ a r f called. search rules)) in
    ap (λ l. fold with_field l (map alone (into_iter_items c.into_iter-part-iterator.result))) c.empty-usage.ensures
    ∙ ap (λ l. fold with_field [] (map alone l)) c.into_iter-part-iterator.ensures.into_iter_gives.0
    ∙ same_by_name (map alone given) (map alone sorted) (stable_order alone given sorted stable)
