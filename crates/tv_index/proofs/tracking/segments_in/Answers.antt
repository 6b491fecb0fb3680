use Rattle.std.proofs.Common.{◌++◌, ◌∷◌, [], length, ap, sym, append_assoc, ◌∙◌, arith}
use Rattle.std.specs.Vec.Iter.{into_iter_items}
use Rattle.tv_index.proofs.tracking.segments_in.Goals as goal

pub loop-share-preserved : goal.loop-share-preserved
loop-share-preserved c =
    let so_far = c.loop-share.segments.items in
    let rest = into_iter_items c.next.new.self in
    let split = c.in-Some.ensures.steps.0 in
    record {
      next = tt;
      finite = tt;
      all = ap (λ all. all ++ rest) (c.push_reserved.ensures.items ∙ ap (λ share. so_far ++ share ∷ []) c.new.ensures)
          ∙ append_assoc so_far (c.in-Some.share ∷ []) rest ∙ ap (λ all. so_far ++ all) (sym split) ∙ c.loop-share.invariant.all;
      fits = omega (arith, ap length split);
    }
