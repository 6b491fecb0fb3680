use Rattle.std.proofs.Common.{rules, ◌≡◌, ◌∷◌, [], ◌++◌, List, sym, subst, ◌∙◌}
use Rattle.tv_metas.specs.Tracked.{KeptMetas, Share, TrackAll}
use Rattle.tv_metas.proofs.Untracked.{given_back, last_tracked}
use Rattle.tv_metas.proofs.tracking.release_all.Goals as goal

pub loop-share-preserved : goal.loop-share-preserved
loop-share-preserved c before t =
    let split : c.loop-share.shares.items ≡ c.pop.new.self.items ++ c.in-Some.share ∷ [] = search rules in
    let last =
    last_tracked c.pop.new.self.items c.in-Some.share before c.loop-share.inventory
    (subst (λ (l : List Share). TrackAll l before c.loop-share.inventory) split (c.loop-share.invariant before t)) in
    let back : c.release.new.self ≡ last.0 = c.release.ensures.released ∙ given_back c.in-Some.share last.0 c.loop-share.inventory last.2 in
    subst (λ (k : KeptMetas). TrackAll c.pop.new.self.items before k) (sym back) last.1
