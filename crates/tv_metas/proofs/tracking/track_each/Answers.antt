use Rattle.std.proofs.Common.{rules, ◌≡◌, ◌+◌, ◌∷◌, [], ◌++◌, List, map, take, sym, ap, subst, ◌∙◌, arith}
use Rattle.std.proofs.lemmas.List.{take_more}
use Rattle.tv_base.specs.Entries.{released}
use Rattle.tv_metas.specs.Segments.{entry_of}
use Rattle.tv_metas.specs.Tracked.{KeptMetas, Share, TrackAll}
use Rattle.tv_metas.proofs.Untracked.{given_back, its_own, one_more_mapped, one_more_tracked}
use Rattle.tv_metas.proofs.tracking.track_each.Goals as goal

pub returns-in-Err-clause-tracks : goal.returns-in-Err-clause-tracks
returns-in-Err-clause-tracks c =
    let share = c.in_ok-share.share in
    let middle = c.loop-segment.inventory in
    let same : c.push.new.self.items ≡ c.loop-segment.shares.items = search rules in
    let value : c.in-Err.refused.value ≡ share = search rules in
    let back : c.release.new.self ≡ middle =
    c.release.ensures.released ∙ ap (λ (s : Share). released s.0 c.track.new.self) value
    ∙ given_back share middle c.track.new.self (its_own _ middle c.track.new.self share c.in_ok-share.ensures.ok) in
    subst (λ (k : KeptMetas). TrackAll c.push.new.self.items c.args.inventory.now k) (sym back)
    (subst (λ (l : List Share). TrackAll l c.args.inventory.now middle) (sym same) c.loop-segment.invariant.tracks)

pub loop-segment-preserved : goal.loop-segment-preserved
loop-segment-preserved c =
    let share = c.in_ok-share.share in
    let middle = c.loop-segment.inventory in
    let all = c.args.segments.now in
    let i = c.loop-segment.segment-index in
    let same : c.push.new.self.items ≡ c.loop-segment.shares.items ++ share ∷ [] = search rules in
    let more : take (c.loop-segment.segment-index + 1) all ≡ take c.loop-segment.segment-index all ++ c.segment-item.result ∷ [] =
    grind (arith, take_more all c.loop-segment.segment-index c.segment-item.result c.loop-segment-test.true, c.segment-item.is) in
    let tracks = c.in_ok-share.ensures.ok in
    record {
      tracks =
          subst (λ (l : List Share). TrackAll l c.args.inventory.now c.track.new.self) (sym same)
          (one_more_tracked c.loop-segment.shares.items share c.args.inventory.now middle c.track.new.self c.loop-segment.invariant.tracks
          (its_own _ middle c.track.new.self share tracks));
      segments =
          ap (map (λ s. s.1)) same
          ∙ one_more_mapped c.loop-segment.shares.items share (take i all) c.segment-item.result c.loop-segment.invariant.segments tracks.same
          ∙ ap (map entry_of) (sym more);
    }
