use Rattle.tv_formats.specs.Collections.{held}
use Rattle.tv_formats.proofs.CollectedNames.{has_front}
use Rattle.tv_managed.specs.Collecting.{names_of}
use Rattle.tv_managed.proofs.AtOnce.{untried}
use Rattle.tv_managed.proofs.Spared.{failed_stand, not_among, stands_or_before}
use Rattle.tv_managed.proofs.laws.garbage_collect_deletes_behind_a_sync.Goals as goal

pub returns-clause-living : goal.returns-clause-living
returns-clause-living g c tells x image from upto left =
    let old = c.args.directory.now in
    let living = names_of c.args.living.keys in
    let others = held old.1.collections in
    let did = c.garbage_collect.ensures.collects in
    stands_or_before living _ _ (g.D.Directory.disk old.0) _ image
    (λ n h.
    untried did.0 did.1.leaves.front did.1.leaves.rest did.1.leaves.outcomes n did.1.leaves.split
    (not_among living _ (λ set. names_of set.keys) did.0 old.1 c.garbage_collect.new.self.1 c.garbage_collect.result (λ set answered n h. has_front (names_of set.keys) others n (search)) did.2 n h))
    ((did.1.safe tells).states.synced.each x from upto) left

pub returns-clause-failed : goal.returns-clause-failed
returns-clause-failed g c tells =
    let did = c.garbage_collect.ensures.collects in
    failed_stand g.D.Directory did.0 c.garbage_collect.result did.1 tells
