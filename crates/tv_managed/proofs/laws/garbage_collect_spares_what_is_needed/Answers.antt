use Rattle.std.proofs.lemmas.Result.{IfOk-weaker}
use Rattle.tv_formats.specs.Collections.{held}
use Rattle.tv_formats.proofs.CollectedNames.{has_front}
use Rattle.tv_managed.specs.Collecting.{names_of}
use Rattle.tv_managed.proofs.Spared.{held_needed, spares_needed, tries_keeps}
use Rattle.tv_managed.proofs.laws.garbage_collect_spares_what_is_needed.Goals as goal

pub returns-clause-living : goal.returns-clause-living
returns-clause-living g c =
    let living = names_of c.args.living.keys in
    let others = held c.args.directory.now.1.collections in
    let did = c.garbage_collect.ensures.collects in
    spares_needed g.D.Directory living _ (λ set. names_of set.keys) did.0 (λ set answered n h. has_front (names_of set.keys) others n (search)) did.1.leaves did.2

pub returns-clause-held : goal.returns-clause-held
returns-clause-held g c =
    let others = held c.args.directory.now.1.collections in
    let did = c.garbage_collect.ensures.collects in
    spares_needed g.D.Directory others _ (λ set. names_of set.keys) did.0 (λ set answered n h. held_needed (names_of set.keys) others n h) did.1.leaves did.2

pub returns-clause-failed : goal.returns-clause-failed
returns-clause-failed g c =
    let did = c.garbage_collect.ensures.collects in
    IfOk-weaker c.garbage_collect.result _ _ (λ told tries. tries_keeps g.D.Directory did.0 c.args.directory.now c.garbage_collect.new.self told tries) did.1.tries
