use Rattle.std.proofs.Common.{◌<◌, List, All, arith, sym, subst}
use Rattle.std.specs.Prelude.{Contains}
use Rattle.std.proofs.lemmas.Result.{IfOk-weaker}
use Rattle.tv_formats.specs.Segments.{num_docs}
use Rattle.tv_metas.specs.Tracked.{Share}
use Rattle.tv_registers.proofs.Looked.{all_living, living_there}
use Rattle.tv_registers.proofs.laws.shows_living_segments.Goals as goal

pub returns-clause-living : goal.returns-clause-living
returns-clause-living c =
    IfOk-weaker c.committed_segment_metas.result _ _
    (λ metas is. subst (λ (l : List Share). All (λ (m : Share). 0 < num_docs m.1.1) l) (sym is) (all_living c.args.manager.now.committed))
    c.committed_segment_metas.ensures.metas

pub returns-clause-each : goal.returns-clause-each
returns-clause-each c =
    IfOk-weaker c.committed_segment_metas.result _ _
    (λ metas is id entry there alive.
    subst (λ (l : List Share). Contains l entry.meta) (sym is) (living_there c.args.manager.now.committed id entry there (grind (arith, alive))))
    c.committed_segment_metas.ensures.metas
