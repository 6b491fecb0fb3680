use Rattle.std.proofs.Common.{Some, subst}
use Rattle.tv_index.specs.Indexes.{IndexState}
use Rattle.tv_index.specs.Standing.{MetaFaults}
use Rattle.tv_index.proofs.index.Index.load_untracked_metas.Goals as goal

pub returns-clause-faults : goal.returns-clause-faults
returns-clause-faults g c =
    subst (λ (index : IndexState g.row.D.Denot). MetaFaults g.D.Directory index.directory.0 c.load_meta.new.directory.0 (Some index.schema) c.load_meta.result)
    c.self.view_is c.load_meta.ensures.faults
