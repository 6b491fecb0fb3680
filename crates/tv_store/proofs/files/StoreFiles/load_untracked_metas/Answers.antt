use Rattle.std.proofs.Common.{Some, subst}
use Rattle.tv_index.specs.Standing.{MetaFaults}
use Rattle.tv_store.specs.Kept.{FilesState}
use Rattle.tv_store.proofs.files.StoreFiles.load_untracked_metas.Goals as goal

pub returns-clause-faults : goal.returns-clause-faults
returns-clause-faults g c =
    subst (λ (files : FilesState g.row.O.Denot). MetaFaults g.O.Directory files.outside c.load_untracked_metas.new.self.directory.0 (Some files.form.schema)
    c.load_untracked_metas.result) c.self.view_is c.load_untracked_metas.ensures.faults
