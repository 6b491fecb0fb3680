use Rattle.std.proofs.Common.{rules}
use Rattle.tv_managed.proofs.Giving.{deleted_stays, track_deleted}
use Rattle.tv_managed.proofs.Tracking.{listed_by_file, track_from}
use Rattle.tv_managed.proofs.managed_directory.ManagedDirectory.delete.Goals as goal

pub returns-clause-safe : goal.returns-clause-safe
returns-clause-safe g c = λ tells.
    let deletes = c.delete.ensures.images tells in
    record {
      tracks = track_from g.D.Directory c.self.view_is (track_deleted g.D.Directory deletes.time deletes.no_more (deleted_stays _ _ _ _ deletes) c.requires.other);
      listed = listed_by_file g.D.Directory {new = c.delete.new.self} c.self.view_is deletes.no_more c.requires.other;
      states = search rules;
    }
