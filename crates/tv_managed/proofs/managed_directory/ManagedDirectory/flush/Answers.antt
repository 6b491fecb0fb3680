use Rattle.std.proofs.Common.{rules}
use Rattle.tv_managed.proofs.Tracking.{listed_by_file, track_from}
use Rattle.tv_managed.proofs.Touching.{added_written, track_written}
use Rattle.tv_managed.proofs.managed_directory.ManagedDirectory.flush.Goals as goal

pub returns-clause-safe : goal.returns-clause-safe
returns-clause-safe g c = λ tells other. record {
  tracks = track_from g.D.Directory c.self.view_is (track_written g.D.Directory _ (c.flush.ensures.images tells) (g.met.D.Directory.stands c.self.inside.directory tells).possible other);
  listed = listed_by_file g.D.Directory {new = c.flush.new.self} c.self.view_is (added_written _ (c.flush.ensures.images tells)) other;
  states = search rules;
}
