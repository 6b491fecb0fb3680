use Rattle.std.proofs.Common.{rules, refl}
use Rattle.tv_managed.specs.TrackLaws.{track_within}
use Rattle.tv_managed.proofs.Tracking.{listed_by_within, track_from}
use Rattle.tv_managed.proofs.managed_directory.ManagedDirectory.sync_directory.Goals as goal

pub returns-clause-safe : goal.returns-clause-safe
returns-clause-safe g c = λ tells.
    let sync = c.sync_directory.ensures.images tells in
    record {
      tracks = track_from g.D.Directory c.self.view_is (track_within g.D.Directory refl sync.time sync.no_more sync.now);
      listed = listed_by_within g.D.Directory {new = c.sync_directory.new.self} c.self.view_is sync.no_more;
      states = search rules;
    }
