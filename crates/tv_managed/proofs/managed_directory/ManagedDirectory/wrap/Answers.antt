use Rattle.std.proofs.Common.{◌∙◌}
use Rattle.tv_managed.specs.Collecting.{names_of}
use Rattle.tv_managed.specs.Names.{ManagedNames}
use Rattle.tv_managed.specs.TrackLaws.{covered_within, still_listed}
use Rattle.tv_managed.proofs.Listing.{covered_read, names_read}
use Rattle.tv_managed.proofs.managed_directory.ManagedDirectory.wrap.Goals as goal

pub returns-in-Ok-clause-tracks : goal.returns-in-Ok-clause-tracks
returns-in-Ok-clause-tracks g c = λ tells.
    let keeps = c.in-Ok.ensures.images tells in
    let view = g.D.Directory.view c.args.directory in
    let disk = g.D.Directory.disk c.args.directory in
    let names : ManagedNames = record { managed = names_of c.in-Ok.managed.keys; collections = c.new.result } in
    let stands = g.met.D.Directory.stands c.args.directory tells in
    let lists = c.in-Ok.ensures.names (g.met.D.Directory.tells_more tells) in
    record {
      keeps = keeps;
      tracked = λ settled images.
          let read = covered_read view disk names stands lists settled images c.new.ensures in
          covered_within keeps.states.possible.no_more (λ n undotted h. keeps.states.now n ∙ read.gone n undotted h) read;
      listed = λ settled images n h. still_listed _ _ n (λ file of_list. keeps.states.possible.no_more.each file) (names_read view disk names stands lists settled images n h);
    }
