use Rattle.tv_formats.proofs.ListedImages.{settled_lists}
use Rattle.tv_device.proofs.laws.what_reads_is_an_image.Goals as goal

pub returns-clause-image : goal.returns-clause-image
returns-clause-image g c told =
    let now = g.met.D.Directory.stands c.args.directory.now told in
    record { each = λ n. (_, now.possible n, now.reads n) }

pub returns-clause-sound : goal.returns-clause-sound
returns-clause-sound g c told schema sound =
    let now = g.met.D.Directory.stands c.args.directory.now told in
    record { image = sound.images _ (record { each = λ n. (_, now.possible n, now.reads n) }); free = sound.free }

pub returns-clause-listed : goal.returns-clause-listed
returns-clause-listed g c told settled images = settled_lists (g.D.Directory.disk c.args.directory.now) (g.D.Directory.view c.args.directory.now).reads (returns-clause-image g c told) settled images

pub returns-clause-lists : goal.returns-clause-lists
returns-clause-lists g c told schema sound = record {
  each = λ image left.
      let is = sound.images image left in
      record { lists = (is.names, is.listing); each = λ n undotted some. (is.names, is.listing, is.listed n undotted some) };
}
