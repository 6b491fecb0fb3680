use Rattle.tv_crashes.proofs.OpeningImages.{kept_by_opening}
use Rattle.tv_crashes.proofs.laws.openings_keep_a_stored_commit.Goals as goal

pub returns : goal.returns
returns g c = record { not_lost = λ form s image. kept_by_opening form s (g.D.Observed.seen c.args.start.now).disk image }
