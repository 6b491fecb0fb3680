use Rattle.tv_crashes.proofs.StoredImages.{shows}
use Rattle.tv_crashes.proofs.StoredSound.{shown_sound}
use Rattle.tv_crashes.proofs.laws.images_show_a_stored_commit.Goals as goal

pub returns : goal.returns
returns g c = record { shows = λ before after moment image safe is. shows safe is; sound = shown_sound }
