use Rattle.tv_formats.proofs.FirstSound.{empty_sound}
use Rattle.tv_formats.proofs.laws.empty_directories_are_sound.Goals as goal

pub returns : goal.returns
returns c = record { sound = empty_sound }
