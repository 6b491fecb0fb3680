use Rattle.tv_machine.proofs.OpenedStates.{opens_sound}
use Rattle.tv_machine.proofs.ReadEvents.{sound_loads}
use Rattle.tv_machine.proofs.Reopenings.{opens_one, reopens}
use Rattle.tv_machine.proofs.SoundOpenings.{sound_opens}
use Rattle.tv_machine.proofs.SoundStates.{step_sound, sound_reads}
use Rattle.tv_machine.proofs.laws.sound_starts_open_to_sound_states.Goals as goal

pub returns : goal.returns
returns c = record { exists = sound_opens; opens = opens_sound; steps = step_sound; reads = sound_reads; loads = sound_loads; reopens = reopens; one = opens_one }
