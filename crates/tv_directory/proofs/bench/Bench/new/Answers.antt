use Rattle.tv_directory.proofs.Resting.{rests_soundly}
use Rattle.tv_directory.proofs.bench.Bench.new.Goals as goal

pub returns-clause-new : goal.returns-clause-new
returns-clause-new g c = c.with_files.ensures.new _ (λ n. c.in_ok-sealed.ensures.files n) c.in_ok-sealed.ensures.unmade

pub returns-clause-rests : goal.returns-clause-rests
returns-clause-rests g c = c.with_files.ensures.rests _ (λ n. c.in_ok-sealed.ensures.files n) c.in_ok-sealed.ensures.sealed

pub returns-clause-sound : goal.returns-clause-sound
returns-clause-sound g c = rests_soundly _ _ _ (returns-clause-rests g c) (returns-clause-new g c).free
