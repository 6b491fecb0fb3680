use Rattle.std.proofs.Common.{refl, sym}
use Rattle.tv_device.specs.Ram.{ram_reads}
use Rattle.tv_device.specs.StoredFiles.{reads_of}
use Rattle.tv_directory.proofs.Crashed.{left_is_image}
use Rattle.tv_directory.proofs.Resting.{rests_soundly}
use Rattle.tv_directory.proofs.bench.Bench.crash.Goals as goal

pub returns-clause-left : goal.returns-clause-left
returns-clause-left g c = (
  reads_of c.in_ok-files.files.map.entries,
  c.in_ok-files.ensures.left,
  c.with_files.ensures.new _ (λ n. refl) c.in_ok-files.ensures.unmade,
  c.with_files.ensures.rests _ (λ n. refl) c.in_ok-files.ensures.sealed,
)

pub returns-clause-image : goal.returns-clause-image
returns-clause-image g c = left_is_image c.args.self.now c.args.moment c.args.choice.now _ c.in_ok-files.ensures.left _ (c.with_files.ensures.new (reads_of c.in_ok-files.files.map.entries) (λ n. refl) c.in_ok-files.ensures.unmade).reads

pub returns-clause-sound : goal.returns-clause-sound
returns-clause-sound g c =
    let new = c.with_files.ensures.new _ (λ n. refl) c.in_ok-files.ensures.unmade in
    rests_soundly _ _ _ (c.with_files.ensures.rests (ram_reads c.with_files.result.ram) (λ n. sym (new.reads n)) c.in_ok-files.ensures.sealed) new.free
