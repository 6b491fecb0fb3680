use Rattle.std.specs.Prelude.{None}
use Rattle.std.proofs.Common.{refl}
use Rattle.tv_device.proofs.ram_directory.RamDirectory.create.Goals as goal

pub returns : goal.returns
returns g c = record {
  new = c.with_files.ensures.new g.C.WatchCall.calls (λ n. None) (λ n. rw c.new.ensures.empty refl) c.new.ensures.unmade;
}
