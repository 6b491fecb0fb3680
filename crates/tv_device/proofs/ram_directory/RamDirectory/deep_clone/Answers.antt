use Rattle.tv_device.specs.Ram.{ram_reads}
use Rattle.tv_device.proofs.ram_directory.RamDirectory.deep_clone.Goals as goal

pub returns : goal.returns
returns g c = record {
  copy = c.with_files.ensures.new g.C.WatchCall.calls (ram_reads c.args.self.now) c.in_ok-files.ensures.files c.in_ok-files.ensures.unmade;
}
