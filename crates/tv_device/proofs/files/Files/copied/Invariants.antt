use Rattle.tv_device.proofs.CopiedFiles.{CopiesRest}
use Rattle.tv_device.proofs.files.Files.copied.Given as goal

abbrev pub invariant-loop-name : goal.invariant-loop-name
invariant-loop-name l = CopiesRest l.self.map.entries l.name-iterator l.map.entries
