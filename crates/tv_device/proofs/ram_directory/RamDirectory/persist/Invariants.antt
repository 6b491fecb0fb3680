use Rattle.std.proofs.Common.{◌≡◌}
use Rattle.tv_formats.specs.Disk.{TouchesOnly}
use Rattle.tv_device.specs.View.{Kept}
use Rattle.tv_device.specs.Persisting.{IsAmong, contents}
use Rattle.tv_device.proofs.PersistedFiles.{PersistsRest}
use Rattle.tv_device.proofs.ram_directory.RamDirectory.persist.Given as goal

abbrev pub invariant-loop-name : goal.invariant-loop-name
invariant-loop-name g l =
    let D = g.D.Directory in
    record {
      persisting : PersistsRest D.told.content (contents l.self.files.map.entries) (contents l.name-iterator) (D.view l.fn.dest).reads (D.view l.dest).reads;
      faults : (D.view l.dest).faults ≡ (D.view l.fn.dest).faults;
      kept : Kept D.told (D.view l.fn.dest) (D.view l.dest);
      images : D.tells_images → TouchesOnly (IsAmong (contents l.self.files.map.entries)) (D.disk l.fn.dest) (D.disk l.dest);
    }
