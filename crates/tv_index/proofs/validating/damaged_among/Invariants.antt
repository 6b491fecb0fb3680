use Rattle.std.proofs.Common.{◌≡◌, map, take, string_bytes}
use Rattle.tv_device.specs.Images.{KeepsDisk}
use Rattle.tv_device.specs.View.{OnlyReads}
use Rattle.tv_managed.specs.Frames.{KeepsNames}
use Rattle.tv_index.specs.Checksums.{AreDamaged}
use Rattle.tv_index.proofs.validating.damaged_among.Given as goal

abbrev pub invariant-loop-name : goal.invariant-loop-name
invariant-loop-name g l = record {
  damaged : g.D.Directory.told.content → AreDamaged (g.D.Directory.view l.initial.directory.0).reads (take l.name-index l.names) (map string_bytes l.damaged.keys);
  frame : KeepsNames (OnlyReads g.D.Directory.told) g.D.Directory.view l.initial.directory l.directory;
  images : g.D.Directory.tells_images → KeepsDisk (g.D.Directory.disk l.initial.directory.0) (g.D.Directory.disk l.directory.0);
  quiet : (g.D.Directory.view l.directory.0).faults ≡ (g.D.Directory.view l.initial.directory.0).faults;
}
