use Rattle.std.proofs.Common.{◌≡◌, length, map, take}
use Rattle.tv_device.specs.Images.{KeepsDisk}
use Rattle.tv_device.specs.View.{OnlyReads}
use Rattle.tv_index.specs.Indexes.{KeepsIndex}
use Rattle.tv_formats.specs.Segments.{name_of}
use Rattle.tv_reader.specs.Bodies.{ReadBodies}
use Rattle.tv_reader.proofs.segment_opening.read_bodies.Given as goal

abbrev pub invariant-loop-component : goal.invariant-loop-component
invariant-loop-component g l = record {
  each : length l.bodies.items ≡ l.component-index;
  bodies : g.D.Directory.told.content → ReadBodies (g.D.Directory.view l.initial.index.directory.0).reads (map (name_of l.id l.live.deletes) (take l.component-index l.components)) l.bodies.items;
  frame : KeepsIndex (OnlyReads g.D.Directory.told) g.D.Directory.view l.initial.index l.index;
  images : g.D.Directory.tells_images → KeepsDisk (g.D.Directory.disk l.initial.index.directory.0) (g.D.Directory.disk l.index.directory.0);
  quiet : (g.D.Directory.view l.index.directory.0).faults ≡ (g.D.Directory.view l.initial.index.directory.0).faults;
}
