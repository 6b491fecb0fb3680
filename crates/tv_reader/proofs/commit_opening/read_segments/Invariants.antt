use Rattle.std.proofs.Common.{◌≡◌, map, take}
use Rattle.std.specs.List.{AllByRecursion}
use Rattle.tv_device.specs.Images.{KeepsDisk}
use Rattle.tv_device.specs.View.{OnlyReads}
use Rattle.tv_index.specs.Indexes.{KeepsIndex}
use Rattle.tv_metas.specs.Segments.{entry_of}
use Rattle.tv_reader.specs.Bodies.{IsRead, shown_entry}
use Rattle.tv_reader.proofs.commit_opening.read_segments.Given as goal

abbrev pub invariant-loop-segment : goal.invariant-loop-segment
invariant-loop-segment g l = record {
  segments : map shown_entry l.readers.items ≡ map entry_of (take l.segment-index l.segments);
  bodies : g.D.Directory.told.content → AllByRecursion (IsRead (g.D.Directory.view l.initial.index.directory.0).reads) l.readers.items;
  frame : KeepsIndex (OnlyReads g.D.Directory.told) g.D.Directory.view l.initial.index l.index;
  images : g.D.Directory.tells_images → KeepsDisk (g.D.Directory.disk l.initial.index.directory.0) (g.D.Directory.disk l.index.directory.0);
  quiet : (g.D.Directory.view l.index.directory.0).faults ≡ (g.D.Directory.view l.initial.index.directory.0).faults;
}
