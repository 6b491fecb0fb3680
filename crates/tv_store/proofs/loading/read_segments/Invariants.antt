use Rattle.std.proofs.Common.{◌≡◌, take, map}
use Rattle.tv_machine.specs.State.{State}
use Rattle.tv_formats.specs.Segments.{all_required}
use Rattle.tv_store.specs.Bodies.{AreGood, AreSealed, ReadsSegments}
use Rattle.tv_store.specs.Performing.{FilesHold}
use Rattle.tv_device.specs.Images.{KeepsDisk}
use Rattle.tv_device.specs.View.{OnlyReads}
use Rattle.tv_store.specs.Stays.{KeepsFiles}
use Rattle.tv_store.proofs.loading.read_segments.Given as goal

abbrev pub invariant-loop-entry : goal.invariant-loop-entry
invariant-loop-entry g l = record {
  read : g.O.Directory.told.content → (s : State) → FilesHold g.O.Directory l.initial.files s → AreSealed s (all_required l.segments) → ReadsSegments s (take l.entry-index l.segments) (map (λ r. (r.id, r.segment)) l.readers.items) (map (λ r. r.bodies.items) l.readers.items);
  good : g.O.Directory.told.content → AreGood (g.O.Directory.view l.initial.files.outside).reads (all_required (take l.entry-index l.segments));
  frame : KeepsFiles (OnlyReads g.O.Directory.told) g.O.Directory.view l.initial.files l.files;
  images : g.O.Directory.tells_images → KeepsDisk (g.O.Directory.disk l.initial.files.outside) (g.O.Directory.disk l.files.outside);
  quiet : (g.O.Directory.view l.files.outside).faults ≡ (g.O.Directory.view l.initial.files.outside).faults;
}
