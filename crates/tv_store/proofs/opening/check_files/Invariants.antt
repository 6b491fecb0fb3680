use Rattle.std.proofs.Common.{◌≡◌}
use Rattle.std.specs.List.{AllByRecursion}
use Rattle.std.specs.Vec.Iter.{into_iter_items}
use Rattle.tv_device.specs.View.{OnlyReads}
use Rattle.tv_index.specs.Crashes.{OnlyLooks}
use Rattle.tv_machine.specs.Index.{IsFileOf}
use Rattle.tv_store.specs.Stays.{KeepsFiles}
use Rattle.tv_store.proofs.CheckedFiles.{ReadsFirst}
use Rattle.tv_store.proofs.opening.check_files.Given as goal

abbrev pub invariant-loop-name : goal.invariant-loop-name
invariant-loop-name g l = record {
  next : (goal.iterator-loop-name g).can_next l.name-iterator;
  finite : (goal.iterator-loop-name g).is_finite l.name-iterator;
  so_far : ReadsFirst g.O.Directory.told.content (g.O.Directory.view l.initial.files.outside).reads l.fn.names.items (into_iter_items l.name-iterator);
  each : AllByRecursion IsFileOf (into_iter_items l.name-iterator);
  frame : KeepsFiles (OnlyReads g.O.Directory.told) g.O.Directory.view l.initial.files l.files;
  quiet : (g.O.Directory.view l.files.outside).faults ≡ (g.O.Directory.view l.initial.files.outside).faults;
  looks : g.O.Directory.tells_images → OnlyLooks g.O.Directory l.initial.files.outside l.files.outside;
}
