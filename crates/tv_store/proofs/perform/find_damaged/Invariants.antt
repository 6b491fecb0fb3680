use Rattle.std.proofs.Common.{◌≡◌, ◌≤◌, ◌+◌, List, [], ℕ, true, length, vec_capacity}
use Rattle.std.specs.List.{AllByRecursion}
use Rattle.std.specs.Vec.Iter.{into_iter_items}
use Rattle.tv_device.specs.Images.{KeepsDisk}
use Rattle.tv_device.specs.View.{OnlyReads}
use Rattle.tv_formats.specs.Names.{has}
use Rattle.tv_machine.specs.Index.{IsFileOf}
use Rattle.tv_machine.specs.State.{State}
use Rattle.tv_catalog.proofs.SharedLaws.{words_len}
use Rattle.tv_store.proofs.ValidatedFiles.{report}
use Rattle.tv_store.specs.Performing.{FilesHold}
use Rattle.tv_store.specs.Stays.{KeepsFiles}
use Rattle.tv_store.proofs.perform.find_damaged.Given as goal

abbrev pub invariant-loop-name : goal.invariant-loop-name
invariant-loop-name g l = record {
  next : (goal.iterator-loop-name g).can_next l.name-iterator;
  finite : (goal.iterator-loop-name g).is_finite l.name-iterator;
  found : g.O.Directory.told.content → (s : State) → FilesHold g.O.Directory l.initial.files s → AllByRecursion IsFileOf l.fn.names.items → report s l.damaged.items (into_iter_items l.name-iterator) ≡ report s [] l.fn.names.items;
  each : AllByRecursion IsFileOf l.fn.names.items → AllByRecursion IsFileOf (into_iter_items l.name-iterator);
  among : (n : List ℕ) → has (into_iter_items l.name-iterator) n ≡ true → has l.fn.names.items n ≡ true;
  short : words_len l.damaged.items + words_len (into_iter_items l.name-iterator) ≤ words_len l.fn.names.items;
  room : length l.damaged.items + length (into_iter_items l.name-iterator) ≤ vec_capacity l.damaged;
  frame : KeepsFiles (OnlyReads g.O.Directory.told) g.O.Directory.view l.initial.files l.files;
  images : g.O.Directory.tells_images → KeepsDisk (g.O.Directory.disk l.initial.files.outside) (g.O.Directory.disk l.files.outside);
  quiet : (g.O.Directory.view l.files.outside).faults ≡ (g.O.Directory.view l.initial.files.outside).faults;
}
