use Rattle.std.proofs.Common.{◌≡◌, List, ℕ, true, take}
use Rattle.tv_formats.specs.Names.{has}
use Rattle.tv_machine.specs.State.{State}
use Rattle.tv_store.specs.Bodies.{AreBodies, AreSealed, ReadsGoodFile}
use Rattle.tv_store.specs.Performing.{FilesHold}
use Rattle.tv_device.specs.Images.{KeepsDisk}
use Rattle.tv_device.specs.View.{OnlyReads}
use Rattle.tv_store.specs.Stays.{KeepsFiles}
use Rattle.tv_store.proofs.loading.read_bodies.Given as goal

abbrev pub invariant-loop-name : goal.invariant-loop-name
invariant-loop-name g l = record {
  read : g.O.Directory.told.content → (s : State) → FilesHold g.O.Directory l.initial.files s → AreSealed s l.names → AreBodies s (take l.name-index l.names) l.bodies.items;
  good : g.O.Directory.told.content → (n : List ℕ) → has (take l.name-index l.names) n ≡ true → ReadsGoodFile ((g.O.Directory.view l.initial.files.outside).reads n);
  frame : KeepsFiles (OnlyReads g.O.Directory.told) g.O.Directory.view l.initial.files l.files;
  images : g.O.Directory.tells_images → KeepsDisk (g.O.Directory.disk l.initial.files.outside) (g.O.Directory.disk l.files.outside);
  quiet : (g.O.Directory.view l.files.outside).faults ≡ (g.O.Directory.view l.initial.files.outside).faults;
}
