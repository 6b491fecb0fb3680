use Rattle.std.proofs.Common.{◌≡◌, ◌≤◌, filter, length, map, take, string_bytes}
use Rattle.std.specs.Prelude.{is_some}
use Rattle.tv_device.specs.View.{OnlyReads}
use Rattle.tv_managed.specs.Frames.{KeepsNames}
use Rattle.tv_replay.proofs.summary.count_files.Given as goal

abbrev pub invariant-loop-name : goal.invariant-loop-name
invariant-loop-name g l = record {
  counted : g.D.Directory.told.content → l.files ≡ length (filter (λ name. is_some ((g.D.Directory.view l.initial.directory.0).reads name)) (map string_bytes (take l.name-index l.names)));
  few : l.files ≤ l.name-index;
  frame : KeepsNames (OnlyReads g.D.Directory.told) g.D.Directory.view l.initial.directory l.directory;
}
