use Rattle.std.proofs.Common.{◌≡◌}
use Rattle.tv_device.specs.StoredFiles.{AreSealed, reads_of}
use Rattle.tv_directory.proofs.Crashed.{LeavesFirst}
use Rattle.tv_directory.proofs.bench.Bench.left_files.Given as goal

abbrev pub invariant-loop-name : goal.invariant-loop-name
invariant-loop-name g l =
    (goal.iterator-loop-name g).can_next l.name-iterator ×
    (goal.iterator-loop-name g).is_finite l.name-iterator ×
    LeavesFirst l.self l.moment l.choice l.choices.rest.now l.fn.names.keys l.name-iterator (reads_of l.files.map.entries) ×
    AreSealed l.files.map.entries ×
    (l.files.last ≡ 0)
