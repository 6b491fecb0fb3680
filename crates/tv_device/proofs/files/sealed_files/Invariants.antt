use Rattle.std.specs.Vec.Iter.{into_iter_items}
use Rattle.tv_device.specs.StoredFiles.{AreSealed}
use Rattle.tv_device.proofs.StoredFiles.{PutsAll}
use Rattle.tv_device.proofs.files.sealed_files.Given as goal

abbrev pub invariant-loop-name : goal.invariant-loop-name
invariant-loop-name l =
    (goal.iterator-loop-name).can_next l.name-iterator ×
    (goal.iterator-loop-name).is_finite l.name-iterator ×
    PutsAll l.fn.files.items (into_iter_items l.name-iterator) l.map.entries ×
    AreSealed l.map.entries
