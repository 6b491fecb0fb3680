use Rattle.std.proofs.Common.{◌≡◌, ◌||◌, ℕ, List}
use Rattle.tv_formats.specs.Names.{has}
use Rattle.tv_device.specs.StoredFiles.{is_there}
use Rattle.tv_device.proofs.files.Files.add_names.Given as goal

abbrev pub invariant-loop-name : goal.invariant-loop-name
invariant-loop-name l = (n : List ℕ) → (has l.names.keys n || is_there l.name-iterator n) ≡ (has l.initial.names.keys n || is_there l.self.map.entries n)
