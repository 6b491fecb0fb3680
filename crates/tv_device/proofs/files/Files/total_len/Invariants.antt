use Rattle.std.proofs.Common.{◌≡◌, ◌+◌, ◌≤◌, min}
use Rattle.tv_base.specs.Texts.{last}
use Rattle.tv_device.specs.StoredFiles.{total_len}
use Rattle.tv_device.proofs.files.Files.total_len.Given as goal

abbrev pub invariant-loop-name : goal.invariant-loop-name
invariant-loop-name l = record {
  fits : l.total ≤ last;
  sum : min (l.total + total_len l._name-iterator) last ≡ min (total_len l.self.map.entries) last;
}
