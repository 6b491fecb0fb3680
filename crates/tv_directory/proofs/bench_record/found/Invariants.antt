use Rattle.std.proofs.Common.{◌≡◌, map, take}
use Rattle.std.specs.List.{flat_map}
use Rattle.tv_directory.specs.Record.{found_by, since_sync}
use Rattle.tv_device.specs.StoredFiles.{disk_state_of}
use Rattle.tv_directory.proofs.bench_record.found.Given as goal

abbrev pub invariant-loop-call : goal.invariant-loop-call
invariant-loop-call l = map disk_state_of l.states.items ≡ flat_map (found_by l.name) (since_sync (take l.call-index l.calls))
