use Rattle.std.proofs.Common.{◌≡◌, drop}
use Rattle.tv_formats.specs.Disk.{DiskState}
use Rattle.tv_directory.specs.Record.{stood_before}
use Rattle.tv_directory.proofs.bench_record.replaced.Given as goal

abbrev pub invariant-loop-call : goal.invariant-loop-call
invariant-loop-call l = (now : DiskState) → stood_before (drop l.call-index l.calls) l.name now ≡ stood_before l.calls l.name now
