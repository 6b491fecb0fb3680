use Rattle.std.proofs.Common.{◌≡◌, [], map}
use Rattle.tv_registers.specs.Registers.{entry_of, put_each}
use Rattle.tv_registers.proofs.segment_register.SegmentRegister.new.Given as goal

abbrev pub invariant-loop-meta : goal.invariant-loop-meta
invariant-loop-meta l = l.segments.entries ≡ put_each (map (entry_of l.cursor) l.yielded) []
