use Rattle.std.proofs.Common.{◌≡◌, ◌++◌, take, length}
use Rattle.tv_formats.specs.VInt.{vint}
use Rattle.tv_base.proofs.vint.put_groups.Given as goal

abbrev pub invariant-loop-rest : goal.invariant-loop-rest
invariant-loop-rest l = record {
  whole : l.out.items ++ vint l.rest ≡ l.initial.out.items ++ vint l.number;
  kept : take (length l.initial.out.items) l.out.items ≡ l.initial.out.items;
}

abbrev pub decreases-loop-rest : goal.decreases-loop-rest
decreases-loop-rest l = l.rest
