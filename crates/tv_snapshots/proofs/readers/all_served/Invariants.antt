use Rattle.std.proofs.Common.{◌≡◌, []}
use Rattle.tv_snapshots.proofs.Reloading.{put_served}
use Rattle.tv_snapshots.proofs.readers.all_served.Given as goal

abbrev pub invariant-loop-number : goal.invariant-loop-number
invariant-loop-number l = put_served l.shown l.all.entries l.number-iterator ≡ put_served l.shown [] l.readers.entries
