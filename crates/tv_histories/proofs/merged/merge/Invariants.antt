use Rattle.std.proofs.Common.{◌≡◌, ◌+◌, length}
use Rattle.tv_histories.proofs.Mixing.{IsMerging}
use Rattle.tv_histories.proofs.merged.merge.Given as goal

abbrev pub invariant-loop-place : goal.invariant-loop-place
invariant-loop-place l = IsMerging (λ q. q.items) l.initial.lists.items l.lists.items l.callers.items l.receipts.items × (l.place ≡ length l.receipts.items + 1)
