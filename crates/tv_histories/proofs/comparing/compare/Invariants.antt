use Rattle.tv_histories.proofs.Standing.{StandBelow}
use Rattle.tv_histories.proofs.comparing.compare.Given as goal

abbrev pub invariant-loop-receipt : goal.invariant-loop-receipt
invariant-loop-receipt l = StandBelow l.receipt-index l.history l.receipts
