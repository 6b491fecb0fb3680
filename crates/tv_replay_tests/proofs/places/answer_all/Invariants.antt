use Rattle.std.proofs.Common.{◌≡◌, None}
use Rattle.tv_replay_tests.proofs.places.answer_all.Given as goal

abbrev pub invariant-loop-call : goal.invariant-loop-call
invariant-loop-call g l = l.place.lent ≡ None
