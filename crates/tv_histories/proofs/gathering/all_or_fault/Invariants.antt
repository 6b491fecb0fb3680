use Rattle.std.specs.Prelude.{◌≡◌, false}
use Rattle.tv_histories.specs.Races.{fault_among, first_of}
use Rattle.tv_histories.proofs.Races.{AreFirst}
use Rattle.tv_histories.proofs.gathering.all_or_fault.Given as goal

abbrev pub invariant-loop-answer : goal.invariant-loop-answer
invariant-loop-answer l =
    (l.has_failed ≡ false → AreFirst l.fn.answers.items l.lists.items l.answer-iterator.rest.items)
    × (fault_among l.fn.answers.items ≡ first_of l.fault (fault_among l.answer-iterator.rest.items))
