-- What a contract sees of the states of a result that may come later.
use Rattle.std.specs.Prelude.{Option, Some, None, Result, Bool, true, false}
use Rattle.tv_base.specs.Futures.{Promise}
use Rattle.tv_base.specs.declared.error.TantivyError.{TantivyError}
use Rattle.tv_base.specs.declared.future_result.State.{State}
use Rattle.tv_base.specs.declared.future_result.State.TheVariants.{Finished, InProgress, Answered}

-- the answer, where it is there
abbrev pub finished_in : {A : Type 0} → State A → Option A
finished_in (Finished answer) = Some answer
finished_in (InProgress receiver message) = None
finished_in Answered = None

-- the answer was given
abbrev pub is_answered : {A : Type 0} → State A → Bool
is_answered (Finished answer) = false
is_answered (InProgress receiver message) = false
is_answered Answered = true

-- what a contract sees of a result of the future: its answer where it is finished, and whether it was given
-- already
abbrev pub promise_of : {T : Type 0} → State (Result T TantivyError) → Promise T
promise_of state = record { finished = finished_in state; answered = is_answered state }
