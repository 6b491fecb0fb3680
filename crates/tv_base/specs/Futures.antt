-- What a contract sees of a result that may come later.
use Rattle.std.specs.Prelude.{Option, Result, Bool}
use Rattle.tv_base.specs.declared.error.TantivyError.{TantivyError}

-- the result, where it is there; and whether it was answered
pub record Promise (T : Type 0) : Type 0 where
  pub finished : Option (Result T TantivyError)
  pub answered : Bool
