-- What is known of a result or an option by one of its cases.
use Rattle.std.proofs.Common.{◌≡◌, Result, Ok, Err, sym, subst}
use Rattle.std.specs.Result.{IsErrAnd}

-- a result that hands an error on is that error
pub handed : {A E : Type 0} (P : Result A E → Type 0) (result : Result A E) (error : E) → IsErrAnd result (λ e. e ≡ error) → P (Err error) → P result
handed P (Ok x) error is p = absurd is
handed P (Err e) error is p = subst (λ x. P (Err x)) (sym is) p
