-- What is known of a result by one of its cases.
use Rattle.std.proofs.Common.{◌≡◌, Result, Ok, Err, sym, subst}
use Rattle.std.specs.Prelude.{IfErr, IfOk, IsErr, OnErr, OnOk}
use Rattle.std.specs.Result.{IsErrAnd}

-- what holds of an error holds of a result that hands it on
pub handed_on : {A E : Type 0} (result : Result A E) (error : E) (P : E → Type 0) → IsErrAnd result (λ e. e ≡ error) → P error → IfErr result P
handed_on (Ok x) error P is p = tt
handed_on (Err e) error P is p = subst P (sym is) p

-- what holds anyway holds at an error
pub on_err : {A E P : Type 0} (result : Result A E) → P → OnErr result P
on_err (Ok x) p = tt
on_err (Err e) p = p

-- and what holds anyway holds at Ok
pub on_ok : {A E P : Type 0} (result : Result A E) → P → OnOk result P
on_ok (Ok x) p = p
on_ok (Err e) p = tt

-- what holds of each error holds of a result's
pub any_err : {A E : Type 0} {P : E → Type 0} (result : Result A E) → ((e : E) → P e) → IfErr result P
any_err (Ok x) p = tt
any_err (Err e) p = p e

-- an error says nothing of what stands at Ok
pub no_ok : {A E : Type 0} (P : Type 0) (result : Result A E) → IsErr result → OnOk result P
no_ok P (Ok x) failed = absurd cc
no_ok P (Err e) failed = tt

-- and nothing of what is answered at Ok
pub no_answer : {A E : Type 0} (result : Result A E) (P : A → Type 0) → IsErr result → IfOk result P
no_answer (Ok a) P failed = absurd cc
no_answer (Err e) P failed = tt
