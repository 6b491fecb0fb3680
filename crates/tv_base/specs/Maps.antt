-- What a map over a list of arguments may answer, where a call at an argument may answer a value or an error.
use Rattle.std.specs.Prelude.{◌≡◌, List, [], ◌∷◌, ◌++◌, Option, Some, None, Result, Ok, Err}
use Rattle.std.specs.List.{AllZip}

module _ {A T E : Type 0} (gives : A → Result T E → Type 0) where
  -- at the argument in its place, a call may answer each value, and there are no others
  pub record Answers (args : List A) (values : List T) : Type 0 where
    pub each : AllZip (λ arg value. gives arg (Ok value)) args values

  -- at one of the arguments a call may answer the error, and at those before it values
  pub record IsFirstError (args : List A) (error : E) : Type 0 where
    pub before : List A
    pub values : List T
    pub at : A
    pub rest : List A
    pub arguments : args ≡ before ++ at ∷ rest
    pub answered : Answers before values
    pub failed : gives at (Err error)

-- a call answers what the function says
abbrev pub IsOf : {A T E : Type 0} → (A → Result T E → Type 0) → (A → Result T E) → Type 0
IsOf {A} {T} {E} gives g = (arg : A) (answer : Result T E) → gives arg answer → answer ≡ g arg

-- the first error of a list of answers
abbrev pub first_error : {T E : Type 0} → List (Result T E) → Option E
first_error [] = None
first_error (Ok value ∷ answers) = first_error answers
first_error (Err error ∷ answers) = Some error
