-- What was heard of a history.
use Rattle.std.specs.Prelude.{ℕ, ◌≡◌, List, [], ◌∷◌, ◌++◌, map}
use Rattle.tv_formats.specs.Files.{Heard}
use Rattle.tv_stepping.specs.Steps.{IsNoLine}

-- What was heard ends in these lines, one piece for each, and behind them in no whole line; in nothing at all,
-- where the store is still open.
pub record Hears (is_open : Type 0) (heard : Heard) (lines : List (List ℕ)) : Type 0 where
  pub before : Heard
  pub pieces : Heard
  pub rest : Heard
  pub parts : heard ≡ before ++ (pieces ++ rest)
  pub each : map (λ piece. piece.1) pieces ≡ map (λ line. line ++ 10 ∷ []) lines
  pub part : IsNoLine rest
  pub whole : is_open → rest ≡ []
