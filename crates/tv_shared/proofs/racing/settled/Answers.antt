use Rattle.std.proofs.Common.{rules, map, subst}
use Rattle.tv_histories.specs.Races.{IsRace}
use Rattle.tv_shared.proofs.Failing.{unsettled}
use Rattle.tv_shared.proofs.racing.settled.Goals as goal

pub returns-in_ok-seen-in-Open-clause-race : goal.returns-in_ok-seen-in-Open-clause-race
returns-in_ok-seen-in-Open-clause-race c = (
  c.in_ok-history.history,
  search rules,
  c.in-Open.is,
  subst (λ h. IsRace (map (λ s. s.items) c.args.scripts.now) h) c.as_slice.ensures.value
      c.in_ok-is_interleaving.ensures.race,
)

pub returns-in_err-is_interleaving-clause-fails : goal.returns-in_err-is_interleaving-clause-fails
returns-in_err-is_interleaving-clause-fails c =
    unsettled (λ h. h.items) (map (λ s. s.items) c.args.scripts.now) c.args.history
    c.from_residual-in_err-is_interleaving.result c.in_err-is_interleaving.field-0.0 c.in_ok-history.history
    c.as_slice.result.now c.from_residual-in_err-is_interleaving.ensures.1 (search rules)
    c.as_slice.ensures.value c.in_err-is_interleaving.ensures.uneven
