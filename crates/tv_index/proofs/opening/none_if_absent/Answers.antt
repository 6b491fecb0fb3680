use Rattle.tv_index.proofs.Standings.{other_error}
use Rattle.tv_index.proofs.opening.none_if_absent.Goals as goal

pub returns-in_default : goal.returns-in_default
returns-in_default c = other_error c.args.error c.in_default.not-OpenReadError
