use Rattle.std.specs.Fmt.{digits}
use Rattle.tv_base.proofs.laws.shows_the_version.Goals as goal

pub returns : goal.returns
unfolding digits
returns c = rw c.version.ensures.version at c.to_string.ensures.ok
