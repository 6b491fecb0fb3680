use Rattle.std.proofs.Common.{◌-◌, length}
use Rattle.tv_reader.specs.StorePlaces.{AreRead}
use Rattle.tv_reader.proofs.store_reader.places_in.Given as goal

abbrev pub invariant-loop-end : goal.invariant-loop-end
invariant-loop-end l = AreRead l.bytes l.end l.places.items

abbrev pub decreases-loop-end : goal.decreases-loop-end
decreases-loop-end l = length l.bytes - l.end
