use Rattle.tv_managed.specs.TrackLaws.{keeps_then}
use Rattle.tv_replay.proofs.saying.tell_line.Goals as goal

pub returns-in-Ok-clause-images : goal.returns-in-Ok-clause-images
returns-in-Ok-clause-images g c t = keeps_then (c.in-Ok.ensures.images t) (c.tell.ensures.images t)
