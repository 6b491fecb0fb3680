use Rattle.std.proofs.Math.Logic.{⊎_map}
use Rattle.std.proofs.lemmas.Result.{IfErr-weaker}
use Rattle.tv_store.proofs.laws.opening.writes_nothing_before_its_lock.Goals as goal

pub returns-clause-refused : goal.returns-clause-refused
returns-clause-refused g c =
    IfErr-weaker c.open.result _ _
    (λ refused writes. ⊎_map (λ only. only.content) (λ under. (under.0, (λ told. (under.1.took told).is_held), under.1.only.content)) writes)
    c.open.ensures.locks.writes
