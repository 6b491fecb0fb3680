use Rattle.tv_store.proofs.RefusedBytes.{error_names, spares_refused}
use Rattle.tv_store.proofs.laws.opening.names_and_spares_refused_bytes.Goals as goal

pub returns-clause-named : goal.returns-clause-named
returns-clause-named g c = error_names g.O.Directory _ _ c.open.result c.open.ensures.faults

pub returns-clause-unchanged : goal.returns-clause-unchanged
returns-clause-unchanged g c told = spares_refused g.O.Directory _ _ c.open.result c.open.ensures.faults c.open.ensures.leaves told
