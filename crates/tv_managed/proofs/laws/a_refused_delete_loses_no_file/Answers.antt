use Rattle.std.proofs.Common.{refl}
use Rattle.std.proofs.lemmas.Result.{IfOk-weaker, on_err_weaker}
use Rattle.tv_managed.proofs.Spared.{first_left, leaves_what_might}
use Rattle.tv_managed.proofs.laws.a_refused_delete_loses_no_file.Goals as goal

pub returns-clause-refused : goal.returns-clause-refused
returns-clause-refused g c tells =
    let states = (c.collect_delete.ensures.safe tells (first_left _ refl c.requires)).states in
    IfOk-weaker c.collect_delete.result _ _ (λ step refused no. leaves_what_might (refused no)) states.refused

pub returns-clause-wanted : goal.returns-clause-wanted
returns-clause-wanted g c tells =
    let states = (c.collect_delete.ensures.safe tells (first_left _ refl c.requires)).states in
    on_err_weaker c.collect_delete.result leaves_what_might states.err
