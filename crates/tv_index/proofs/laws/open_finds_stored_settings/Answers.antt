use Rattle.std.proofs.lemmas.Result.{IfOk-weaker}
use Rattle.tv_index.proofs.Promised.{stored_settings}
use Rattle.tv_index.proofs.laws.open_finds_stored_settings.Goals as goal

pub returns : goal.returns
returns g c tells = IfOk-weaker c.open.result _ _ (λ index opens. stored_settings g.D.Directory c.args.directory index opens tells) c.open.ensures.opened
