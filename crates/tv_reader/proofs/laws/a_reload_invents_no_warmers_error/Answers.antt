use Rattle.std.proofs.Common.{◌≡◌}
use Rattle.tv_reader.specs.Reloads.{LoadCause, LoadsLast}
use Rattle.tv_reader.proofs.WarmingLaws.{why_no_reload}
use Rattle.tv_reader.proofs.laws.a_reload_invents_no_warmers_error.Goals as goal

pub returns : goal.returns
returns g c =
    let loads = LoadsLast g.D.Directory c.args.index.now c.reload.new.index in
    why_no_reload (λ w. (goal.Warmer-dyn g (w.vtable, w.value)).errors w.value) (λ w. (goal.Warmer-dyn g (w.vtable, w.value)).test w.value) (λ w. (goal.Warmer-dyn g (w.vtable, w.value)).called_for w.value) (c.reload.new.self ≡ c.args.reader.now) (LoadCause g.D.Directory c.args.index.now c.reload.new.index) loads _ _ _ _ c.reload.result c.reload.ensures.cause
