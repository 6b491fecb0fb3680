use Rattle.std.proofs.Common.{ap, ◌∙◌}
use Rattle.tv_base.specs.Entries.{released}
use Rattle.tv_base.proofs.Tracked.{released_last}
use Rattle.tv_base.proofs.laws.drops_a_value_with_its_last_ticket.Goals as goal

pub returns : goal.returns
returns g c =
    let n = c.in_ok-ticket.ticket in
    ap (λ state. state.entries) c.release.ensures.released
    ∙ ap (λ state. released n state.entries) c.in_ok-ticket.ensures.ok
    ∙ released_last n c.args.value c.args.inventory.now.entries c.in_ok-ticket.ensures.fresh
