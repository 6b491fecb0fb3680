use Rattle.std.proofs.Common.{◌≡◌, None, Some, subst}
use Rattle.std.specs.Prelude.{IfErr, IfOk, OnOk}
use Rattle.tv_machine.specs.CommitEvents.{chosen, first_unknown}
use Rattle.tv_machine.specs.State.{Catalog}
use Rattle.tv_catalog.proofs.catalog.Catalog.chosen.Goals as goal

pub returns : goal.returns
returns c =
    let ids = c.args.ids.now in
    record {
      segments = subst (λ (k : Catalog). IfOk c.choose.result (λ found. IfOk found (λ segments. segments.entries ≡ chosen k ids))) c.self.view_is c.choose.ensures.segments;
      sound = c.choose.ensures.sound;
      known = subst (λ (k : Catalog). IfOk c.choose.result (λ found. OnOk found (first_unknown k ids ≡ None))) c.self.view_is c.choose.ensures.known;
      unknown = subst (λ (k : Catalog). IfOk c.choose.result (λ found. IfErr found (λ id. first_unknown k ids ≡ Some id))) c.self.view_is c.choose.ensures.unknown;
    }
