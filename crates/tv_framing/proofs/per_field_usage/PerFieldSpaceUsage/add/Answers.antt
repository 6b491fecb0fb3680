use Rattle.std.proofs.Common.{◌∙◌, sym, subst}
use Rattle.tv_framing.specs.PerField.{InNameOrder}
use Rattle.tv_framing.specs.Places.{IsGap, IsPlace}
use Rattle.tv_framing.proofs.Gathered.{order_joined, order_with}
use Rattle.tv_framing.proofs.per_field_usage.PerFieldSpaceUsage.add.Goals as goal

pub invariant_of-self : goal.invariant_of-self
invariant_of-self c =
    let place = subst (λ l. IsPlace c.field_name.result.now l c.in-Ok.i) (sym c.self.view_is) c.in-Ok.ensures in
    order_joined c.join.result c.field_name.result.now c.self.inside.fields.items c.in-Ok.i c.args.field c.index_mut-one.result.now c.join.new.self
    c.self.invariant place (sym c.field_name.ensures.name) c.index_mut-one.ensures.value c.join.ensures.ok c.join.ensures.err

pub invariant_of-self-in-Err : goal.invariant_of-self-in-Err
invariant_of-self-in-Err c =
    let gap = subst (λ l. IsGap c.field_name.result.now l c.in-Err.i) (sym c.self.view_is) c.in-Err.ensures in
    subst InNameOrder (sym (c.in_ok-insert-in-Err.ensures.items ∙ gap.goes_in c.args.field (sym c.field_name.ensures.name))) (order_with c.args.field c.self.inside.fields.items c.self.invariant)
