use Rattle.std.proofs.Common.{[], None, ◌∙◌, ap, refl, sym, subst, slice_set}
use Rattle.std.specs.Prelude.{insert}
use Rattle.tv_framing.specs.Fields.{part_alone, with_usage}
use Rattle.tv_framing.specs.PerField.{InNameOrder}
use Rattle.tv_framing.specs.Places.{IsGap, IsPlace, with_field}
use Rattle.tv_framing.proofs.Gathered.{order_joined, order_with}
use Rattle.tv_framing.proofs.Joining.{joined_alone}
use Rattle.tv_framing.proofs.Parts.{on_ok}
use Rattle.tv_framing.proofs.per_field_usage.PerFieldSpaceUsage.add_part.Goals as goal

pub invariant_of-self : goal.invariant_of-self
invariant_of-self c =
    let part = part_alone c.args.name.now c.args.idx c.args.size in
    let place = subst (λ l. IsPlace c.args.name.now l c.in-Ok.i) (sym c.self.view_is) c.in-Ok.ensures in
    order_joined c.join_part.result c.args.name.now c.self.inside.fields.items c.in-Ok.i part c.index_mut-one.result.now c.join_part.new.self
    c.self.invariant place refl c.index_mut-one.ensures.value
    (on_ok c.join_part.result c.join_part.ensures.ok (λ is. is ∙ joined_alone c.index_mut-one.result.now c.args.name.now c.args.idx c.args.size)) c.join_part.ensures.err

pub returns-in-Ok : goal.returns-in-Ok
returns-in-Ok c =
    let part = part_alone c.args.name.now c.args.idx c.args.size in
    let place = subst (λ l. IsPlace c.args.name.now l c.in-Ok.i) (sym c.self.view_is) c.in-Ok.ensures in
    record {
      ok = on_ok c.join_part.result c.join_part.ensures.ok
          (λ is. ap (slice_set c.self.inside.fields.items c.in-Ok.i) (is ∙ joined_alone c.index_mut-one.result.now c.args.name.now c.args.idx c.args.size)
          ∙ place.joins part c.index_mut-one.result.now refl c.index_mut-one.ensures.value
          ∙ ap (λ l. with_field l part) c.self.view_is);
    }

pub invariant_of-self-in-Err : goal.invariant_of-self-in-Err
invariant_of-self-in-Err c =
    let part = part_alone c.args.name.now c.args.idx c.args.size in
    let gap = subst (λ l. IsGap c.args.name.now l c.in-Err.i) (sym c.self.view_is) c.in-Err.ensures in
    let field = c.in_ok-add_field_idx-in-Err.ensures.ok ∙ ap (with_usage c.args.idx c.args.size) (c.empty-field.ensures.empty ∙ ap (λ n. record { name = n; parts = []; column = None }) c.in_ok-from_str-in-Err.ensures.ok) in
    subst InNameOrder (sym (c.in_ok-insert-in-Err.ensures.items ∙ ap (insert c.self.inside.fields.items c.in-Err.i) field ∙ gap.goes_in part refl)) (order_with part c.self.inside.fields.items c.self.invariant)
