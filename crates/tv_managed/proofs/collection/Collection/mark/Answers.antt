use Rattle.std.proofs.Common.{arith, ◌+◌, set, ap, ◌∙◌, length, map, string_bytes}
use Rattle.tv_formats.specs.Collections.{having_tried}
use Rattle.std.proofs.lemmas.List.{length-set}
use Rattle.tv_managed.specs.Names.{IsCollection}
use Rattle.tv_managed.proofs.TriedSo.{left_count, marked}
use Rattle.tv_managed.proofs.collection.Collection.mark.Goals as goal

pub index_mut-requires : goal.index_mut-requires
index_mut-requires c =
    let count = left_count (map string_bytes c.self.inside.names.items) c.self.inside.outcomes.items c.self.inside.tried c.self.invariant.0 in
    omega (arith, count, ap (λ v. length v.untried) c.self.view_is, c.requires, c.self.invariant.0.each)

pub invariant_of-self : goal.invariant_of-self
invariant_of-self c =
    let count = left_count (map string_bytes c.self.inside.names.items) c.self.inside.outcomes.items c.self.inside.tried c.self.invariant.0 in
    let is : IsCollection (map string_bytes c.self.inside.names.items) (set c.self.inside.outcomes.items c.self.inside.tried c.args.is_done) (c.self.inside.tried + 1) = record {
      managed = c.self.invariant.0.managed;
      each = length-set c.self.inside.outcomes.items c.self.inside.tried c.args.is_done ∙ c.self.invariant.0.each;
      within = omega (arith, count, ap (λ v. length v.untried) c.self.view_is, c.requires);
    } in
    (is, c.self.invariant.1)

pub returns : goal.returns
returns c name left next =
    marked (map string_bytes c.self.inside.names.items) c.self.inside.outcomes.items c.self.inside.tried c.args.is_done name left c.self.invariant.0 (ap (λ v. v.untried) c.self.view_is ∙ next)
    ∙ ap (λ v. having_tried v name left c.args.is_done) c.self.view_is
