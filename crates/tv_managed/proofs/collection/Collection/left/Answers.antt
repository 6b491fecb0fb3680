use Rattle.std.proofs.Common.{arith, ap, length, map, string_bytes}
use Rattle.std.proofs.lemmas.List.{length-map}
use Rattle.tv_managed.proofs.TriedSo.{left_count}
use Rattle.tv_managed.proofs.collection.Collection.left.Goals as goal

pub returns : goal.returns
returns c =
    let count = left_count (map string_bytes c.self.inside.names.items) c.self.inside.outcomes.items c.self.inside.tried c.self.invariant.0 in
    omega (arith, count, ap (λ v. length v.untried) c.self.view_is, length-map c.self.inside.names.items string_bytes, c.len.ensures)
