use Rattle.std.proofs.Common.{arith, sym, ap, ◌∙◌, map, string_bytes, take}
use Rattle.std.proofs.lemmas.List.{length-take-le}
use Rattle.tv_formats.specs.Names.{has}
use Rattle.tv_formats.specs.Collections.{taken}
use Rattle.tv_managed.specs.Collecting.{names_of}
use Rattle.tv_managed.proofs.TriedSo.{has_taken}
use Rattle.tv_managed.proofs.collection.Collection.names.Goals as goal

pub returns-clause-taken : goal.returns-clause-taken
returns-clause-taken c n =
    let is = c.self.invariant.0 in
    ap (λ l. has (names_of l) n) c.as_slice.ensures.value
    ∙ sym (has_taken (map string_bytes c.self.inside.names.items) (take c.self.inside.tried c.self.inside.outcomes.items) n (omega (arith, length-take-le c.self.inside.tried c.self.inside.outcomes.items (omega (arith, is.within, is.each)), is.within)))
    ∙ ap (λ v. has (taken v) n) c.self.view_is
