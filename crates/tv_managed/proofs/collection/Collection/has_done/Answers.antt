use Rattle.std.proofs.Common.{rules, tests, arith, ◌≡◌, Bool, sym, ap, ◌∙◌, map, string_bytes, take}
use Rattle.std.proofs.lemmas.Iterator.{YieldsList-from_slice}
use Rattle.std.proofs.lemmas.Iterator.Search.{any_from_yields_List}
use Rattle.std.proofs.lemmas.List.{length-take-le}
use Rattle.std.specs.List.{list_any}
use Rattle.tv_managed.proofs.TriedSo.{none_done, some_done}
use Rattle.tv_managed.proofs.collection.Collection.has_done.Goals as goal

pub returns-clause-some : goal.returns-clause-some
returns-clause-some c some none =
    let is = c.self.invariant.0 in
    let outcomes = take c.self.inside.tried c.self.inside.outcomes.items in
    let any : c.any.result ≡ list_any (λ b. b) outcomes = any_from_yields_List (λ (b : Bool). b) _ _ c.any.result c.any.ensures.ran (YieldsList-from_slice outcomes cc) (λ x b q k. search (rules, tests)) in
    some_done (map string_bytes c.self.inside.names.items) outcomes (omega (arith, length-take-le c.self.inside.tried c.self.inside.outcomes.items (omega (arith, is.within, is.each)), is.within)) (sym any ∙ some)
    (ap (λ v. v.done) c.self.view_is ∙ none)

pub returns-clause-none : goal.returns-clause-none
returns-clause-none c none =
    let outcomes = take c.self.inside.tried c.self.inside.outcomes.items in
    let any : c.any.result ≡ list_any (λ b. b) outcomes = any_from_yields_List (λ (b : Bool). b) _ _ c.any.result c.any.ensures.ran (YieldsList-from_slice outcomes cc) (λ x b q k. search (rules, tests)) in
    sym (ap (λ v. v.done) c.self.view_is) ∙ none_done (map string_bytes c.self.inside.names.items) outcomes (sym any ∙ none)
