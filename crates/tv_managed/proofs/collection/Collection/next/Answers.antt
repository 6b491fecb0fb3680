use Rattle.std.proofs.Common.{◌≡◌, ◌<◌, true, subst, List, ℕ, arith, sym, ap, ◌∙◌, ◌∷◌, drop, suc, map, length, string_bytes, get_or}
use Rattle.std.proofs.lemmas.List.{length-map, get_or-map}
use Rattle.tv_managed.proofs.TriedSo.{left_count, next_is, plain_at}
use Rattle.tv_formats.specs.Names.{is_plain}
use Rattle.tv_managed.proofs.collection.Collection.next.Goals as goal

pub index-requires : goal.index-requires
index-requires c =
    let count = left_count (map string_bytes c.self.inside.names.items) c.self.inside.outcomes.items c.self.inside.tried c.self.invariant.0 in
    omega (arith, count, ap (λ v. length v.untried) c.self.view_is, c.requires, length-map c.self.inside.names.items string_bytes)

pub returns-clause-first : goal.returns-clause-first
returns-clause-first c =
    let names = map string_bytes c.self.inside.names.items in
    let is = c.self.invariant.0 in
    let count = left_count names c.self.inside.outcomes.items c.self.inside.tried is in (
      drop (suc c.self.inside.tried) names,
      sym (ap (λ v. v.untried) c.self.view_is)
          ∙ next_is names c.self.inside.outcomes.items c.self.inside.tried (string_bytes c.index.result.now) (omega (arith, count, ap (λ v. length v.untried) c.self.view_is, c.requires)) (omega (arith, is.within, is.each))
          ∙ ap (λ (n : List ℕ). n ∷ drop (suc c.self.inside.tried) names) (get_or-map string_bytes c.self.inside.names.items c.self.inside.tried c.index.result.now (string_bytes c.index.result.now) (omega (arith, count, ap (λ v. length v.untried) c.self.view_is, c.requires, length-map c.self.inside.names.items string_bytes)) ∙ ap string_bytes (sym c.index.ensures) ∙ sym c.as_str.ensures.value),
    )

pub returns-clause-plain : goal.returns-clause-plain
returns-clause-plain c =
    let names = map string_bytes c.self.inside.names.items in
    let count = left_count names c.self.inside.outcomes.items c.self.inside.tried c.self.invariant.0 in
    let lt : c.self.inside.tried < length names = omega (arith, count, ap (λ v. length v.untried) c.self.view_is, c.requires) in
    let same : get_or names c.self.inside.tried (string_bytes c.index.result.now) ≡ c.as_str.result.now =
    get_or-map string_bytes c.self.inside.names.items c.self.inside.tried c.index.result.now (string_bytes c.index.result.now) (omega (arith, lt, length-map c.self.inside.names.items string_bytes)) ∙ ap string_bytes (sym c.index.ensures) ∙ sym c.as_str.ensures.value in
    subst (λ n. is_plain n ≡ true) same (plain_at names c.self.inside.tried (string_bytes c.index.result.now) lt c.self.invariant.0.managed.plain)
