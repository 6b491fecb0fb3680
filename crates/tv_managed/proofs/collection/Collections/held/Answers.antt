use Rattle.std.proofs.Common.{rules, ◌≡◌, ◌||◌, ◌∷◌, [], Bool, false, List, map, sym, ap, ◌∙◌, arith, refl}
use Rattle.std.specs.Borrow.{Bor}
use Rattle.std.specs.List.{list_any}
use Rattle.std.specs.Map.{values_of}
use Rattle.std.proofs.lemmas.List.Folds.{list_any-append}
use Rattle.std.proofs.lemmas.Map.Iter.{iter_end}
use Rattle.tv_formats.specs.Names.{has}
use Rattle.tv_formats.specs.Collections.{Collection, held, taken}
use Rattle.tv_formats.proofs.CollectedNames.{has_append}
use Rattle.tv_managed.specs.Collecting.{names_of, texts_of}
use Rattle.tv_managed.proofs.Collections.{held_by}
use Rattle.tv_managed.proofs.collection.Collections.held.Goals as goal

both : (a b c d : Bool) → a ≡ c → b ≡ d → (a || b) ≡ (c || (d || false))
both a b c d p q = grind arith

lent : (p : Collection → Bool) (cs : List (Bor Collection)) → list_any (λ c. p c.now) cs ≡ list_any p (map (λ c. c.now) cs)
lent p [] = refl
lent p (c ∷ cs) = ap (λ b. p c.now || b) (lent p cs)

pub loop-collection-preserved : goal.loop-collection-preserved
loop-collection-preserved c n =
    let names = names_of c.names.result.now in
    c.in_ok-put_names.ensures n
    ∙ has_append (texts_of c.loop-collection.names.keys) names n
    ∙ both _ _ _ _ (c.loop-collection.invariant n) (c.names.ensures.taken n)
    ∙ sym (list_any-append (λ d. has (taken d.now) n) c.loop-collection.yielded (c.in-Some.collection ∷ []))

pub returns : goal.returns
returns c n =
    let all : map (λ d. d.now) c.loop-collection.yielded ≡ values_of c.self.inside.unfinished.entries = search (rules, iter_end) in
    c.loop-collection.invariant n
    ∙ lent (λ d. has (taken d) n) c.loop-collection.yielded
    ∙ ap (list_any (λ d. has (taken d) n)) all
    ∙ sym (held_by c.self.inside.unfinished.entries n)
    ∙ ap (λ v. has (held v) n) c.self.view_is
