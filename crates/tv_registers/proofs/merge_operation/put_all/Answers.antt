use Rattle.std.proofs.Common.{◌≡◌, ◌||◌, ◌++◌, ◌+◌, ◌∷◌, [], ℕ, List, take, ap, sym, ◌∙◌, arith}
use Rattle.std.proofs.lemmas.List.{take_more}
use Rattle.tv_formats.proofs.CollectedNames.{has_append}
use Rattle.tv_formats.proofs.Entries.{has_put}
use Rattle.tv_formats.specs.Names.{has, is}
use Rattle.tv_registers.proofs.merge_operation.put_all.Goals as goal

pub loop-id-preserved : goal.loop-id-preserved
loop-id-preserved c id =
    let ids = c.args.ids.now in
    let i = c.loop-id.id-index in
    let one = c.id-item.result in
    let more : take (i + 1) ids ≡ take i ids ++ one ∷ [] = take_more ids i one c.loop-id-test.true ∙ ap (λ (k : List ℕ). take i ids ++ k ∷ []) (sym c.id-item.is) in
    let put : has c.insert.new.self.keys id ≡ (is one id || has c.loop-id.all.keys id) = ap (λ (keys : List (List ℕ)). has keys id) c.in_ok-insert.ensures.keys ∙ has_put c.loop-id.all.keys one id in
    let both : has (take (i + 1) ids) id ≡ (has (take i ids) id || has (one ∷ []) id) = ap (λ (l : List (List ℕ)). has l id) more ∙ has_append (take i ids) (one ∷ []) id in
    grind (arith, put, both, c.loop-id.invariant id)
