use Rattle.std.proofs.Common.{rules, ap, map, ◌∙◌, ◌++◌, ◌∷◌, []}
use Rattle.std.proofs.lemmas.List.{map-append}
use Rattle.tv_reader.proofs.Searches.{enumerate_more}
use Rattle.tv_reader.proofs.search.in_places.Goals as goal

pub loop-i-preserved : goal.loop-i-preserved
loop-i-preserved c =
    let shown = c.index-readers-i.result in
    ap (map (λ at. (at.0, at.1.now))) c.in_ok-push.ensures.items ∙ map-append _ c.loop-i.places.items _
    ∙ ap (λ l. l ++ (c.loop-i.i, shown) ∷ []) c.loop-i.invariant ∙ enumerate_more c.args.readers.now c.loop-i.i shown (search rules) c.index-readers-i.is
