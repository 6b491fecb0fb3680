use Rattle.std.proofs.Common.{◌++◌, ◌∷◌, [], None, get_or, map, ap, sym, ◌∙◌, arith}
use Rattle.std.proofs.lemmas.List.FromFn.{map-range_with_len_more}
use Rattle.std.specs.List.{range_with_len}
use Rattle.tv_framing.specs.Usage.{together}
use Rattle.tv_framing.proofs.field_usage.joined_parts.Goals as goal

pub loop-i-preserved : goal.loop-i-preserved
loop-i-preserved c =
    c.in_ok-push.ensures.items
    ∙ ap (λ l. l ++ c.together.result ∷ []) c.loop-i.invariant
    ∙ ap (λ x. map (λ i. together (get_or c.args.one.now i None) (get_or c.args.other.now i None)) (range_with_len 0 c.loop-i.i) ++ x ∷ []) (c.together.ensures ∙ ap (λ x. together x c.part_at-in-loop-i.result) c.part_at.ensures ∙ ap (together (get_or c.args.one.now c.loop-i.i None)) c.part_at-in-loop-i.ensures)
    ∙ sym (map-range_with_len_more (λ i. together (get_or c.args.one.now i None) (get_or c.args.other.now i None)) 0 c.loop-i.i c.loop-i.i (omega arith))
