use Rattle.std.proofs.Common.{◌≡◌, ◌++◌, map, ap, ◌∙◌}
use Rattle.std.specs.Slice.Iter.{iter_rest}
use Rattle.std.proofs.lemmas.Iterator.{YieldsList-from_slice}
use Rattle.std.proofs.lemmas.Iterator.Consumers.{YieldsList-end}
use Rattle.tv_formats.specs.Segments.{components, name_of}
use Rattle.tv_metas.proofs.naming.push_names.Goals as goal

pub returns : goal.returns
returns c =
    let start : iter_rest c.into_iter-component-iterator.result ≡ components = cc in
    let all = YieldsList-end (YieldsList-from_slice components start) c.loop-component.yielded _
    c.loop-component.yielded_by _ _ c.in-None.is c.next.ensures.steps in
    c.loop-component.invariant ∙ ap (λ cs. c.args.names.now.items ++ map (name_of c.args.id c.args.segment.deletes) cs) all.0
