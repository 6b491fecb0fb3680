use Rattle.std.proofs.Common.{◌≡◌, ◌++◌, ap, ◌∙◌}
use Rattle.std.specs.Slice.Iter.{iter_rest}
use Rattle.std.proofs.lemmas.Iterator.{YieldsList-from_slice}
use Rattle.std.proofs.lemmas.Iterator.Consumers.{YieldsList-end}
use Rattle.tv_formats.specs.Segments.{components}
use Rattle.tv_snapshots.proofs.FileNames.{required_in, required_of_all}
use Rattle.tv_snapshots.proofs.names.push_required.Goals as goal

pub returns : goal.returns
returns c =
    let start : iter_rest c.into_iter-component-iterator.result ≡ components = cc in
    let all = YieldsList-end (YieldsList-from_slice components start) c.loop-component.yielded _ c.loop-component.yielded_by _ _ c.in-None.is c.next.ensures.steps in
    c.loop-component.invariant ∙ ap (λ cs. c.args.names.now.items ++ required_in c.args.id c.args.segment cs) all.0
    ∙ ap (λ names. c.args.names.now.items ++ names) (required_of_all c.args.id c.args.segment)
