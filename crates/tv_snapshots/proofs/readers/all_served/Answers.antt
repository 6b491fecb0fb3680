use Rattle.std.proofs.Common.{rules, ◌≡◌, ◌∙◌, [], ap, sym}
use Rattle.std.proofs.lemmas.Map.Iter.{iter_end}
use Rattle.tv_snapshots.proofs.Reloading.{put_all_served, put_served}
use Rattle.tv_snapshots.proofs.readers.all_served.Goals as goal

pub returns : goal.returns
returns c =
    let none : c.loop-number.number-iterator ≡ [] = search (rules, iter_end) in
    ap (put_served c.args.shown.now c.loop-number.all.entries) (sym none) ∙ c.loop-number.invariant ∙ put_all_served c.args.shown.now c.args.readers.now.entries c.len-count.ensures.ordered
