use Rattle.std.proofs.Common.{rules, ◌≡◌, map}
use Rattle.std.proofs.lemmas.Map.Iter.{iter_end}
use Rattle.tv_snapshots.proofs.FileNames.{all_gathered}
use Rattle.tv_snapshots.proofs.names.required_files.Goals as goal

pub returns : goal.returns
returns c =
    let all : map (λ e. (e.0.now, e.1.now)) c.loop-id.yielded ≡ c.args.segments.now.entries = search (rules, iter_end) in
    all_gathered c.loop-id.names.items (λ e. e.0.now) (λ e. e.1.now) c.loop-id.yielded c.args.segments.now.entries c.loop-id.invariant all
