use Rattle.std.proofs.Common.{ap, sym, ◌∙◌, flat_map}
use Rattle.std.specs.Str.Iter.{lines_rest}
use Rattle.std.proofs.lemmas.Iterator.Consumers.{YieldsList-end}
use Rattle.std.proofs.lemmas.Iterator.Splits.{YieldsList-from_lines}
use Rattle.std.proofs.lemmas.List.Folds.{flat_map-map}
use Rattle.tv_formats.specs.Checksum.{crc32}
use Rattle.tv_files.proofs.file_watcher.checksum_of_lines.Goals as goal

pub returns : goal.returns
returns c =
    let whole = ap lines_rest c.into_iter-line-iterator.ensures.into_iter_gives ∙ c.lines-line-items.ensures.rest in
    let every = YieldsList-end (YieldsList-from_lines c.args.text.now whole) c.loop-line.yielded _ c.loop-line.yielded_by _ _ c.in-None.is c.next.ensures.steps in
    c.finish.ensures (flat_map (λ line. line.now) c.loop-line.yielded) c.loop-line.invariant ∙ ap crc32 (sym (flat_map-map (λ line. line) (λ line. line.now) c.loop-line.yielded) ∙ ap (flat_map (λ line. line)) every.0)
