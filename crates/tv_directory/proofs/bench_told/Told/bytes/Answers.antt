use Rattle.std.proofs.Common.{sym}
use Rattle.tv_directory.proofs.CutTexts.{all_pieces}
use Rattle.tv_directory.proofs.bench_told.Told.bytes.Goals as goal

pub returns : goal.returns
returns c =
    rw (c.in_ok-from_slice.ensures.items, c.as_slice.ensures.value, ← c.self.view_is)
    (sym (all_pieces c.self.inside.pieces.items c.self.inside.text.items c.self.invariant))
