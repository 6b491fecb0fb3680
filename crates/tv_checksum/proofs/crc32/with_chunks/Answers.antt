use Rattle.std.proofs.Common.{[], get_or, sym, ap, ◌∙◌}
use Rattle.tv_checksum.specs.Crc32.{register_with}
use Rattle.tv_checksum.proofs.Registers.{with-none}
use Rattle.tv_checksum.proofs.Pieces.{piece_more}
use Rattle.tv_checksum.proofs.crc32.with_chunks.Goals as goal

pub loop-chunk-init : goal.loop-chunk-init
loop-chunk-init c = sym (with-none c.args.register)

pub loop-chunk-preserved : goal.loop-chunk-preserved
loop-chunk-preserved c =
    let chunks = c.args.chunks.now in
    let index = c.loop-chunk.chunk-index in
    c.with_sixteen-register.ensures
    ∙ ap (λ r. register_with r (get_or chunks index [])) c.loop-chunk.invariant
    ∙ piece_more c.args.register chunks index c.loop-chunk-test.true
