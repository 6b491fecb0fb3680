use Rattle.std.proofs.Common.{[], ◌∷◌, get_or, sym, ap, ◌∙◌}
use Rattle.tv_checksum.specs.Crc32.{register_with}
use Rattle.tv_checksum.proofs.Registers.{with-none}
use Rattle.tv_checksum.proofs.Pieces.{byte_more}
use Rattle.tv_checksum.proofs.crc32.with_bytes.Goals as goal

pub loop-byte-init : goal.loop-byte-init
loop-byte-init c = sym (with-none c.args.register)

pub loop-byte-preserved : goal.loop-byte-preserved
loop-byte-preserved c =
    let bytes = c.args.bytes.now in
    let index = c.loop-byte.byte-index in
    c.with_byte-register.ensures
    ∙ ap (λ r. register_with r (get_or bytes index 0 ∷ [])) c.loop-byte.invariant
    ∙ byte_more c.args.register bytes index c.loop-byte-test.true
