use Rattle.std.proofs.Common.{ℕ, ◌/◌, List, length, sym, ap, ap₂, ◌∙◌}
use Rattle.std.specs.List.{concat}
use Rattle.tv_checksum.specs.Crc32.{register_with}
use Rattle.tv_checksum.proofs.Pieces.{by_pieces, after-append}
use Rattle.tv_checksum.proofs.crc32.Crc32Checksum.update.Goals as goal

pub returns : goal.returns
returns c taken was =
    let bytes = c.args.bytes.now in
    let start = c.args.self.now.register in
    let front = ap (λ (ps : List (List ℕ)). register_with start (concat ps)) c.as_chunks.ensures.front in
    c.with_bytes-self.ensures
    ∙ ap₂ register_with (c.with_chunks.ensures ∙ front) c.as_chunks.ensures.back
    ∙ by_pieces start 16 (length bytes / 16) bytes
    ∙ ap (λ r. register_with r bytes) was
    ∙ sym (after-append taken bytes)
