use Rattle.std.proofs.Common.{◌≡◌, ◌==◌, ℕ, [], ap, ◌∙◌}
use Rattle.tv_formats.specs.Checksum.{crc32}
use Rattle.tv_managed.proofs.reading.is_right.Goals as goal

pub returns-clause-says : goal.returns-clause-says
returns-clause-says c =
    let sum : c.finish.result ≡ crc32 c.args.body =
    c.finish.ensures c.as_slice.result.now (c.update.ensures [] c.start-checksum.ensures) ∙ ap crc32 (c.as_slice.ensures.bytes ∙ c.in_ok-bytes.ensures.bytes) in
    ap (λ (n : ℕ). c.args.crc == n) sum
