use Rattle.std.proofs.Common.{◌≡◌, suc, ◌+◌, get_or, [], ap, ◌∙◌, arith}
use Rattle.tv_checksum.specs.Crc32.{after_zeros}
use Rattle.tv_checksum.specs.declared.tables.TheConstants.{TABLES}
use Rattle.tv_checksum.proofs.Entries.{entry_at}
use Rattle.tv_checksum.proofs.crc32.entry.Goals as goal

pub returns : goal.returns
returns c =
    let more : suc c.args.zeros ≡ c.args.zeros + 1 = omega arith in
    ap (λ i. get_or (get_or TABLES c.args.zeros []) i 0) c.from.ensures
    ∙ entry_at c.args.zeros c.args.register c.requires (omega arith)
    ∙ ap (λ n. after_zeros n c.args.register) more
