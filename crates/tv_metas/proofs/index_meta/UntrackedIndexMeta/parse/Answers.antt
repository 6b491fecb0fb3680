use Rattle.std.proofs.Common.{option_map, subst}
use Rattle.tv_formats.specs.Meaning.{MeansNothing}
use Rattle.tv_metas.specs.declared.read_error.ReadError.{ReadError}
use Rattle.tv_metas.specs.Reads.{IfCorrupt}
use Rattle.tv_metas.proofs.index_meta.UntrackedIndexMeta.parse.Goals as goal

pub returns-in-Err-Corrupt-clause-err : goal.returns-in-Err-Corrupt-clause-err
returns-in-Err-Corrupt-clause-err c =
    c.corrupt.ensures _ c.args.bytes.now (subst (λ (e : ReadError). IfCorrupt e
    (MeansNothing (option_map (λ s. s.now) c.args.expected) c.args.bytes.now)) c.in-Err-Corrupt.field-0-is c.in-Err-Corrupt.ensures)
