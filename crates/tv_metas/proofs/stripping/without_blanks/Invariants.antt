use Rattle.std.proofs.Common.{◌≡◌, ◌++◌, drop}
use Rattle.tv_metas.specs.declared.stripping.Place.TheVariants.{Outside}
use Rattle.tv_metas.specs.Stripping.{stripped_from}
use Rattle.tv_metas.proofs.stripping.without_blanks.Given as goal

abbrev pub invariant-loop-byte : goal.invariant-loop-byte
invariant-loop-byte l = stripped_from Outside l.text ≡ l.kept.items ++ stripped_from l.place (drop l.byte-index l.text)
