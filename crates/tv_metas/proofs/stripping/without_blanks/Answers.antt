use Rattle.std.proofs.Common.{◌++◌, sym, ap, ◌∙◌, append-nil}
use Rattle.std.proofs.lemmas.List.{drop_all}
use Rattle.tv_metas.specs.Stripping.{stripped_from}
use Rattle.tv_metas.proofs.Blanks.{from_outside}
use Rattle.tv_metas.proofs.stripping.without_blanks.Goals as goal

pub returns : goal.returns
returns c =
    sym (from_outside c.args.text.now ∙ c.loop-byte.invariant
    ∙ ap (λ l. c.loop-byte.kept.items ++ stripped_from c.loop-byte.place l) (drop_all c.loop-byte.byte-index c.args.text.now c.loop-byte-test.false)
    ∙ append-nil c.loop-byte.kept.items)
