use Rattle.std.proofs.Common.{◌++◌, codes, List, ℕ, sym, subst}
use Rattle.std.specs.Fmt.{decimal}
use Rattle.std.specs.Str.Iter.{HasSubslice}
use Rattle.std.proofs.lemmas.Result.{IfOk-weaker}
use Rattle.tv_metas.specs.Metas.{commit_of, settings_of}
use Rattle.tv_metas.proofs.Promised.{printed_null}
use Rattle.tv_metas.proofs.laws.print_puts_null_for_no_deletes.Goals as goal

pub returns : goal.returns
returns c =
    let meta = c.args.meta.now in
    IfOk-weaker c.print.result _ _ (λ text is segment among none.
    subst (λ (bytes : List ℕ). HasSubslice bytes (codes ",\"max_doc\":" ++ decimal segment.1.max_doc ++ codes ",\"deletes\":null}")) (sym is)
    (printed_null (settings_of meta) meta.schema (commit_of meta) segment among none)) c.print.ensures.text
