use Rattle.std.proofs.Common.{inl, inr, subst, sym}
use Rattle.tv_index.specs.Folders.{IsUnmade}
use Rattle.tv_index.proofs.InFolders.{makes, unmade}
use Rattle.tv_index.proofs.Openings.{failed_as}
use Rattle.tv_index.proofs.index_builder.IndexBuilder.create_where_none.Goals as goal

pub returns-in_err-refuse_index-clause-err : goal.returns-in_err-refuse_index-clause-err
returns-in_err-refuse_index-clause-err g c =
    failed_as c.from_residual.result c.in_err-refuse_index.field-0.0 _ c.from_residual.ensures.1 (c.refuse_index.new.directory, inl c.in_err-refuse_index.ensures.some)

pub returns-in-Ok-clause-made : goal.returns-in-Ok-clause-made
returns-in-Ok-clause-made g c =
    let none = c.in_ok-refuse_index.ensures.none in
    makes g.D.Directory c.args.directory c.refuse_index.new.directory none.frame none.quiet c.args.self none.absent c.in-Ok.index c.in-Ok.ensures.created

pub returns-in-Err-clause-err : goal.returns-in-Err-clause-err
returns-in-Err-clause-err g c =
    let none = c.in_ok-refuse_index.ensures.none in
    let refused = c.in-Err.refused in
    let why = unmade g.D.Directory c.args.directory c.refuse_index.new.directory none.frame none.quiet c.args.self none.absent refused.directory refused.error c.in-Err.ensures.refused in
    (refused.directory, inr (subst (IsUnmade g.D.Directory c.args.self c.args.directory refused.directory) (sym c.error_of.ensures) why))
