use Rattle.std.proofs.Common.{refl, rules, sym, subst}
use Rattle.tv_formats.proofs.Results.{handed_on}
use Rattle.tv_store.specs.Making.{FindsNone}
use Rattle.tv_store.proofs.Unfound.{finds_none, wants_catalog}
use Rattle.tv_store.proofs.opening.find_files.Goals as goal

pub returns-in_err-directory-clause-none : goal.returns-in_err-directory-clause-none
returns-in_err-directory-clause-none g c =
    let refused = c.in_err-directory.field-0.0 in
    let failed = c.in_err-directory.ensures in
    handed_on c.from_residual.result refused (λ r. FindsNone g.O.Directory c.args.outside c.args.schema.now r.directory r.error) c.from_residual.ensures.1
    (finds_none g.O.Directory c.args.outside c.args.schema.now refused.directory refused.error failed.refused (λ t. (failed.safe t).makes) failed.spares)

pub returns-clause-none : goal.returns-clause-none
returns-clause-none g c =
    let opened = c.in_ok-directory.ensures in
    subst (λ e. FindsNone g.O.Directory c.args.outside c.args.schema.now c.into_directory.result e) (sym c.from.ensures)
    (wants_catalog g.O.Directory c.args.outside c.args.schema.now _ _ c.into_directory.result c.into_directory.ensures opened.opened opened.safe)

pub returns-in-Ok-clause-found : goal.returns-in-Ok-clause-found
returns-in-Ok-clause-found g c = rw c.new.ensures (rw c.from_parts-index.ensures (record {
  schema_is = search rules;
  is_commit = search rules;
  opened = search rules;
  finds = search rules;
  leaves = search rules;
  lists = search rules;
  open_files = refl;
  left = refl;
  collections = search rules;
  unlocked = refl;
  quiet = search rules;
  notes = search rules;
  frame = search rules;
  makes = c.in_ok-directory.ensures.safe;
}))
