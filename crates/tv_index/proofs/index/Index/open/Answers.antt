use Rattle.std.proofs.Common.{◌∙◌, None, refl, sym, ap, subst}
use Rattle.tv_managed.specs.Names.{ManagedNames}
use Rattle.tv_formats.specs.Listing.{Listing}
use Rattle.tv_device.specs.ViewLaws.{reads_then}
use Rattle.tv_index.specs.Crashes.{OnlyLooks}
use Rattle.tv_index.proofs.Indexes.{loads_before}
use Rattle.tv_index.proofs.OpenedSafely.{failed_match, looks_read}
use Rattle.tv_index.proofs.index.Index.open.Goals as goal

pub returns-in-Ok-clause-opened : goal.returns-in-Ok-clause-opened
returns-in-Ok-clause-opened g c =
    let D = g.D.Directory in
    let wraps = c.in_ok-directory.ensures.wraps in
    let loaded = c.in-Ok.ensures in
    rw c.from_parts.ensures (record {
      meta = c.in-Ok.meta;
      loads = loads_before D c.args.directory c.in_ok-directory.directory wraps None c.in-Ok.meta loaded.meta;
      shows = record { settings = refl; schema = refl; kept = refl; executor = refl };
      lists = λ t. subst (λ (names : ManagedNames). Listing (D.view c.args.directory).reads names.managed) (sym loaded.frame.names) (wraps.names t);
      collections = ap (λ (names : ManagedNames). names.collections) loaded.frame.names ∙ wraps.collections;
      quiet = loaded.faults.quiet ∙ wraps.quiet;
      frame = reads_then wraps.frame loaded.frame.below;
    })

pub returns-in_err-directory-clause-safe : goal.returns-in_err-directory-clause-safe
returns-in_err-directory-clause-safe g c t = failed_match c.from_residual.result c.in_err-directory.field-0.0 _ _ c.from_residual.ensures.1 (c.in_err-directory.ensures.safe t)

pub returns-in-Ok-clause-safe : goal.returns-in-Ok-clause-safe
returns-in-Ok-clause-safe g c t = rw c.from_parts.ensures (looks_read g.D.Directory (c.in_ok-directory.ensures.safe t) c.in-Ok.ensures.frame.names (c.in-Ok.ensures.images t))

pub returns-in-Err-clause-safe : goal.returns-in-Err-clause-safe
returns-in-Err-clause-safe g c t =
    subst (λ directory. OnlyLooks g.D.Directory c.args.directory directory) (sym c.into_directory.ensures)
    (looks_read g.D.Directory (c.in_ok-directory.ensures.safe t) c.in-Err.ensures.frame.names (c.in-Err.ensures.images t)).0
