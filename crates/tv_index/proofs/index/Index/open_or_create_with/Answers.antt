use Rattle.std.proofs.Common.{refl}
use Rattle.tv_index.proofs.OpenedSafely.{failed_match}
use Rattle.tv_index.proofs.index.Index.open_or_create_with.Goals as goal

pub returns-clause-opened : goal.returns-clause-opened
returns-clause-opened g c =
    rw c.from_parts.ensures (record {
      meta = c.in_ok-directory.meta;
      opens = c.in_ok-directory.ensures.opened;
      shows = record { settings = refl; schema = refl; kept = refl; executor = refl };
    })

pub returns-in_err-directory-clause-safe : goal.returns-in_err-directory-clause-safe
returns-in_err-directory-clause-safe g c t = failed_match c.from_residual.result c.in_err-directory.field-0.0 _ _ c.from_residual.ensures.1 (c.in_err-directory.ensures.safe t)

pub returns-clause-safe : goal.returns-clause-safe
returns-clause-safe g c t = rw c.from_parts.ensures (c.in_ok-directory.ensures.safe t)
