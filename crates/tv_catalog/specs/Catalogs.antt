-- The events that touch no file.
use Rattle.std.specs.Prelude.{◌<◌, ◌^◌, Result, IfErr, OnOk}
use Rattle.tv_base.specs.declared.error.TantivyError.{TantivyError}
use Rattle.tv_base.specs.declared.error.TantivyError.TheVariants as errors
use Rattle.tv_formats.specs.Ids.{IsId}
use Rattle.tv_events.specs.declared.event.Event.{Event}
use Rattle.tv_events.specs.declared.event.Event.TheVariants as events

-- an id has sixteen bytes, and a number of documents 32 bits
abbrev pub FitsCatalog : Event → Type 0
FitsCatalog (events.Segment id) = IsId id
FitsCatalog (events.Docs id n) = IsId id × (n < 2 ^ 32)
FitsCatalog other = Unit {0}

-- an event that touches no file fails where memory was wanted, or where a number of a searcher or of a snapshot
-- would pass 64 bits, which is `spent`
abbrev pub CatalogCause : (spent : Type 0) → TantivyError → Type 0
CatalogCause spent errors.Memory = Unit {0}
CatalogCause spent errors.Exhausted = spent
CatalogCause spent other = ⊥

-- An event that touches no file fails for such a cause; and where it is done, no number passes 64 bits, which
-- is `spent`.
pub record CatalogFaults {A : Type 0} (spent : Type 0) (result : Result A TantivyError) : Type 0 where
  pub fits : OnOk result (spent → ⊥)
  pub cause : IfErr result (CatalogCause spent)
