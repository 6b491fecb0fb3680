-- What one kind of file of a segment takes.
use Rattle.tv_formats.specs.declared.segment.SegmentComponent.{SegmentComponent}
use Rattle.tv_formats.specs.declared.segment.SegmentComponent.TheVariants as components
use Rattle.tv_framing.specs.Segments.{SegmentSpace}
use Rattle.tv_framing.specs.declared.component_usage.ComponentSpaceUsage.{ComponentSpaceUsage}
use Rattle.tv_framing.specs.declared.component_usage.ComponentSpaceUsage.TheVariants.{PerField, Store, Basic}

-- the space of a component in the report of a segment
abbrev pub component_of : SegmentComponent → SegmentSpace → ComponentSpaceUsage
component_of components.Postings s = PerField s.postings
component_of components.Positions s = PerField s.positions
component_of components.FastFields s = PerField s.fast_fields
component_of components.FieldNorms s = PerField s.fieldnorms
component_of components.Terms s = PerField s.termdict
component_of components.Store s = Store s.store
component_of components.Delete s = Basic s.deletes
