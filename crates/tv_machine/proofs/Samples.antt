-- Ids and scripts that the computed examples share.
use Rattle.std.proofs.Common.{List, [], ◌∷◌, map, codes, None}
use Rattle.tv_events.specs.declared.event.Event.{Event}
use Rattle.tv_events.specs.declared.event.Event.TheVariants as events
use Rattle.tv_formats.specs.declared.segment.SegmentComponent.TheVariants.{Postings, Positions, FastFields, FieldNorms, Terms, Store}
use Rattle.tv_machine.specs.Machine.{Turn}
use Rattle.tv_formats.proofs.Samples.{id_a}

-- a run of these events, none of whose deletes is refused
abbrev pub unrefused : List Event → List Turn
unrefused events = map (λ event. (event, [])) events

-- a segment, its postings of nine bytes, and its other files, which are empty; it is committed, and the managed names are asked for
abbrev pub first_script : List Turn
first_script = unrefused (
    events.Segment id_a
    ∷ events.Open id_a Postings
    ∷ events.Write id_a Postings (codes "123456789")
    ∷ events.Seal id_a Postings
    ∷ events.Open id_a Positions
    ∷ events.Seal id_a Positions
    ∷ events.Open id_a Terms
    ∷ events.Seal id_a Terms
    ∷ events.Open id_a Store
    ∷ events.Seal id_a Store
    ∷ events.Open id_a FastFields
    ∷ events.Seal id_a FastFields
    ∷ events.Open id_a FieldNorms
    ∷ events.Seal id_a FieldNorms
    ∷ events.Docs id_a 3
    ∷ events.Commit None (id_a ∷ [])
    ∷ events.Managed
    ∷ [])
