-- What would pass 64 bits: the number of a reader, of a snapshot, of a searcher or of a collection, or the
-- length of an open file.
use Rattle.std.specs.Prelude.{ℕ, ◌≡◌, ◌≤◌, ◌^◌, ◌⊎◌, List, [], ◌∷◌, Option, Some}
use Rattle.tv_machine.specs.State.{Catalog}
use Rattle.tv_events.specs.declared.event.Event.{Event}
use Rattle.tv_events.specs.declared.event.Event.TheVariants as events
use Rattle.tv_catalog.specs.Effects.{length_after, numbers_after, published_after, searcher_after}
use Rattle.tv_catalog.specs.Kept.{KeptState}

-- a number that 64 bits can't hold
abbrev pub PassesEnd : Option ℕ → Type 0
PassesEnd number = (n : ℕ) × (number ≡ Some n) × (2 ^ 64 ≤ n)

-- one of these numbers is none that 64 bits can hold
abbrev pub SomePassesEnd : List ℕ → Type 0
SomePassesEnd [] = ⊥
SomePassesEnd (n ∷ ns) = (2 ^ 64 ≤ n) ⊎ SomePassesEnd ns

-- the number after one that an event gives which touches no file would pass 64 bits: that of a searcher, or of
-- a snapshot which was read for its reader
abbrev pub SpendsNumber : Catalog → Event → Type 0
SpendsNumber c (events.Searcher number) = SomePassesEnd (searcher_after c number)
SpendsNumber c (events.ReloadPublish number) = SomePassesEnd (published_after c number)
SpendsNumber c other = ⊥

-- the number after one that the event gives, or the length of its file, would pass 64 bits
abbrev pub IsExhausted : KeptState → Event → Type 0
IsExhausted kept event =
    SomePassesEnd (numbers_after kept event) ⊎ PassesEnd (length_after kept event)
