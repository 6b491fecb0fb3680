-- Which of the numbers and lengths that an event makes it spends.
use Rattle.std.proofs.Common.{◌≡◌, List, ℕ, Some, inl}
use Rattle.tv_machine.specs.Machine.{catalog_step}
use Rattle.tv_machine.specs.State.{Catalog, StepResult}
use Rattle.tv_events.specs.declared.event.Event.{Event}
use Rattle.tv_events.specs.declared.event.Event.TheVariants as events
use Rattle.tv_catalog.specs.Exhausted.{IsExhausted, SpendsNumber}
use Rattle.tv_catalog.specs.Kept.{KeptState}
use Rattle.tv_catalog.proofs.SharedLaws.{only_numbers}

-- what an event's method calls spent is what makes the event exhausted
abbrev pub IsSpentBy : (spent exhausted : Type 0) → Type 0
IsSpentBy spent exhausted = (spent → exhausted) × (exhausted → spent)

-- an event whose searcher or snapshot would get the last number is exhausted
pub spends_number : (kept : KeptState) (event : Event) → SpendsNumber kept.catalog event → IsExhausted kept event
spends_number kept (events.Searcher number) h = inl h
spends_number kept (events.ReloadPublish number) h = inl h
spends_number kept other h = absurd h

-- and of the events that touch no file no other is
pub number_spent : (kept : KeptState) (managed : List (List ℕ)) (event : Event) (known : StepResult Catalog) → catalog_step kept.catalog managed event ≡ Some known → IsExhausted kept event → SpendsNumber kept.catalog event
number_spent kept managed (events.Searcher number) known e spent = only_numbers spent
number_spent kept managed (events.ReloadPublish number) known e spent = only_numbers spent
number_spent kept managed events.Deliver known e spent = absurd cc
number_spent kept managed (events.Reader policy) known e spent = absurd cc
number_spent kept managed (events.Reload number) known e spent = absurd cc
number_spent kept managed events.Gc known e spent = absurd cc
number_spent kept managed events.GcBegin known e spent = absurd cc
number_spent kept managed (events.Write id component bytes) known e spent = absurd cc
number_spent kept managed other known e spent = let never : ⊥ = only_numbers spent in absurd never
