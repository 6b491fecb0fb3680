-- How often the outside of a shared store refused a call.
use Rattle.std.specs.Prelude.{◌≡◌, ◌⊎◌}
use Rattle.tv_events.specs.declared.event.Event.{Event}
use Rattle.tv_formats.specs.Files.{Rose}
use Rattle.tv_shared.specs.Names.{Name}
use Rattle.tv_stepping.specs.declared.ending.Ending.TheVariants.{Open, Failed}
use Rattle.tv_stepping.specs.declared.event_store.EventStore.{Ghosts}

-- The store's count at its opening is that of its name, and so is the count of now as long as it is open. Where
-- it was opened from a sound start, it says that it failed only where a call was refused since, or where with an
-- event a number would have been spent.
pub record KeepsCount {S : Type 0} (g : Ghosts S) (n : Name) (store : S) : Type 0 where
  pub since : g.since store ≡ n.faults
  pub quiet : g.stands store ≡ Open → g.faults store ≡ n.faults
  pub sound : n.sound → g.sound store
  pub failed : n.sound → g.stands store ≡ Failed
      → Rose n.faults (g.faults store) ⊎ ((before : S) × (event : Event) × g.spent before event)
