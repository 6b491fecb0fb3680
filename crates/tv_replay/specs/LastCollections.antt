-- Scripts that end in a collection of an index that was just opened, and what their replay leaves.
use Rattle.std.specs.Prelude.{ℕ, ◌≡◌, ◌<◌, ◌⊎◌, ◌&&◌, Bool, List, [], ◌∷◌, ◌++◌, codes, is_some}
use Rattle.tv_formats.specs.Names.{has}
use Rattle.tv_events.specs.declared.event.Event.TheVariants as events
use Rattle.tv_machine.specs.State.{file_at}
use Rattle.tv_machine.specs.Living.{living}
use Rattle.tv_machine.specs.Index.{IsFileOf, OpenedIndex}
use Rattle.tv_machine.specs.Machine.{Turn, after, all_refused, events_of}
use Rattle.tv_events.specs.Script.{AreLines, lines_of}
use Rattle.tv_device.specs.View.{View}
use Rattle.tv_device.specs.declared.directory.Directory.{Ghosts}

-- the last line of the script is `gc`, and it is the only one, or the line before it is `reopen`
abbrev pub EndsCollecting : List ℕ → Type 0
EndsCollecting script =
    (lines_of script ≡ codes "gc" ∷ [])
    ⊎ ((front : List (List ℕ)) × (lines_of script ≡ front ++ codes "reopen" ∷ codes "gc" ∷ []))

-- No delete was refused: the count of those that were stands still, below the end of 64 bits.
pub record RefusesNoDelete {W : Type 0} (before now : View W) : Type 0 where
  pub still : now.refusals ≡ before.refusals
  pub below : now.refusals < 18446744073709551615

-- A run on the whole script, the last event of which is a collection, left exactly the files that are needed.
pub record LeavesNeeded {O W C : Type 0} (g : Ghosts O W C) (before now : O)
    (schema script : List ℕ) : Type 0 where
  -- the index that stood in the directory, or a new one where there was none: the run starts at its state
  pub index : OpenedIndex schema (g.view before).reads
  -- the run, whose events are those of the script
  pub turns : List Turn
  pub whole : AreLines (lines_of script) (events_of turns)
  -- in which no delete failed
  pub none_failed : all_refused turns ≡ 0
  -- what of it comes before the collection
  pub first : List Turn
  pub outcomes : List Bool
  pub split : turns ≡ first ++ (events.Gc, outcomes) ∷ []
  -- of the files that stood there then, those are left that the last state needs, and no other
  pub left : (n : List ℕ) → IsFileOf n → is_some ((g.view now).reads n)
      ≡ (is_some (file_at (after index.state first) n) && has (living (after index.state turns).catalog) n)
