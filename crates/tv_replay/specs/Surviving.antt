-- What a crash may leave of a replay at each of its moments, whatever the replay answers.
use Rattle.std.specs.Prelude.{ℕ, ◌≡◌, List, Option, Some}
use Rattle.std.specs.List.{AllByRecursion}
use Rattle.tv_formats.specs.Schemas.{stripped}
use Rattle.tv_formats.specs.Sound.{IsSoundDirectory}
use Rattle.tv_machine.specs.State.{State}
use Rattle.tv_machine.specs.SoundStates.{IsWhole}
use Rattle.tv_machine.specs.Index.{OpenedIndex}
use Rattle.tv_machine.specs.Machine.{Turn, events_of}
use Rattle.tv_events.specs.Script.{Fits}
use Rattle.tv_crashes.specs.Runs.{OpensUntold, ReplaySurvives, RunsSafely}
use Rattle.tv_device.specs.declared.directory.Directory.{Ghosts}
use Rattle.tv_store.specs.Durable.{IsDurable, store_files}
use Rattle.tv_store.specs.Kept.{IsHeld, StoreState}
use Rattle.tv_store.specs.Surviving.{seen_of}
use Rattle.tv_replay.specs.Replays.{BeginsWith}

-- Some first events of a script were applied to a store that is open, the last of them perhaps in part: from
-- each whole state that was held, where a crash can't hurt the files, this is a run of these events, of which
-- perhaps not every line was told.
pub record RunsInPart {O W C : Type 0} (g : Ghosts O W C) (old new : StoreState O)
    (script : Option (List ℕ)) : Type 0 where
  pub turns : List Turn
  pub fits : AllByRecursion Fits (events_of turns)
  pub lines : (text : List ℕ) → script ≡ Some text → BeginsWith text (events_of turns)
  pub runs : g.tells_images → g.told.heard → (s : State) → IsHeld g old s → IsWhole s
      → IsDurable g (store_files old) s
      → RunsSafely old.kept.form (seen_of g old.outside) (seen_of g new.outside) s turns

-- A replay from a sound directory, whatever it answers, is a run of some first events of the script, of which
-- perhaps not every line was told. From each index to which the directory opened, `ReplaySurvives` says what
-- a crash leaves at each moment, and `OpensUntold` where it opened to none. Each image that a crash may leave
-- at the end is sound again.
pub record SurvivesCrashes {O W C : Type 0} (g : Ghosts O W C) (before now : O) (schema : List ℕ)
    (script : Option (List ℕ)) : Type 0 where
  -- the events, each with the outcomes of the deletes that it asked for; they are some that a script may have
  pub turns : List Turn
  pub fits : AllByRecursion Fits (events_of turns)
  -- where the script is told, its first lines are those of these events
  pub lines : (text : List ℕ) → script ≡ Some text → BeginsWith text (events_of turns)
  -- before the opening line a crash leaves the commit of the start, or that of a new index; from then on that
  -- of the events whose lines are told, or that of the event in progress; each undotted file is listed
  pub each : (index : OpenedIndex schema (g.view before).reads)
      → ReplaySurvives index.form (seen_of g before) (seen_of g now) index.state turns
  -- where it opened to none, no whole line was told, and a crash leaves what it leaves before an opening line
  pub untold : (OpenedIndex schema (g.view before).reads → ⊥)
      → OpensUntold (stripped schema) (seen_of g before) (seen_of g now)
  -- whatever a crash leaves at the end is sound, and no lock is held
  pub sound : IsSoundDirectory (stripped schema) (g.disk now) (g.view now).locks

-- A replay whose directory tells what a crash may leave, its lines and its locks, and was sound under the
-- schema that these bytes spell, leaves to a crash what `SurvivesCrashes` says.
abbrev pub SurvivesReplay : {O W C : Type 0} → Ghosts O W C → (before now : O) → (schema : List ℕ)
    → (script : Option (List ℕ)) → Type 0
SurvivesReplay g before now schema script =
    g.tells_images → g.told.heard → g.told.locks
    → IsSoundDirectory (stripped schema) (g.disk before) (g.view before).locks
    → SurvivesCrashes g before now schema script
