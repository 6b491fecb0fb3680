-- What makes a replay come to its end.
use Rattle.std.specs.Prelude.{ℕ, ◌≡◌, ◌<◌, ◌^◌, List, length, Option, Some}
use Rattle.tv_base.specs.Streams.{SourceView}
use Rattle.tv_device.specs.Locks.{Locks}
use Rattle.tv_device.specs.declared.directory.Directory.{Ghosts}
use Rattle.tv_events.specs.declared.event.Event.{Event}
use Rattle.tv_formats.specs.Files.{Reads}
use Rattle.tv_formats.specs.Schemas.{IsSchema}
use Rattle.tv_formats.specs.Sound.{IsSoundStart}
use Rattle.tv_events.specs.Script.{lines_of, AreLines}
use Rattle.tv_replay.specs.declared.replaying.Replayed.{Replayed}
use Rattle.tv_replay.specs.Replays.{IsRefusedAt}

-- each line of the text is an event's, and there are no more than are taken
abbrev pub IsScript : List ℕ → Type 0
IsScript text = (events : List Event) × AreLines (lines_of text) events × (length events < 2 ^ 32)

-- a valid schema, a valid script, which is told, and a sound start
pub record IsReady (schema : List ℕ) (script : Option (List ℕ)) (reads : Reads) (held : Locks) : Type 0 where
  pub form : List ℕ
  pub spelled : IsSchema schema form
  pub text : List ℕ
  pub told : script ≡ Some text
  pub valid : IsScript text
  pub sound : IsSoundStart form reads held

-- A valid schema, a valid script, which is told, and a sound start stand before a directory that tells its
-- content and its locks, and no call but deletes, and no read of the script, is refused.
pub record IsUndisturbed {O W C : Type 0} (g : Ghosts O W C) (before : O) (schema : List ℕ)
    (script script_now : SourceView) (result : Replayed O) : Type 0 where
  pub content : g.told.content
  pub locks : g.told.locks
  pub ready : IsReady schema script.left (g.view before).reads (g.view before).locks
  pub quiet : IsRefusedAt (g.view before) (g.view result.outside) script script_now → ⊥
