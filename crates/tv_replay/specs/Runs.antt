-- What a run of the program does.
use Rattle.std.specs.Prelude.{ℕ, ◌≡◌, ◌≢◌, ◌<◌, ◌≤◌, ◌⊎◌, Bool, true, false, List, [], ◌∷◌, ◌++◌, None, Some, IsSome, codes}
use Rattle.tv_base.specs.Streams.{SourceView}
use Rattle.tv_base.specs.declared.error.TantivyError.{TantivyError}
use Rattle.tv_base.specs.declared.error.TantivyError.TheVariants as errors
use Rattle.tv_formats.specs.Files.{Rose}
use Rattle.tv_device.specs.Images.{KeepsDisk}
use Rattle.tv_device.specs.Telling.{TellsPart}
use Rattle.tv_device.specs.View.{View, Told, OnlyTells}
use Rattle.tv_device.specs.declared.directory.Directory.{Ghosts}
use Rattle.tv_store.specs.Telling.{TellsLine}
use Rattle.tv_replay.specs.declared.replaying.Tally.{Tally}
use Rattle.tv_replay.specs.ErrorLines.{error_line}
use Rattle.tv_replay.specs.Completeness.{IsReady}
use Rattle.tv_replay.specs.PlaceView.{PlaceTold, PlaceView, KeepsFolders, KeepsTexts, SaysPart}
use Rattle.tv_replay.specs.Commands.{generate_words, most_commits, replay_words}
use Rattle.tv_replay.specs.Summaries.{IsSummaryOf}
use Rattle.tv_replay.specs.Replays.{Replays, ReplayFrame, IsReadOut, IsQuietAt, FailsReplay, StopsReplay, replay_call}
use Rattle.tv_replay.specs.Surviving.{SurvivesReplay}

-- what is said where the words are others
abbrev pub usage_line : List ℕ
usage_line =
    codes "usage: tv replay FOLDER SCHEMA | space FOLDER SCHEMA | generate N"
    ++ codes " | race FOLDER SCHEMA HANDLES SCRIPT.."

-- what is said of a schema that the place refused
abbrev pub schema_line : List ℕ
schema_line = codes "error io"

-- what is said of a folder that the place refused
abbrev pub folder_line : List ℕ
folder_line = codes "error folder"

-- what is said where the place refused the summary of a generated script
abbrev pub summary_refusal : List ℕ
summary_refusal = codes "error io"

-- what is told or said where memory was wanted
abbrev pub memory_line : List ℕ
memory_line = codes "error memory"

-- a line was said with its line feed; or the place refused it, and a part of it was said
abbrev pub SaysLine : {O : Type 0} → PlaceTold → (old new : PlaceView O) → (line : List ℕ) → Type 0
SaysLine told old new line =
    ((new.faults ≡ old.faults) × (told.said → new.said ≡ old.said ++ line ++ 10 ∷ []))
    ⊎ (Rose old.faults new.faults × (told.said → SaysPart old.said new.said line))

-- Only a line was said, or a part of it where the place refused that; the schemas, the scripts and what the
-- folders hold stay. A refusal that was counted before is counted still.
pub record OnlySays {O : Type 0} (told : PlaceTold) (old new : PlaceView O) (line : List ℕ) : Type 0 where
  pub says : SaysLine told old new line
  pub counted : (before : ℕ) → Rose before old.faults → Rose before new.faults
  pub frame : KeepsFolders told old new

-- The place refused a call, and counted that. Then only this line was said, or a part of it where the place
-- refused that too.
pub record PlaceRefuses {O : Type 0} (told : PlaceTold) (old new : PlaceView O) (line : List ℕ) : Type 0 where
  pub refused : Rose old.faults new.faults
  pub says : told.said → (new.said ≡ old.said ++ line ++ 10 ∷ []) ⊎ SaysPart old.said new.said line
  pub frame : KeepsFolders told old new

-- Nothing was said, and the place refused no call.
pub record SaysNothing {O : Type 0} (old new : PlaceView O) : Type 0 where
  pub said : new.said ≡ old.said
  pub quiet : new.faults ≡ old.faults

-- 1, or 3 for want of memory
pub record IsStatusOf (error : TantivyError) (status : ℕ) : Type 0 where
  pub other : status ≡ 1 → error ≢ errors.Memory
  pub memory : status ≡ 3 → error ≡ errors.Memory
  pub statuses : (status ≡ 1) ⊎ (status ≡ 3)

-- Only the line of an error was said, or the one for want of memory, as the status says.
pub record SaysError {O : Type 0} (told : PlaceTold) (old new : PlaceView O) (error : TantivyError)
    (status : ℕ) : Type 0 where
  pub lent : new.lent ≡ old.lent
  pub other : status ≡ 1 → (error ≢ errors.Memory) × OnlySays told old new (error_line error)
  pub memory : status ≡ 3 → OnlySays told old new memory_line
  pub statuses : (status ≡ 1) ⊎ (status ≡ 3)

-- The summary of a generated script was said, and the place refused no call.
pub record SaysSummary {O : Type 0} (told : PlaceTold) (n : ℕ) (old new : PlaceView O) : Type 0 where
  pub summary : List ℕ
  pub summary_is : IsSummaryOf n summary
  pub said : told.said → new.said ≡ old.said ++ summary ++ 10 ∷ []
  pub quiet : new.faults ≡ old.faults

-- The summary of a generated script was to be said, and the place refused that: a part of it was said at
-- most. Then this line was said, or a part of it where the place refused that too.
pub record RefusesSummary {O : Type 0} (told : PlaceTold) (n : ℕ) (old new : PlaceView O)
    (line : List ℕ) : Type 0 where
  pub summary : List ℕ
  pub summary_is : IsSummaryOf n summary
  pub between : PlaceView O
  pub refused : Rose old.faults between.faults
  pub part : told.said → SaysPart old.said between.said summary
  pub says : OnlySays told between new line

-- What stands after a script of so many commits was to be generated and replayed, and that ended with this
-- status.
pub record EndsGenerate {O : Type 0} (told : PlaceTold) (n : ℕ) (old new : PlaceView O)
    (status : ℕ) : Type 0 where
  -- 0: its summary was said
  pub done : status ≡ 0 → SaysSummary told n old new
  -- 1: the place refused that
  pub failed : status ≡ 1 → RefusesSummary told n old new summary_refusal
  -- 3: memory was wanted for the replay, or, where the place refused the summary, for the line of that error
  pub memory : status ≡ 3 → OnlySays told old new memory_line ⊎ RefusesSummary told n old new memory_line
  pub statuses : (status ≡ 0) ⊎ (status ≡ 1) ⊎ (status ≡ 3)
  pub frame : KeepsFolders told old new

-- The line was told, at a moment of the call; or no more than a first part of it was, without its line feed.
pub record TellsOrPart {W : Type 0} (told : Told) (old new : View W) (line : List ℕ)
    (is_told : Bool) : Type 0 where
  pub whole : told.heard → is_told ≡ true → TellsLine old.heard new.heard old.moment new.moment line
  pub part : told.heard → is_told ≡ false → (told_at : ℕ) × TellsPart old.heard new.heard told_at line
  pub faults : (new.faults ≡ old.faults) ⊎ Rose old.faults new.faults
  pub frame : OnlyTells told old new

-- what a run stands in: a place, and the source of its script
pub record Scene (O : Type 0) : Type 0 where
  pub place : PlaceView O
  pub script : SourceView

-- the script is as it was: what is left of it, where that is told, and how many reads of it were refused
abbrev pub KeepsScript : {O : Type 0} → (old new : Scene O) → Type 0
KeepsScript old new = new.script ≡ old.script

-- a replay that a run was asked for, over a folder, with the schema of a path; and what the run stood in
-- before and after
pub record AskedReplay (O : Type 0) : Type 0 where
  pub folder : List ℕ
  pub path : List ℕ
  pub old : Scene O
  pub new : Scene O

-- the place has no schema there, or it has one and refused the folder; and the line of that was said
abbrev pub RefusesReplay : {O : Type 0} → PlaceTold → AskedReplay O → Type 0
RefusesReplay told asked =
    ((told.content → asked.old.place.schemas asked.path ≡ None)
    × PlaceRefuses told asked.old.place asked.new.place schema_line)
    ⊎ ((told.content → IsSome (asked.old.place.schemas asked.path))
    × PlaceRefuses told asked.old.place asked.new.place folder_line)

-- memory was wanted for the schema or for the folder, or for the line of a refusal
abbrev pub WantsMemory : {O : Type 0} → PlaceTold → AskedReplay O → Type 0
WantsMemory told asked =
    OnlySays told asked.old.place asked.new.place memory_line
    ⊎ PlaceRefuses told asked.old.place asked.new.place memory_line

-- a directory that was lent, as its replay left it, and the place before and after its return
pub record Loan (O : Type 0) : Type 0 where
  pub stopped : O
  pub old : PlaceView O
  pub new : PlaceView O

module _ {O W C : Type 0} (g : Ghosts O W C) (told : PlaceTold) where
  -- The whole script was replayed over the directory that was lent for the folder, with the schema of the
  -- path. It was given back, nothing was said, and no call was refused.
  pub record Succeeds (asked : AskedReplay O) : Type 0 where
    pub before : O
    pub now : O
    pub schema : List ℕ
    pub tally : Tally
    pub lent : told.content → asked.old.place.kept asked.folder ≡ Some before
    pub given_back : told.content → asked.new.place.kept asked.folder ≡ Some now
    pub schema_is : told.content → asked.old.place.schemas asked.path ≡ Some schema
    pub replays : Replays g before now schema asked.old.script.left tally
    pub read_out : IsReadOut asked.old.script asked.new.script
    pub quiet : IsQuietAt (g.view before) (g.view now) asked.old.script asked.new.script
    pub frame : ReplayFrame g.told (g.view before) (g.view now)
    pub survives : SurvivesReplay g before now schema asked.old.script.left
    pub texts : KeepsTexts told asked.old.place asked.new.place
    pub silent : SaysNothing asked.old.place asked.new.place

  -- The directory that was lent was given back: it reads what it read when the replay stopped, a crash leaves
  -- what it might leave then, the same locks are held, and nobody was registered or called. A line was told
  -- to it, and nothing was said; or no more than a part of the line was told, and the line was said.
  pub record Reports (loan : Loan O) (line : List ℕ) : Type 0 where
    pub now : O
    pub given_back : told.content → (folder : List ℕ) → loan.old.lent ≡ Some folder
        → loan.new.kept folder ≡ Some now
    pub texts : KeepsTexts told loan.old loan.new
    pub faults : ((g.view now).faults ≡ (g.view loan.stopped).faults)
        ⊎ Rose (g.view loan.stopped).faults (g.view now).faults
    pub frame : OnlyTells g.told (g.view loan.stopped) (g.view now)
    pub images : g.tells_images → KeepsDisk (g.disk loan.stopped) (g.disk now)
    pub reported :
        ((g.told.heard → TellsLine (g.view loan.stopped).heard (g.view now).heard
        (g.view loan.stopped).moment (g.view now).moment line) × SaysNothing loan.old loan.new)
        ⊎ ((g.told.heard → (told_at : ℕ)
        × TellsPart (g.view loan.stopped).heard (g.view now).heard told_at line)
        × SaysLine told loan.old loan.new line)

  -- The replay over the directory that was lent for the folder, with the schema of the path, answered this
  -- error, for its cause, and then a line was reported.
  pub record Stops (asked : AskedReplay O) (error : TantivyError) (line : List ℕ) : Type 0 where
    pub before : O
    pub stopped : O
    pub schema : List ℕ
    pub lent : told.content → asked.old.place.kept asked.folder ≡ Some before
    pub schema_is : told.content → asked.old.place.schemas asked.path ≡ Some schema
    pub cause : FailsReplay g.told
        (replay_call g before stopped schema asked.old.script asked.new.script) error
    -- where it stopped, what was told by then, and which commit stands
    pub stops : StopsReplay g.told
        (replay_call g before stopped schema asked.old.script asked.new.script) error
    pub frame : ReplayFrame g.told (g.view before) (g.view stopped)
    -- what a crash leaves up to there
    pub survives : SurvivesReplay g before stopped schema asked.old.script.left
    -- seen from the place as it was while the folder's directory was lent
    pub reports : Reports (record {
      stopped = stopped;
      old = record asked.old.place { lent = Some asked.folder };
      new = asked.new.place;
    }) line

  -- What stands after a replay that ended with this status.
  pub record EndsReplay (asked : AskedReplay O) (status : ℕ) : Type 0 where
    -- 0: the whole script was replayed
    pub done : status ≡ 0 → Succeeds asked
    -- 1: the place refused the schema or the folder, and the script is as it was; or the replay answered an
    -- error that isn't want of memory
    pub failed :
        status ≡ 1
        → (RefusesReplay told asked × KeepsScript asked.old asked.new)
        ⊎ ((error : TantivyError) × (error ≢ errors.Memory) × Stops asked error (error_line error))
    -- 3: memory was wanted before a replay began, and the script is as it was; or it was wanted by the replay
    -- or for the line of its error
    pub memory :
        status ≡ 3
        → (WantsMemory told asked × KeepsScript asked.old asked.new)
        ⊎ ((error : TantivyError) × Stops asked error memory_line)
    pub statuses : (status ≡ 0) ⊎ (status ≡ 1) ⊎ (status ≡ 3)

  -- The line of an error was reported, or the one for want of memory, as the status says; and no directory is
  -- lent.
  pub record ReportsError (loan : Loan O) (error : TantivyError) (status : ℕ) : Type 0 where
    pub free : loan.new.lent ≡ None
    pub other : status ≡ 1 → (error ≢ errors.Memory) × Reports loan (error_line error)
    pub memory : status ≡ 3 → Reports loan memory_line
    pub statuses : (status ≡ 1) ⊎ (status ≡ 3)
