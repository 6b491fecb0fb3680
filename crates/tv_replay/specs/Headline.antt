-- What a replay that answers Ok gives from a sound start: the lines of a run of the machine, the files and
-- the list of that run, and what a crash leaves at each of its moments.
use Rattle.std.specs.Prelude.{ℕ, ◌≡◌, ◌⊎◌, ◌++◌, List, [], ◌∷◌, length, Some}
use Rattle.tv_crashes.specs.Runs.{ReplaySurvives}
use Rattle.tv_device.specs.Images.{KeepsDisk}
use Rattle.tv_device.specs.declared.directory.Directory.{Ghosts}
use Rattle.tv_formats.specs.Files.{Heard, RoseBy}
use Rattle.tv_machine.specs.Index.{FileReads, IsFileOf, OpenedIndex}
use Rattle.tv_formats.specs.Sound.{IsSoundDirectory, IsSoundStart}
use Rattle.tv_formats.specs.Listing.{Listing}
use Rattle.tv_machine.specs.Machine.{Turn, after, report, events_of, all_refused}
use Rattle.tv_formats.specs.Meaning.{Means}
use Rattle.tv_formats.specs.Names.{meta_name}
use Rattle.tv_formats.specs.Schemas.{stripped}
use Rattle.tv_events.specs.Script.{lines_of, AreLines}
use Rattle.tv_machine.specs.State.{file_at}
use Rattle.tv_store.specs.Stays.{KeepsDotted}
use Rattle.tv_store.specs.Surviving.{seen_of}
use Rattle.tv_store.specs.Telling.{TellsLines}
use Rattle.tv_replay.specs.declared.replaying.Tally.{Tally}
use Rattle.tv_replay.specs.Commands.{replay_words}
use Rattle.tv_replay.specs.PlaceView.{PlaceTold}
use Rattle.tv_replay.specs.Runs.{Scene}
use Rattle.tv_replay.specs.Surviving.{SurvivesCrashes}

-- A run of the machine on the whole script was told, line by line, and its files and its list were left.
pub record Headline {O W C : Type 0} (g : Ghosts O W C) (before now : O) (schema script : List ℕ)
    (tally : Tally) : Type 0 where
  -- the index that stood in the directory, or a new one where there was none: the run starts at its state
  pub index : OpenedIndex schema (g.view before).reads
  -- the run: its events, each with the outcomes of the deletes that it asked for
  pub turns : List Turn
  -- its events are those of the script: one for each line, in their order, and no other
  pub whole : AreLines (lines_of script) (events_of turns)
  -- so many lines were counted
  pub counted : tally.events ≡ length turns
  -- all that was told is the machine's report, one line after the other: the opening line, and what each
  -- event answers
  pub told : TellsLines (g.view before).heard (g.view now).heard (g.view before).moment (g.view now).moment
      (report index.state turns)
  -- each delete that failed in the run was refused by the directory, which counted it
  pub refused : RoseBy (all_refused turns) (g.view before).refusals (g.view now).refusals
  -- each file is that of the run's last state: a sealed one reads its bytes, an unsealed one is there, and
  -- there is no other
  pub files : (n : List ℕ) → IsFileOf n
      → FileReads (file_at (after index.state turns) n) ((g.view now).reads n)
  -- `meta.json` means the last state's commit, under the settings and the schema of the index
  pub meta : (bytes : List ℕ) × ((g.view now).reads meta_name ≡ Some bytes)
      × Means index.form.settings index.form.schema bytes (after index.state turns).catalog.commit
  -- the list names the last state's managed files, and no other
  pub managed : Listing (g.view now).reads (after index.state turns).managed
  -- every other file with a dot in front reads what it read
  pub dotted : KeepsDotted (g.view before).reads (g.view now).reads
  -- what is left is a sound start again
  pub sound : IsSoundStart (stripped schema) (g.view now).reads (g.view now).locks
  -- where the directory tells what a crash may leave, and each of these images was sound: before the opening
  -- line a crash leaves the commit of the start, or that of a new index; from then on it leaves whole the
  -- commit of the events whose lines are told, or that of the event in progress
  pub survives : g.tells_images
      → IsSoundDirectory (stripped schema) (g.disk before) (g.view before).locks
      → ReplaySurvives index.form (seen_of g before) (seen_of g now) index.state turns

-- A run for `replay FOLDER SCHEMA` that starts soundly: what the place and the directory in this folder have
-- is told, and that directory is a sound start under the schema.
pub record StartsSoundly {O W C : Type 0} (g : Ghosts O W C) (told : PlaceTold) (words : List (List ℕ))
    (old : Scene O) : Type 0 where
  -- the words name a folder and the path of a schema
  pub folder : List ℕ
  pub path : List ℕ
  pub words_are : words ≡ replay_words folder path
  -- the place tells what it has: a directory in this folder, and a schema under this path
  pub place : told.content
  pub before : O
  pub kept : old.place.kept folder ≡ Some before
  pub schema : List ℕ
  pub schema_is : old.place.schemas path ≡ Some schema
  -- the directory tells what it reads, what is told to it, and which locks are held
  pub content : g.told.content
  pub heard : g.told.heard
  pub locks : g.told.locks
  -- the script is told
  pub script : List ℕ
  pub script_is : old.script.left ≡ Some script
  -- the directory is a sound start under the schema
  pub sound : IsSoundStart (stripped schema) (g.view before).reads (g.view before).locks

-- What a run that starts soundly leaves where it ends with 0.
pub record RunsSoundly {O W C : Type 0} {g : Ghosts O W C} {told : PlaceTold} {words : List (List ℕ)}
    {old : Scene O} (start : StartsSoundly g told words old) (new : Scene O) : Type 0 where
  -- the folder holds a directory again
  pub now : O
  pub given_back : new.place.kept start.folder ≡ Some now
  -- between what it held and what it holds stands the headline
  pub tally : Tally
  pub headline : Headline g start.before now start.schema start.script tally
  -- the script was read to its end
  pub read_out : new.script.left ≡ Some []
  -- nothing was said
  pub silent : new.place.said ≡ old.place.said

-- at most one piece was told: a line, or a part of one
abbrev pub HearsAtMostOne : Heard → Heard → Type 0
HearsAtMostOne before now =
    (now ≡ before) ⊎ ((moment : ℕ) × (piece : List ℕ) × (now ≡ before ++ (moment, piece) ∷ []))

-- What a run that starts soundly leaves, whatever status it ends with, in a directory each of whose images
-- was sound.
pub record EndsSoundly {O W C : Type 0} {g : Ghosts O W C} {told : PlaceTold} {words : List (List ℕ)}
    {old : Scene O} (start : StartsSoundly g told words old) (new : Scene O) : Type 0 where
  -- the folder holds a directory again
  pub now : O
  pub given_back : new.place.kept start.folder ≡ Some now
  -- up to this one, with which the replay ended, a crash left the commit of the start, that of a new index, or
  -- that of the events told so far, or of the one in progress
  pub stopped : O
  pub survives : SurvivesCrashes g start.before stopped start.schema old.script.left
  -- from there on it leaves what it might leave then, and no more was told than one line, or a part of it
  pub since : KeepsDisk (g.disk stopped) (g.disk now)
  pub heard : HearsAtMostOne (g.view stopped).heard (g.view now).heard
  -- and whatever it leaves at the end is sound
  pub sound : IsSoundDirectory (stripped start.schema) (g.disk now) (g.view now).locks

-- A run that starts soundly, in a directory that tells what a crash may leave and of which each such image was
-- sound, leaves to a crash what `EndsSoundly` says.
abbrev pub RunSurvives : {O W C : Type 0} → Ghosts O W C → PlaceTold → (words : List (List ℕ))
    → (old new : Scene O) → Type 0
RunSurvives g told words old new =
    (start : StartsSoundly g told words old) → g.tells_images
    → IsSoundDirectory (stripped start.schema) (g.disk start.before) (g.view start.before).locks
    → EndsSoundly start new
