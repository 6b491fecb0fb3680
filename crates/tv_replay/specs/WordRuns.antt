-- Which run the words of a command line ask for, and what it leaves.
use Rattle.std.specs.Prelude.{ℕ, ◌≡◌, ◌<◌, ◌≤◌, List, Some}
use Rattle.tv_device.specs.declared.directory.Directory.{Ghosts}
use Rattle.tv_formats.specs.Files.{Rose}
use Rattle.tv_replay.specs.Commands.{generate_words, most_commits, replay_words, space_words}
use Rattle.tv_replay.specs.Completeness.{IsReady}
use Rattle.tv_replay.specs.PlaceView.{PlaceTold}
use Rattle.tv_replay.specs.Runs.{EndsGenerate, EndsReplay, KeepsScript, Scene}
use Rattle.tv_replay.specs.SpaceRuns.{EndsSpace}

module _ {O W C : Type 0} (g : Ghosts O W C) (told : PlaceTold) where
  -- What stands after a run of these words: a script was replayed, or an index was measured, or a script was
  -- generated; and where none was replayed, that of the caller is as it was.
  pub record EndsRun (words : List (List ℕ)) (old new : Scene O) (status : ℕ) : Type 0 where
    pub replayed : (folder path : List ℕ) → words ≡ replay_words folder path
        → EndsReplay g told (record { folder = folder; path = path; old = old; new = new }) status
    pub measured : (folder path : List ℕ) → words ≡ space_words folder path
        → EndsSpace g told (record { folder = folder; path = path; old = old.place; new = new.place }) status
        × KeepsScript old new
    pub generated : (n : ℕ) → n ≤ most_commits → words ≡ generate_words n
        → EndsGenerate told n old.place new.place status × KeepsScript old new

  -- A run that replays a script over a folder, with the schema of a path, where all of this is told: both are
  -- there, they and the script are ready for a replay, and nothing is refused, neither by the place nor by
  -- the directory nor in the script.
  pub record IsUndisturbedRun (words : List (List ℕ)) (old new : Scene O) : Type 0 where
    pub folder : List ℕ
    pub path : List ℕ
    pub words_are : words ≡ replay_words folder path
    pub place : told.content
    pub content : g.told.content
    pub locks : g.told.locks
    pub before : O
    pub now : O
    pub schema : List ℕ
    pub lent : old.place.kept folder ≡ Some before
    pub given_back : new.place.kept folder ≡ Some now
    pub schema_is : old.place.schemas path ≡ Some schema
    pub ready : IsReady schema old.script.left (g.view before).reads (g.view before).locks
    pub still : (g.view now).faults ≡ (g.view before).faults
    pub not_last : (g.view now).faults < 18446744073709551615
    pub script_still : Rose old.script.faults new.script.faults → ⊥
    pub place_still : Rose old.place.faults new.place.faults → ⊥
