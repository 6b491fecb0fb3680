-- What a run does that measures the index of a folder.
use Rattle.std.specs.Prelude.{ℕ, ◌≡◌, ◌≢◌, ◌⊎◌, List, [], ◌∷◌, ◌++◌, None, Some, IsSome, codes}
use Rattle.tv_base.specs.declared.error.TantivyError.{TantivyError}
use Rattle.tv_base.specs.declared.error.TantivyError.TheVariants as errors
use Rattle.tv_device.specs.Images.{KeepsDisk}
use Rattle.tv_device.specs.View.{OnlyReads}
use Rattle.tv_device.specs.declared.directory.Directory.{Ghosts}
use Rattle.tv_formats.specs.Files.{Rose}
use Rattle.tv_formats.specs.Schemas.{IsNoSchema, IsSchema}
use Rattle.tv_replay.specs.ErrorLines.{error_line}
use Rattle.tv_replay.specs.PlaceView.{PlaceTold, PlaceView, KeepsFolders, KeepsTexts, SaysPart}
use Rattle.tv_replay.specs.Runs.{OnlySays, PlaceRefuses, Reports, folder_line, memory_line, schema_line}
use Rattle.tv_space.specs.Measuring.{MeasureCause, MeasuresIndex}

-- what is said of bytes that are no schema
abbrev pub argument_refusal : List ℕ
argument_refusal = codes "error argument"

-- what is said where the place refused a text
abbrev pub text_refusal : List ℕ
text_refusal = codes "error io"

-- A text was said, with a line feed, and the place refused no call.
pub record SaysText {O : Type 0} (told : PlaceTold) (text : List ℕ) (old new : PlaceView O) : Type 0 where
  pub said : told.said → new.said ≡ old.said ++ text ++ 10 ∷ []
  pub quiet : new.faults ≡ old.faults

-- A text was to be said, and the place refused that: a part of it was said at most. Then this line was said,
-- or a part of it where the place refused that too.
pub record RefusesText {O : Type 0} (told : PlaceTold) (text : List ℕ) (old new : PlaceView O)
    (line : List ℕ) : Type 0 where
  pub between : PlaceView O
  pub refused : Rose old.faults between.faults
  pub part : told.said → SaysPart old.said between.said text
  pub says : OnlySays told between new line

-- What stands after a text was to be said, which ended with this status: 0 where it was said; 1 where the
-- place refused that; 3 where memory was wanted for the line of that refusal.
pub record EndsText {O : Type 0} (told : PlaceTold) (text : List ℕ) (old new : PlaceView O)
    (status : ℕ) : Type 0 where
  pub done : status ≡ 0 → SaysText told text old new
  pub failed : status ≡ 1 → RefusesText told text old new text_refusal
  pub memory : status ≡ 3 → RefusesText told text old new memory_line
  pub statuses : (status ≡ 0) ⊎ (status ≡ 1) ⊎ (status ≡ 3)
  pub frame : KeepsFolders told old new

-- a measuring that a run was asked for, of the index of a folder, with the schema of a path; and the place
-- before and after
pub record AskedSpace (O : Type 0) : Type 0 where
  pub folder : List ℕ
  pub path : List ℕ
  pub old : PlaceView O
  pub new : PlaceView O

-- The place has no schema there; or what it has is none; or the place refused the folder. The line of that was
-- said, of the first that holds, and the folder is as it was.
abbrev pub RefusesSpace : {O : Type 0} → PlaceTold → AskedSpace O → Type 0
RefusesSpace told asked =
    ((told.content → asked.old.schemas asked.path ≡ None)
    × PlaceRefuses told asked.old asked.new schema_line)
    ⊎ ((schema : List ℕ) × (told.content → asked.old.schemas asked.path ≡ Some schema) × IsNoSchema schema
    × OnlySays told asked.old asked.new argument_refusal)
    ⊎ ((schema : List ℕ) × (told.content → asked.old.schemas asked.path ≡ Some schema)
    × PlaceRefuses told asked.old asked.new folder_line)

-- Memory was wanted for the schema or for the folder, or for the line of a refusal, and the folder is as it
-- was.
abbrev pub WantsSpaceMemory : {O : Type 0} → PlaceTold → AskedSpace O → Type 0
WantsSpaceMemory told asked =
    OnlySays told asked.old asked.new memory_line ⊎ PlaceRefuses told asked.old asked.new memory_line

module _ {O W C : Type 0} (g : Ghosts O W C) (told : PlaceTold) where
  -- The directory that was lent for the folder holds an index under the schema of the path, of which this is
  -- the report. It was given back as it was, and no call on it was refused.
  pub record IsMeasured (asked : AskedSpace O) (text : List ℕ) : Type 0 where
    pub before : O
    pub now : O
    pub schema : List ℕ
    pub form : List ℕ
    pub lent : told.content → asked.old.kept asked.folder ≡ Some before
    pub given_back : told.content → asked.new.kept asked.folder ≡ Some now
    pub schema_is : told.content → asked.old.schemas asked.path ≡ Some schema
    pub spelled : IsSchema schema form
    pub measured : g.told.content → MeasuresIndex (g.view before).reads form text
    pub quiet : (g.view now).faults ≡ (g.view before).faults
    pub frame : OnlyReads g.told (g.view before) (g.view now)
    pub images : g.tells_images → KeepsDisk (g.disk before) (g.disk now)
    pub texts : KeepsTexts told asked.old asked.new

  -- the report was said
  pub record SaysReport (asked : AskedSpace O) : Type 0 where
    pub text : List ℕ
    pub measured : IsMeasured asked text
    pub says : SaysText told text asked.old asked.new

  -- the report was to be said, which the place refused; and this line was said, or a part of it
  pub record RefusesReport (asked : AskedSpace O) (line : List ℕ) : Type 0 where
    pub text : List ℕ
    pub measured : IsMeasured asked text
    pub says : RefusesText told text asked.old asked.new line

  -- The directory that was lent for the folder wasn't measured under the schema of the path, for the cause of
  -- this error; and then a line was reported. The directory was only read from before.
  pub record StopsSpace (asked : AskedSpace O) (error : TantivyError) (line : List ℕ) : Type 0 where
    pub before : O
    pub stopped : O
    pub schema : List ℕ
    pub form : List ℕ
    pub lent : told.content → asked.old.kept asked.folder ≡ Some before
    pub schema_is : told.content → asked.old.schemas asked.path ≡ Some schema
    pub spelled : IsSchema schema form
    pub cause : MeasureCause g before stopped form error
    pub frame : OnlyReads g.told (g.view before) (g.view stopped)
    pub images : g.tells_images → KeepsDisk (g.disk before) (g.disk stopped)
    -- seen from the place as it was while the folder's directory was lent
    pub reports : Reports g told (record {
      stopped = stopped;
      old = record asked.old { lent = Some asked.folder };
      new = asked.new;
    }) line

  -- What stands after a measuring that ended with this status.
  pub record EndsSpace (asked : AskedSpace O) (status : ℕ) : Type 0 where
    -- 0: the report was said
    pub done : status ≡ 0 → SaysReport asked
    -- 1: there is no schema or no folder; or the folder's directory has no report; or the place refused the
    -- report
    pub failed :
        status ≡ 1
        → RefusesSpace told asked
        ⊎ ((error : TantivyError) × (error ≢ errors.Memory) × StopsSpace asked error (error_line error))
        ⊎ RefusesReport asked text_refusal
    -- 3: memory was wanted before, while or after the directory was measured
    pub memory :
        status ≡ 3
        → WantsSpaceMemory told asked
        ⊎ ((error : TantivyError) × StopsSpace asked error memory_line)
        ⊎ RefusesReport asked memory_line
    pub statuses : (status ≡ 0) ⊎ (status ≡ 1) ⊎ (status ≡ 3)
