-- What is said of the replay of a generated script.
use Rattle.std.specs.Prelude.{ℕ, ◌≡◌, ◌+◌, ◌==◌, ◌&&◌, ◌||◌, Bool, List, [], ◌∷◌, ◌++◌, codes, filter, length, if◌then◌else◌, is_some}
use Rattle.std.specs.Fmt.{decimal}
use Rattle.std.specs.List.{flat_map, slice_split, sum_by}
use Rattle.tv_formats.specs.Commits.{default_settings}
use Rattle.tv_formats.specs.Files.{Reads}
use Rattle.tv_machine.specs.Index.{DirectoryHolds, first_state}
use Rattle.tv_machine.specs.Machine.{Turn, after, all_refused, events_of, report}
use Rattle.tv_formats.specs.Names.{is, meta_name}
use Rattle.tv_events.specs.Script.{AreLines, lines_of}
use Rattle.tv_machine.specs.State.{State, file_at}
use Rattle.tv_replay.specs.Generated.{generated}

-- the files of an index: the managed names that have a file, `meta.json` among them
abbrev pub has_file : State → List ℕ → Bool
has_file s name = is name meta_name || is_some (file_at s name)

-- the files of an index: the managed names that have a file
abbrev pub files_of : State → List (List ℕ)
files_of s = filter (has_file s) s.managed

-- how many of these words come before the word `failed`
abbrev pub before_failed : List (List ℕ) → ℕ
before_failed [] = 0
before_failed (word ∷ words) = if is word (codes "failed") then 0 else before_failed words + 1

-- how many names the words of a line say were deleted: those between `gc deleted` and `failed`
abbrev pub deleted_in : List (List ℕ) → ℕ
deleted_in (first ∷ second ∷ names) =
    if is first (codes "gc") && is second (codes "deleted") then before_failed names else 0
deleted_in other = 0

-- how many names the lines of a text say were deleted
abbrev pub collected_in : List ℕ → ℕ
collected_in text =
    sum_by (λ line. deleted_in (slice_split (λ b. b == 32) line)) (slice_split (λ b. b == 10) text)

-- what is told, as one text: the lines, each with its line feed
abbrev pub text_of : List (List ℕ) → List ℕ
text_of lines = flat_map (λ line. line ++ 10 ∷ []) lines

-- The machine's run on the script of so many commits, over a new index, in which no delete is refused.
pub record RunsGenerated (n : ℕ) (turns : List Turn) : Type 0 where
  pub lines : AreLines (lines_of (generated n)) (events_of turns)
  pub refused : all_refused turns ≡ 0

-- what the summary says: the number of events, that of the last commit, how many files are left, and how many
-- were collected
abbrev pub summary_line : (events stamp files collected : ℕ) → List ℕ
summary_line events stamp files collected =
    codes "events " ++ decimal events ++ codes " stamp " ++ decimal stamp ++ codes " files " ++ decimal files
    ++ codes " collected " ++ decimal collected

-- the summary of a run over a new index
abbrev pub summary_of : List Turn → List ℕ
summary_of turns =
    summary_line (length turns) (after first_state turns).catalog.commit.opstamp
    (length (files_of (after first_state turns))) (collected_in (text_of (report first_state turns)))

-- the line is the summary of such a run
pub record IsSummaryOf (n : ℕ) (line : List ℕ) : Type 0 where
  pub turns : List Turn
  pub runs : RunsGenerated n turns
  pub line_is : line ≡ summary_of turns

-- The script was replayed over a new index: what was told, and what the directory holds.
pub record ReplaysGenerated (n events : ℕ) (heard : List ℕ) (reads : Reads) : Type 0 where
  pub turns : List Turn
  pub runs : RunsGenerated n turns
  pub counted : events ≡ length turns
  pub told : heard ≡ text_of (report first_state turns)
  pub schema : List ℕ
  pub holds : DirectoryHolds default_settings schema reads (after first_state turns)

-- the number of the current commit, and how many files there are
pub record IsStanding (s : State) (opstamp files : ℕ) : Type 0 where
  pub opstamp_is : opstamp ≡ s.catalog.commit.opstamp
  pub files_are : files ≡ length (files_of s)
