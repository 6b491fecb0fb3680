-- The event that opens an index again, where it stands.
use Rattle.std.specs.Prelude.{ℕ, List, map}
use Rattle.tv_machine.specs.State.{State, StepResult, FileState}
use Rattle.tv_formats.specs.Collections.{no_collections}
use Rattle.tv_machine.specs.CollectionEvents.{left}
use Rattle.tv_machine.specs.Index.{as_opened}
use Rattle.tv_machine.specs.Lines.{opening_line}

-- the open files are left
abbrev pub all_left : List (List ℕ × FileState) → List (List ℕ × FileState)
all_left files = map (λ e. (e.0, left e.1)) files

-- The files, the managed names and the current commit stay; open files are left; and all else is as in an
-- index that was just opened with this commit.
abbrev pub reopened : State → State
reopened s = record {
  catalog = as_opened s.catalog;
  files = all_left s.files;
  managed = s.managed;
  collections = no_collections;
}

-- the index is opened again, and its opening line is told
abbrev pub reopen_step : State → StepResult State
reopen_step s = (opening_line s, reopened s)
