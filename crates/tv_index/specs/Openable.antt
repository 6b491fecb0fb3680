-- Whether an index can be opened in a directory, or made, as it is seen without doing either.
use Rattle.std.specs.Prelude.{◌≡◌, ℕ, List}
use Rattle.tv_base.specs.declared.error.TantivyError.{TantivyError}
use Rattle.tv_device.specs.View.{OnlyReads}
use Rattle.tv_device.specs.declared.directory.Directory.{Ghosts}
use Rattle.tv_index.specs.Opening.{Finds, OpenCause}
use Rattle.tv_formats.specs.Commits.{Commit, IndexForm}
use Rattle.tv_formats.specs.Files.{Reads, Rose}

-- With some settings, some commit and some managed names an index of this schema opens in a directory
-- that reads so: what reads as the list is one, or isn't there, and `meta.json` means a commit of this
-- schema, or isn't there.
pub record IsOpenable (reads : Reads) (schema : List ℕ) : Type 0 where
  pub form : IndexForm
  pub commit : Commit
  pub managed : List (List ℕ)
  pub schema_is : form.schema ≡ schema
  pub finds : Finds reads form commit managed

-- An index can be opened in this directory under this schema, or made. It was only read from.
pub record FindsOpenable {D W C : Type 0} (g : Ghosts D W C) (before : D) (schema : List ℕ) (now : D)
    : Type 0 where
  pub openable : g.told.content → IsOpenable (g.view before).reads schema
  pub quiet : (g.view now).faults ≡ (g.view before).faults
  pub frame : OnlyReads g.told (g.view before) (g.view now)

-- None can, for the cause for which none is opened. The directory was only read from, and comes back.
pub record NotOpenable {D W C : Type 0} (g : Ghosts D W C) (before : D) (schema : List ℕ) (now : D)
    (error : TantivyError) : Type 0 where
  pub cause : OpenCause g.told.content schema (g.view before).reads
      (Rose (g.view before).faults (g.view now).faults)
      ((g.view now).faults ≡ (g.view before).faults) error
  pub frame : OnlyReads g.told (g.view before) (g.view now)
