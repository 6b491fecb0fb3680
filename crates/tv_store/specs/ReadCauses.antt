-- Why an event that reads the files of a commit fails.
use Rattle.std.specs.Prelude.{ℕ, ◌≡◌, ◌≢◌, ◌⊎◌, true, List, string_bytes}
use Rattle.tv_formats.specs.Names.{is_file_name}
use Rattle.tv_base.specs.Causes.{IsDevice}
use Rattle.tv_base.specs.declared.io.IoKind.TheVariants.{Device}
use Rattle.tv_base.specs.declared.open_errors.OpenReadError.{OpenReadError}
use Rattle.tv_base.specs.declared.open_errors.OpenReadError.TheVariants as read
use Rattle.tv_base.specs.declared.error.TantivyError.{TantivyError}
use Rattle.tv_base.specs.declared.error.TantivyError.TheVariants as errors
use Rattle.tv_store.specs.StoreCauses.{LockingCause}

-- a file that was to be read wasn't, or `meta.json` means no commit of the index
abbrev pub IsReadError : TantivyError → Type 0
IsReadError (errors.OpenReadError error) = Unit {0}
IsReadError (errors.DataCorruption why) = Unit {0}
IsReadError (errors.SchemaError text) = Unit {0}
IsReadError other = ⊥

-- The device refused the read of a file; or what the file reads is refused with this error, which is `bad`;
-- or it isn't there, which is `absent`.
abbrev pub ReadFault : (refused quiet : Type 0) (bad : OpenReadError → Type 0) (absent : List ℕ → Type 0)
    → OpenReadError → Type 0
ReadFault refused quiet bad absent (read.IoError fault path) =
    (IsDevice fault × refused) ⊎ ((fault.kind ≢ Device) × quiet × (is_file_name (string_bytes path) ≡ true)
    × bad (read.IoError fault path))
ReadFault refused quiet bad absent (read.FileDoesNotExist path) =
    quiet × (is_file_name (string_bytes path) ≡ true) × absent (string_bytes path)
ReadFault refused quiet bad absent (read.IncompatibleIndex why) = quiet × bad (read.IncompatibleIndex why)
ReadFault refused quiet bad absent other = ⊥

-- What is known of a call, or of an event, that may read files, by which an error is explained.
pub record ReadFacts : Type 1 where
  -- the lock that it takes isn't given
  pub busy : Type 0
  -- the device refused a call; it refused none
  pub refused : Type 0
  pub quiet : Type 0
  -- a number or the length of a file would pass 64 bits
  pub spent : Type 0
  -- what a file reads is refused with this error
  pub bad : OpenReadError → Type 0
  -- this file isn't there
  pub absent : List ℕ → Type 0

-- what is known of a call that takes no lock, and by which no number and no length grows
abbrev pub reading_facts : (refused quiet : Type 0) → (bad : OpenReadError → Type 0)
    → (absent : List ℕ → Type 0) → ReadFacts
reading_facts refused quiet bad absent = record {
  busy = ⊥;
  refused = refused;
  quiet = quiet;
  spent = ⊥;
  bad = bad;
  absent = absent;
}

-- an event fails as others do, or because a lock isn't given, or because it can't read a file
abbrev pub ApplyCause : ReadFacts → TantivyError → Type 0
ApplyCause facts (errors.OpenReadError error) =
    ReadFault facts.refused facts.quiet facts.bad facts.absent error
ApplyCause facts other = LockingCause facts.busy facts.refused facts.quiet facts.spent other

-- or because the bytes of `meta.json` are refused, for this cause: `load`
abbrev pub LoadingCause : ReadFacts → (load : TantivyError → Type 0) → TantivyError → Type 0
LoadingCause facts load (errors.DataCorruption why) = load (errors.DataCorruption why)
LoadingCause facts load (errors.SchemaError text) = load (errors.SchemaError text)
LoadingCause facts load other = ApplyCause facts other
