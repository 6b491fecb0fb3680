-- Why an opening fails.
use Rattle.std.specs.Prelude.{ℕ, ◌≡◌, ◌++◌, ◌∷◌, true, false, List, None, codes, string_bytes}
use Rattle.tv_base.specs.Causes.{IsDevice}
use Rattle.tv_base.specs.declared.error.TantivyError.{TantivyError}
use Rattle.tv_base.specs.declared.error.TantivyError.TheVariants as errors
use Rattle.tv_base.specs.declared.open_errors.LockError.TheVariants as lock
use Rattle.tv_base.specs.declared.open_errors.OpenReadError.{OpenReadError}
use Rattle.tv_device.specs.declared.directory.Directory.{Ghosts}
use Rattle.tv_device.specs.View.{OnlyReads}
use Rattle.tv_index.specs.Opening.{OpenCause}
use Rattle.tv_formats.specs.Files.{Reads, Rose}
use Rattle.tv_machine.specs.Index.{FoundIndex, found_commits}
use Rattle.tv_formats.specs.Commits.{required_by}
use Rattle.tv_formats.specs.Names.{has}
use Rattle.tv_formats.specs.Schemas.{IsSchema, IsNoSchema}
use Rattle.tv_store.specs.Bodies.{ReadsGoodFile, RefusesAt}
use Rattle.tv_store.specs.ReadCauses.{ReadFault}
use Rattle.tv_store.specs.StoreCauses.{IsBusy, QuietBehind, RefusedBehind, writer_lock_name}

-- the text of a schema that is refused
abbrev pub schema_refusal : List ℕ
schema_refusal = codes "the schema is not of the stated form"

-- the bytes spell some schema
abbrev pub IsSomeSchema : List ℕ → Type 0
IsSomeSchema schema = (text : List ℕ) × IsSchema schema text

-- of these files, one after the other, this is the first that can't be read: each before it can
pub record IsFirstBad (reads : Reads) (names : List (List ℕ)) (path : List ℕ) : Type 0 where
  pub front : List (List ℕ)
  pub rest : List (List ℕ)
  pub split : names ≡ front ++ path ∷ rest
  pub good : (n : List ℕ) → has front n ≡ true → ReadsGoodFile (reads n)

-- the first of them reads bytes that are refused with this error
abbrev pub MeetsRefused : Reads → List (List ℕ) → OpenReadError → Type 0
MeetsRefused reads names error = (path : List ℕ) × IsFirstBad reads names path × RefusesAt reads path error

-- the first of them isn't there
abbrev pub MeetsMissing : Reads → List (List ℕ) → List ℕ → Type 0
MeetsMissing reads names path = IsFirstBad reads names path × (reads path ≡ None)

-- of the files that the index requires which stands there, the first that can't be read is refused with this
-- error
abbrev pub IndexRefused : (schema : List ℕ) → Reads → OpenReadError → Type 0
IndexRefused schema reads error =
    (index : FoundIndex schema reads) × MeetsRefused reads (required_by (found_commits index)) error

-- of the files that the index requires which stands there, this is the first that can't be read, and it
-- isn't there
abbrev pub IndexMissing : (schema : List ℕ) → Reads → List ℕ → Type 0
IndexMissing schema reads path =
    (index : FoundIndex schema reads) × MeetsMissing reads (required_by (found_commits index)) path

-- What is known of some calls, by which an error is explained.
pub record CallFacts : Type 1 where
  -- the content is told
  pub tells : Type 0
  -- a lock isn't given; that of the writer was free
  pub busy : Type 0
  pub free : Type 0
  -- a call was refused; none was
  pub refused : Type 0
  pub quiet : Type 0
  -- the same where the lock of the writer may not have been given, which may count as a refused call
  pub refused_behind : Type 0
  pub quiet_behind : Type 0

-- the lock of the writer wasn't given: where locks are told, it is held; and the directory was only read
-- from
abbrev pub IsLockedOut : {O W C : Type 0} → Ghosts O W C → (outside now : O) → Type 0
IsLockedOut g outside now =
    (g.told.locks → (g.view outside).locks writer_lock_name ≡ true)
    × OnlyReads g.told (g.view outside) (g.view now)

-- what is known of the calls of an opening, of the directory handed in and as it is now
abbrev pub opening_facts : {O W C : Type 0} → Ghosts O W C → (outside now : O) → CallFacts
opening_facts g outside now = record {
  tells = g.told.content;
  busy = IsBusy g.told.locks ((g.view outside).locks writer_lock_name ≡ true)
      (Rose (g.view outside).faults (g.view now).faults);
  free = g.told.locks → (g.view outside).locks writer_lock_name ≡ false;
  refused = Rose (g.view outside).faults (g.view now).faults;
  quiet = (g.view now).faults ≡ (g.view outside).faults;
  refused_behind = RefusedBehind (IsLockedOut g outside now) (g.view outside).faults (g.view now).faults;
  quiet_behind = QuietBehind (IsLockedOut g outside now) (g.view outside).faults (g.view now).faults;
}

-- Why an opening fails, in this order: the schema is refused; the index that stands there is; the lock
-- of the writer is held, which is `busy`; or, where it is free, a file of the index can't be read, the
-- first of those that it requires. Each is so, and none before it. A device may refuse a call, that of
-- the lock too, and memory may be wanted, at any time.
abbrev pub OpeningCause : CallFacts → (schema : List ℕ) → Reads → TantivyError → Type 0
OpeningCause facts schema reads (errors.InvalidArgument text) =
    facts.quiet × IsNoSchema schema × (string_bytes text ≡ schema_refusal)
OpeningCause facts schema reads (errors.LockFailure lock.LockBusy text) =
    IsSomeSchema schema × (facts.tells → FoundIndex schema reads) × facts.busy × (text ≡ None)
OpeningCause facts schema reads (errors.LockFailure (lock.IoError fault) text) =
    IsSomeSchema schema × IsDevice fault × facts.refused × (text ≡ None)
OpeningCause facts schema reads (errors.LockFailure lock.Memory text) = ⊥
OpeningCause facts schema reads (errors.OpenReadError error) =
    IsSomeSchema schema × (facts.tells → FoundIndex schema reads) × facts.free
    × ReadFault facts.refused facts.quiet (λ e. facts.tells → IndexRefused schema reads e)
    (λ path. facts.tells → IndexMissing schema reads path) error
OpeningCause facts schema reads errors.Memory = facts.quiet_behind
OpeningCause facts schema reads other =
    (text : List ℕ) × IsSchema schema text
    × OpenCause facts.tells text reads facts.refused_behind facts.quiet_behind other
