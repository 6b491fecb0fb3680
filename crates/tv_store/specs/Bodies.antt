-- The bodies of sealed files, as they are read.
use Rattle.std.specs.Prelude.{ℕ, ◌≡◌, true, List, ◌∷◌, ◌++◌, map, Option, Some, None, string_bytes}
use Rattle.tv_formats.specs.Names.{has}
use Rattle.tv_formats.specs.Files.{Reads}
use Rattle.tv_formats.specs.Footer.{IsGood}
use Rattle.tv_machine.specs.Readable.{IsGoodFile, AreGoodFiles}
use Rattle.tv_machine.specs.ReaderEvents.{body_in}
use Rattle.tv_machine.specs.State.{State, SealedFile, file_at}
use Rattle.tv_formats.specs.declared.segment.LiveSegment.{LiveSegment}
use Rattle.tv_formats.specs.Segments.{all_required, required_names}
use Rattle.tv_machine.specs.CommitEvents.{is_sealed}
use Rattle.tv_base.specs.declared.open_errors.OpenReadError.{OpenReadError}
use Rattle.tv_base.specs.declared.open_errors.OpenReadError.TheVariants as read
use Rattle.tv_base.specs.declared.error.TantivyError.{TantivyError}
use Rattle.tv_framing.specs.Footers.{Refuses}
use Rattle.tv_managed.specs.Reading.{HasNoBody, HasOtherFormat}
use Rattle.tv_store.specs.ReadCauses.{ApplyCause, reading_facts}

-- Why the bytes of the file of this path are refused, which the error says: they end in no footer, for the
-- first reason that holds, or in one of a format that isn't read.
abbrev pub RefusesFile : (bytes path : List ℕ) → OpenReadError → Type 0
RefusesFile bytes path (read.IoError fault named) = (string_bytes named ≡ path) × Refuses bytes fault
RefusesFile bytes path (read.IncompatibleIndex why) = HasOtherFormat bytes why
RefusesFile bytes path other = ⊥

-- the name reads bytes that are refused with this error
pub record RefusesAt (reads : Reads) (name : List ℕ) (error : OpenReadError) : Type 0 where
  pub bytes : List ℕ
  pub there : reads name ≡ Some bytes
  pub why : RefusesFile bytes name error
  pub no_body : HasNoBody bytes

-- the name reads a file that can be read
abbrev pub ReadsGoodFile : Option (List ℕ) → Type 0
ReadsGoodFile read = (bytes : List ℕ) × (read ≡ Some bytes) × IsGood bytes

-- each of these names does
abbrev pub AreGood : Reads → List (List ℕ) → Type 0
AreGood reads names = (n : List ℕ) → has names n ≡ true → ReadsGoodFile (reads n)

-- these are the bodies of the files under these names, each of which is sealed and has a footer
pub record AreBodies (s : State) (names : List (List ℕ)) (bodies : List (List ℕ)) : Type 0 where
  pub each : bodies ≡ map (λ name. body_in (file_at s name)) names
  pub good : (n : List ℕ) → has names n ≡ true → IsGoodFile s n

-- each of these is a sealed file of the state
pub record AreSealed (s : State) (names : List (List ℕ)) : Type 0 where
  pub each : (n : List ℕ) → has names n ≡ true → is_sealed (file_at s n) ≡ true

-- a segment was read, with the bodies of the files that it requires
pub record ReadsSegment (s : State) (id : List ℕ) (segment : LiveSegment) (read_id : List ℕ)
    (read_segment : LiveSegment) (bodies : List (List ℕ)) : Type 0 where
  pub id_is : read_id ≡ id
  pub segment_is : read_segment ≡ segment
  pub bodies_are : AreBodies s (required_names id segment) bodies

-- some segments were read, with the bodies of the files that they require
pub record ReadsSegments (s : State) (segments shown : List (List ℕ × LiveSegment))
    (bodies : List (List (List ℕ))) : Type 0 where
  pub are : shown ≡ segments
  pub each : bodies ≡ map (λ e. map (λ name. body_in (file_at s name)) (required_names e.0 e.1)) segments
  pub good : AreGoodFiles s (all_required segments)

-- Of these files, one after the other, the first that can't be read is refused with this error: each before
-- it can be read.
pub record MeetsBadFile (s : State) (names : List (List ℕ)) (error : OpenReadError) : Type 0 where
  pub front : List (List ℕ)
  pub path : List ℕ
  pub rest : List (List ℕ)
  pub split : names ≡ front ++ path ∷ rest
  pub good : AreGoodFiles s front
  -- it is sealed, with these bytes
  pub bytes : List ℕ
  pub sealed : file_at s path ≡ Some (SealedFile bytes)
  -- which are refused
  pub why : RefusesFile bytes path error
  pub no_body : HasNoBody bytes

-- Of these files, one after the other, the first that can't be read is refused with this error, by what the
-- names read, where that is told.
pub record RefusesFirst (tells : Type 0) (reads : Reads) (names : List (List ℕ))
    (error : OpenReadError) : Type 0 where
  pub front : List (List ℕ)
  pub path : List ℕ
  pub rest : List (List ℕ)
  pub split : names ≡ front ++ path ∷ rest
  pub good : tells → AreGood reads front
  pub refuses : tells → RefusesAt reads path error

-- why one of these files isn't read: the device refused it, or it is the first whose bytes are refused, or it
-- isn't there
abbrev pub FailsAt : (tells : Type 0) → Reads → List (List ℕ)
    → (refused quiet : Type 0) → TantivyError → Type 0
FailsAt tells reads names refused quiet =
    ApplyCause (reading_facts refused quiet (RefusesFirst tells reads names)
    (λ path. (has names path ≡ true) × (tells → reads path ≡ None)))
