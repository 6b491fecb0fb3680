-- What a crash may leave of an index while it is opened, and while its commit is saved.
use Rattle.std.specs.Prelude.{◌≡◌, ◌⊎◌, ℕ, List, None, Result, IfErr, MatchResult, OnOk}
use Rattle.tv_base.specs.declared.error.TantivyError.{TantivyError}
use Rattle.tv_base.specs.declared.error.TantivyError.TheVariants as errors
use Rattle.tv_formats.specs.Disk.{DiskState, Sealed, Possible, Disk, possible_now, Within, IsSettled, Throughout, OnlyMoves}
use Rattle.tv_formats.specs.Listed.{ImagesListTheirFiles}
use Rattle.tv_formats.specs.Listing.{IsListFile}
use Rattle.tv_formats.specs.Names.{meta_name}
use Rattle.tv_device.specs.Images.{SameStates}
use Rattle.tv_device.specs.declared.directory.Directory.{Ghosts}
use Rattle.tv_managed.specs.Crashes.{AreListed, Gains, IsGiven, IsNewList, IsTracked, OrItsList}
use Rattle.tv_managed.specs.Names.{ManagedNames}
use Rattle.tv_managed.specs.declared.managed_directory.Refused.{Refused}

-- each name has one possible state, that in which it stands on this disk
abbrev pub as_it_stands : Disk → Possible
as_it_stands disk n s = s ≡ disk.now n

-- No more is possible than before; or each name is as it stood, but that this file may have this
-- text, and the list its name.
abbrev pub IsOldOrSaved : Disk → ManagedNames → (file text : List ℕ) → Possible → Type 0
IsOldOrSaved old names file text possible =
    Within (possible_now old) possible
    ⊎ Gains (IsGiven names file (Sealed text)) (as_it_stands old) possible

-- no more is possible than before; or each name is as it stood, but that the list may have the name
-- of this file
abbrev pub IsOldOrListed : Disk → ManagedNames → (file : List ℕ) → Possible → Type 0
IsOldOrListed old names file possible =
    Within (possible_now old) possible ⊎ Gains (IsNewList names file) (as_it_stands old) possible

-- a text that a file is given
pub record FileText : Type 0 where
  pub file : List ℕ
  pub text : List ℕ

-- this file is given this text
abbrev pub giving : (file text : List ℕ) → FileText
giving file text = record { file = file; text = text }

-- A file is given this text. At each moment a crash leaves no more than it might before, or each
-- name as it stood, but that the file may have the text, and the list its name. Where the error is
-- `wanted`, which says that memory was wanted, it leaves at each moment no more than it might
-- before, or each name as it stood, but that the list may have the file's. At Ok it leaves each
-- name as it is, and the file has the text.
pub record SavesStates {A E : Type 0} (old new : Disk) (names : ManagedNames) (given : FileText)
    (wanted : E) (result : Result A E) : Type 0 where
  pub moments : Throughout (IsOldOrSaved old names given.file given.text) old new
  pub now : OnlyMoves (OrItsList names given.file) old new
  pub memory : IfErr result (λ error. error ≡ wanted
      → Throughout (IsOldOrListed old names given.file) old new)
  pub kept : OnOk result (IsSettled new × (new.now given.file ≡ Sealed given.text))

-- this is `meta.json` with this text, or the list
abbrev pub IsMade : (text n : List ℕ) → DiskState → Type 0
IsMade text n s = ((n ≡ meta_name) × (s ≡ Sealed text)) ⊎ IsListFile n

-- No more is possible than before; or `made` is so, and each name is as it stood, but that
-- `meta.json` may have this text, and the list may be in any state.
abbrev pub IsOldOrMade : (made : Type 0) → Disk → (text : List ℕ) → Possible → Type 0
IsOldOrMade made old text possible =
    Within (possible_now old) possible ⊎ Gains (λ n s. made × IsMade text n s) (as_it_stands old) possible

-- no more is possible than before; or `made` is so, and each name is as it stood, but that the list
-- may be in any state
abbrev pub IsOldOrRelisted : (made : Type 0) → Disk → Possible → Type 0
IsOldOrRelisted made old possible =
    Within (possible_now old) possible ⊎ Gains (λ n s. made × IsListFile n) (as_it_stands old) possible

-- An index may be made with this first text, where `made` is so. At each moment a crash leaves no
-- more than it might before, or what may be left of making it; where memory was wanted, no more
-- than it might before, or each name but the list as it stood. At Ok a crash leaves each name as it
-- is, where it did so before.
pub record MakesStates {A : Type 0} (old new : Disk) (made : Type 0) (text : List ℕ)
    (result : Result A TantivyError) : Type 0 where
  pub moments : Throughout (IsOldOrMade made old text) old new
  pub memory : IfErr result (λ error. error ≡ errors.Memory → Throughout (IsOldOrRelisted made old) old new)
  pub settled : OnOk result (IsSettled old → IsSettled new)

-- What an opened directory leaves to a crash: each name as it is. Where each image that a crash might leave
-- before it was opened listed its files, the managed names keep track now, and each of them is on the list,
-- whatever a crash may leave of that.
pub record TracksFrom {D W C : Type 0} (g : Ghosts D W C) (before : D) (now : D × ManagedNames) : Type 0 where
  pub settled : IsSettled (g.disk now.0)
  pub tracked : ImagesListTheirFiles (possible_now (g.disk before)) → IsTracked g now
  pub listed : ImagesListTheirFiles (possible_now (g.disk before)) → AreListed g now

-- An opening that makes nothing, whatever it answers: at each moment a crash leaves no more than it might
-- before, and each name stands as it stood.
pub record OnlyLooks {D W C : Type 0} (g : Ghosts D W C) (before now : D) : Type 0 where
  pub moments : Throughout (Within (possible_now (g.disk before))) (g.disk before) (g.disk now)
  pub stands : SameStates (g.disk before) (g.disk now)

-- An opening that makes an index with this first text where `made` is so, whatever it answers: at each
-- moment a crash leaves no more than it might before, or what may be left of making it. Where each image
-- that it might leave before listed its files, each that it may leave at any moment does.
pub record MayMake {D W C : Type 0} (g : Ghosts D W C) (made : Type 0) (text : List ℕ)
    (before now : D) : Type 0 where
  pub moments : Throughout (IsOldOrMade made (g.disk before) text) (g.disk before) (g.disk now)
  pub listed : ImagesListTheirFiles (possible_now (g.disk before))
      → Throughout ImagesListTheirFiles (g.disk before) (g.disk now)

-- An opening that is refused with this error, and may have made an index with this first text where
-- `made` is so. Where memory was wanted, a crash leaves at each moment no more than it might
-- before, or each name but the list as it stood.
pub record MakesNone {D W C : Type 0} (g : Ghosts D W C) (made : Type 0) (text : List ℕ)
    (before now : D) (error : TantivyError) : Type 0 where
  pub makes : MayMake g made text before now
  pub memory : error ≡ errors.Memory
      → Throughout (IsOldOrRelisted made (g.disk before)) (g.disk before) (g.disk now)

-- an opening that makes nothing; at Ok all is settled, and the directory keeps track, where it may
abbrev pub LooksSafely : {A D W C : Type 0} → Ghosts D W C → (before : D) → (opened : A → D × ManagedNames)
    → Result A (Refused D) → Type 0
LooksSafely g before opened result =
    MatchResult result (λ a. OnlyLooks g before (opened a).0 × TracksFrom g before (opened a))
    (λ refused. OnlyLooks g before refused.directory)

-- An opening that may make an index with this first text where `made` is so. At Ok all is settled,
-- and the directory keeps track, where it may; where memory was wanted, a crash leaves at each
-- moment no more than it might before, or each name but the list as it stood.
abbrev pub MakesSafely : {A D W C : Type 0} → Ghosts D W C → (made : Type 0) → (text : List ℕ) → (before : D)
    → (opened : A → D × ManagedNames) → Result A (Refused D) → Type 0
MakesSafely g made text before opened result =
    MatchResult result (λ a. MayMake g made text before (opened a).0 × TracksFrom g before (opened a))
    (λ refused. MakesNone g made text before refused.directory refused.error)

-- where the content is told, there is no `meta.json`
abbrev pub LacksMeta : {D W C : Type 0} → Ghosts D W C → D → Type 0
LacksMeta g directory = g.told.content → (g.view directory).reads meta_name ≡ None
