-- Names that calls don't touch.
use Rattle.std.proofs.Common.{◌≡◌, ◌++◌, ◌∷◌, ℕ, Bool, true, false, cond, List, [], Some, Result, IsSome, refl, sym, subst}
use Rattle.std.specs.BTreeMap.{is_at}
use Rattle.tv_formats.specs.Disk.{DiskState, Disk, TouchesOnly}
use Rattle.tv_formats.specs.Names.{byte_cmp, at}
use Rattle.tv_formats.proofs.DiskLaws.{touches_file, touches_more}
use Rattle.tv_formats.proofs.Entries.{at_itself}
use Rattle.tv_base.specs.declared.io.IoError.{IoError}
use Rattle.tv_base.specs.declared.open_errors.OpenWriteError.{OpenWriteError}
use Rattle.tv_device.specs.Images.{OpensState, WritesState}
use Rattle.tv_device.specs.Persisting.{IsAmong}
use Rattle.tv_device.specs.TouchLaws.{others_opened, touches_by}

-- ---- calls that make and write a file, whatever they answer

pub touches_opened : {A : Type 0} {old new : Disk} {name : List ℕ} {result : Result A OpenWriteError} → OpensState old new name result → TouchesOnly (λ n. n ≡ name) old new
touches_opened {result = result} opens = touches_file opens.time opens.no_more (others_opened result opens)

pub touches_written : {A : Type 0} {lives : Bool} {old new : Disk} {other name : List ℕ} {state : DiskState} {result : Result A IoError} → other ≡ name → WritesState lives old new other state result → TouchesOnly (λ n. n ≡ name) old new
touches_written {lives = lives} {old} {new} is writes = subst (λ (m : List ℕ). TouchesOnly (λ n. n ≡ m) old new) is (touches_by lives writes)

-- ---- one of several files

among_at : (before rest : List (List ℕ × List ℕ)) (name bytes : List ℕ) → IsAmong (before ++ (name, bytes) ∷ rest) name
among_at [] rest name bytes = rw (at_itself name) refl
among_at (f ∷ before) rest name bytes =
    elim (is_at (byte_cmp name) f.0) as (λ b. IsSome (cond b (Some f.1) (at (before ++ (name, bytes) ∷ rest) name))) [
      | true ↦ refl
      | false ↦ among_at before rest name bytes
    ]

-- a file that is one of these was touched
pub touches_among : {old new : Disk} (all before rest : List (List ℕ × List ℕ)) (name bytes : List ℕ) → all ≡ before ++ (name, bytes) ∷ rest → TouchesOnly (λ n. n ≡ name) old new → TouchesOnly (IsAmong all) old new
touches_among all before rest name bytes split touches =
    touches_more (λ n is. subst (IsAmong all) (sym is) (subst (λ (l : List (List ℕ × List ℕ)). IsAmong l name) (sym split) (among_at before rest name bytes))) touches
