-- What `validate` tells.
use Rattle.std.specs.Prelude.{ℕ, ◌≡◌, ◌≢◌, ◌↔◌, true, List, [], ◌∷◌, ◌++◌, Some, codes}
use Rattle.std.specs.List.{flat_map}
use Rattle.tv_formats.specs.Checksum.{crc32}
use Rattle.tv_formats.specs.Footer.{IsFramed}
use Rattle.tv_formats.specs.FooterForm.{FooterNumbers}
use Rattle.tv_events.specs.AnswerLines.{line}
use Rattle.tv_formats.specs.Segments.{segment_names}
use Rattle.tv_formats.specs.Names.{has}
use Rattle.tv_machine.specs.ReportEvents.{committed_names, damaged_files, validate_step}
use Rattle.tv_machine.specs.State.{State, SealedFile, file_at}

-- a managed name among all that the segments of the current commit have
abbrev pub IsCommitted : State → List ℕ → Type 0
IsCommitted s n = (has s.managed n ≡ true) × (has (flat_map segment_names s.catalog.commit.segments) n ≡ true)

-- a sealed file that has a body and a footer, of whatever format
pub record IsReadable (s : State) (n : List ℕ) : Type 0 where
  pub bytes : List ℕ
  pub sealed : file_at s n ≡ Some (SealedFile bytes)
  pub footer : FooterNumbers
  pub body : List ℕ
  pub framed : IsFramed bytes footer body

-- a sealed file that has a body and a footer, in which the checksum isn't that of the body
abbrev pub IsDamaged : State → List ℕ → Type 0
IsDamaged s n = (file : IsReadable s n) × (file.footer.crc ≢ crc32 file.body)

-- What a validation tells, in each state.
pub record Validates (s : State) : Type 0 where
  -- where each of these files can be read, some of them are named
  pub told : ((n : List ℕ) → IsCommitted s n → IsReadable s n)
      → (validate_step s).0 ≡ line (codes "damaged") (damaged_files s (committed_names s.catalog s.managed))
  -- exactly those whose checksum isn't that of their body
  pub damaged : (n : List ℕ) → (has (damaged_files s (committed_names s.catalog s.managed)) n ≡ true)
      ↔ (IsCommitted s n × IsDamaged s n)
  -- else the first that can't be read, in the order of the names
  pub refused : (front rest : List (List ℕ)) (n : List ℕ)
      → committed_names s.catalog s.managed ≡ front ++ n ∷ rest
      → ((m : List ℕ) → has front m ≡ true → IsReadable s m) → (IsReadable s n → ⊥)
      → (validate_step s).0 ≡ line (codes "refused") (codes "unreadable" ∷ n ∷ [])
  -- nothing changes
  pub same : (validate_step s).1 ≡ s
