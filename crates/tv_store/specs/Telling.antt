-- What is heard of lines that are told.
use Rattle.std.specs.Prelude.{ℕ, ◌≡◌, ◌⊎◌, ◌≤◌, true, List, [], ◌∷◌, ◌++◌, map, Result, IfOk, OnOk, OnErr}
use Rattle.tv_base.specs.declared.error.TantivyError.{TantivyError}
use Rattle.tv_device.specs.View.{View, Told}
use Rattle.tv_device.specs.declared.directory.Directory.{Ghosts}
use Rattle.tv_formats.specs.Files.{Heard, has_no_feed}

-- a line was told, at a moment between these two
pub record TellsLine (before now : Heard) (from to : ℕ) (line : List ℕ) : Type 0 where
  pub moment : ℕ
  pub later : from ≤ moment
  pub sooner : moment ≤ to
  pub heard : now ≡ before ++ (moment, line ++ 10 ∷ []) ∷ []

-- no whole line was told: nothing, or a piece without a line feed
abbrev pub TellsNoLine : Heard → Heard → Type 0
TellsNoLine before now =
    (now ≡ before)
    ⊎ ((moment : ℕ) × (part : List ℕ) × (has_no_feed part ≡ true) × (now ≡ before ++ (moment, part) ∷ []))

-- nothing was told, or a first part of this line without its line feed
abbrev pub TellsFirstPart : Heard → Heard → List ℕ → Type 0
TellsFirstPart before now line =
    (now ≡ before) ⊎ ((moment : ℕ) × (part : List ℕ) × (rest : List ℕ) × (line ≡ part ++ rest)
    × (now ≡ before ++ (moment, part) ∷ []))

-- the pieces were told one after the other, between these two moments
abbrev pub AreBetween : (from : ℕ) → Heard → (to : ℕ) → Type 0
AreBetween from [] to = from ≤ to
AreBetween from (piece ∷ pieces) to = (from ≤ piece.0) × AreBetween piece.0 pieces to

-- these lines were told, one piece for each, between these two moments
pub record TellsLines (before now : Heard) (from to : ℕ) (lines : List (List ℕ)) : Type 0 where
  pub pieces : Heard
  pub heard : now ≡ before ++ pieces
  pub moments : AreBetween from pieces to
  pub each : map (λ piece. piece.1) pieces ≡ map (λ line. line ++ 10 ∷ []) lines

-- This line was told, at a moment of the call; after an error no more than a first part of it was, without
-- its line feed.
pub record TriesLine {A E W : Type 0} (told : Told) (old new : View W) (line : List ℕ)
    (result : Result A E) : Type 0 where
  pub ok : told.heard → OnOk result (TellsLine old.heard new.heard old.moment new.moment line)
  pub err : told.heard → OnErr result (TellsNoLine old.heard new.heard)
  pub part : told.heard → OnErr result (TellsFirstPart old.heard new.heard line)

-- The answer was told, at a moment of the call; after an error no whole line was.
pub record TellsAnswer {O W C : Type 0} (g : Ghosts O W C) (old new : O)
    (result : Result (List ℕ) TantivyError) : Type 0 where
  pub ok : g.told.heard
      → IfOk result (TellsLine (g.view old).heard (g.view new).heard (g.view old).moment (g.view new).moment)
  pub err : g.told.heard → OnErr result (TellsNoLine (g.view old).heard (g.view new).heard)
