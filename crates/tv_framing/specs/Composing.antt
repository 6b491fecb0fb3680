-- A composite file that is being written.
use Rattle.std.specs.Prelude.{ℕ, ◌≡◌, ◌≤◌, ◌-◌, ◌++◌, ◌∷◌, [], List, length, take, drop, Result, IfErr, OnOk}
use Rattle.std.specs.List.{AllByRecursion}
use Rattle.tv_base.specs.Causes.{IoCause}
use Rattle.tv_base.specs.declared.io.IoError.{IoError}
use Rattle.tv_framing.specs.Composite.{Part, AreDistinct, IsAddress, address, grown}
use Rattle.tv_framing.specs.declared.starts.Start.{Start}
use Rattle.tv_framing.specs.Starts.{Fill, start_addresses}

-- the writer, what it had taken before, and the parts so far
pub record Composing (W : Type 0) : Type 0 where
  pub writer : W
  pub before : List ℕ
  pub parts : List Part

-- the parts so far with one more body, which is empty
abbrev pub begun : {W : Type 0} → Composing W → (field idx : ℕ) → Composing W
begun c field idx = record c { parts = c.parts ++ record { addr = address field idx; body = [] } ∷ [] }

-- The body that was begun last has these bytes too. Where memory is wanted, none of them was taken.
pub record GrowsComposite {W A : Type 0} (old new : Composing W) (bytes : List ℕ)
    (result : Result A IoError) : Type 0 where
  pub ok : OnOk result ((new.parts ≡ grown old.parts bytes) × (new.before ≡ old.before))
  pub memory : IfErr result (IoCause (Unit {0}) ((new.parts ≡ old.parts) × (new.before ≡ old.before)))

-- what the writer took, without the last bytes, so many
abbrev pub before_last : ℕ → List ℕ → List ℕ
before_last n taken = take (length taken - n) taken

-- the last bytes, so many, of what the writer took
abbrev pub the_last : ℕ → List ℕ → List ℕ
the_last n taken = drop (length taken - n) taken

-- so many bytes of what was taken are those of the bodies, which begin at these starts
pub record IsBegun (starts : List Start) (written : ℕ) (taken : List ℕ) : Type 0 where
  pub within : written ≤ length taken
  pub fill : Fill starts written
  pub each : AllByRecursion IsAddress (start_addresses starts)
  pub distinct : AreDistinct (start_addresses starts)
