-- A directory, and the sink to which its lines are told.
use Rattle.std.specs.Prelude.{ℕ, ◌≡◌, ◌+◌, ◌++◌, ◌∷◌, [], List, None, Option, Result, Some, OnOk, OnErr, min}
use Rattle.tv_base.specs.Streams.{Takes, TakesPart}
use Rattle.tv_formats.specs.Files.{Heard}
use Rattle.tv_base.specs.Texts.{last}
use Rattle.tv_device.specs.View.{View, Told}

-- both, and how many bytes of a line, its line feed counted, can be told without memory
pub record DeskState (D S : Type 0) : Type 0 where
  pub directory : D
  pub sink : S
  pub room : ℕ

-- what is told: what the directory tells, but no lines, since a sink knows no moments
abbrev pub told_at : Told → Told
told_at told = record told { heard = ⊥ }

-- the calls that either refused, as far as 64 bits count
abbrev pub both : ℕ → ℕ → ℕ
both directory sink = min (directory + sink) last

-- what a sink took, as one piece that has no moment, so that a call which tells nothing has the sink take
-- nothing
abbrev pub as_heard : Option (List ℕ) → Heard
as_heard None = []
as_heard (Some taken) = (0, taken) ∷ []

-- all that is said of a directory whose sink took this, and has refused so many calls
abbrev pub at_desk : {W : Type 0} → (taken : Option (List ℕ)) (room sink : ℕ) → View W → View W
at_desk taken room sink view =
    record view { heard = as_heard taken; room = room; faults = both view.faults sink }

-- all that is said of a desk, by what is said of its directory and of its sink
abbrev pub desk_view : {D S W : Type 0} → (D → View W) → (taken : S → Option (List ℕ))
    → (faults : S → ℕ) → DeskState D S → View W
desk_view view taken faults desk =
    at_desk (taken desk.sink) desk.room (faults desk.sink) (view desk.directory)

-- A line is told to the sink alone: the directory is what it was. At Ok the sink took the line and its line
-- feed, and else a first part of these.
pub record TellsSink {A D E S : Type 0} (taken : S → Option (List ℕ)) (old new : DeskState D S)
    (line : List ℕ) (result : Result A E) : Type 0 where
  pub takes : OnOk result (Takes (line ++ 10 ∷ []) (taken old.sink) (taken new.sink))
  pub part : OnErr result (TakesPart (line ++ 10 ∷ []) (taken old.sink) (taken new.sink))
  pub directory : new.directory ≡ old.directory
