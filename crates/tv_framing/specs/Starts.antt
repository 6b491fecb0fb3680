-- Where the bodies of a composite file begin.
use Rattle.std.specs.Prelude.{ℕ, ◌≡◌, ◌≤◌, ◌-◌, List, [], ◌∷◌, ◌++◌, length, map, slice_range}
use Rattle.tv_formats.specs.Footer.{four_bytes}
use Rattle.tv_formats.specs.VInt.{vint}
use Rattle.tv_framing.specs.declared.address.FileAddr.{FileAddr}
use Rattle.tv_framing.specs.declared.starts.Start.{Start}
use Rattle.tv_framing.specs.Composite.{Part}

-- where the body before the next one ends
abbrev pub next_start : ℕ → List Start → ℕ
next_start end [] = end
next_start end (start ∷ starts) = start.offset

-- the parts whose bodies begin there: each runs to the next, and the last one to the end
abbrev pub parts_of : List ℕ → List Start → List Part
parts_of bytes [] = []
parts_of bytes (start ∷ starts) =
    record { addr = start.addr; body = slice_range bytes start.offset (next_start (length bytes) starts) }
    ∷ parts_of bytes starts

-- no start lies before the one before it, or behind the end
abbrev pub Ascend : ℕ → List Start → ℕ → Type 0
Ascend from [] end = from ≤ end
Ascend from (start ∷ starts) end = (from ≤ start.offset) × Ascend start.offset starts end

-- the bodies fill everything up to the end: the first begins at 0
abbrev pub Fill : List Start → ℕ → Type 0
Fill [] end = end ≡ 0
Fill (start ∷ starts) end = (start.offset ≡ 0) × Ascend 0 starts end

-- the addresses of starts, in their order
abbrev pub start_addresses : List Start → List FileAddr
start_addresses starts = map (λ start. start.addr) starts

-- the list of these starts: offsets as differences
abbrev pub listed_from : ℕ → List Start → List ℕ
listed_from before [] = []
listed_from before (start ∷ starts) =
    vint (start.offset - before)
    ++ (four_bytes start.addr.field ++ (vint start.addr.idx ++ listed_from start.offset starts))

-- the list of a composite file's bodies as it is written: their number, and then each start
abbrev pub footing_text : List Start → List ℕ
footing_text starts = vint (length starts) ++ listed_from 0 starts

-- the list of a composite file's bodies, and behind it how long it is
abbrev pub list_text : List Start → List ℕ
list_text starts = footing_text starts ++ four_bytes (length (footing_text starts))
