-- A text in memory that is read in pieces, and some of whose reads are refused.
use Rattle.std.specs.Prelude.{ℕ, ◌+◌, ◌==◌, ◌&&◌, Bool, nat_lt, List, drop, min}
use Rattle.std.specs.List.{list_any}

-- what is left, the numbers of the calls that are refused, the number of the next call, and how many were
-- refused
pub record TextState : Type 0 where
  pub left : List ℕ
  pub fail_at : List ℕ
  pub call : ℕ
  pub faults : ℕ

-- the largest number of 64 bits, at which numbers and counts stop
abbrev pub last : ℕ
last = 18446744073709551615

-- one more, as far as that
abbrev pub counted : ℕ → ℕ
counted n = min (n + 1) last

-- the next call is refused: its number is in the list, and it isn't the last one
abbrev pub is_refused : TextState → Bool
is_refused text = nat_lt text.call last && list_any (λ n. n == text.call) text.fail_at

-- after a refused call
abbrev pub after_refusal : TextState → TextState
after_refusal text = record text { call = counted text.call; faults = counted text.faults }

-- after a call that read this many bytes
abbrev pub after_read : ℕ → TextState → TextState
after_read n text = record text { left = drop n text.left; call = counted text.call }
