use Rattle.std.proofs.Common.{◌≡◌, take, reverse}
use Rattle.std.specs.Int.Digits.{number_from_digits_after}
use Rattle.tv_base.specs.Bytes.{of_groups}
use Rattle.tv_base.proofs.vint.number_of.Given as goal

abbrev pub invariant-loop-i : goal.invariant-loop-i
invariant-loop-i l =
    number_from_digits_after 128 l.number (reverse (take l.i l.lower)) ≡ of_groups l.highest l.lower
