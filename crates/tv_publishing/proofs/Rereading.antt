-- What a second read shows.
use Rattle.std.proofs.Common.{◌≡◌, ◌≤◌, ℕ, ◌++◌, length, List, Option, Some, None, refl, ap, sym, ◌∙◌, length-append, arith}
use Rattle.std.specs.Prelude.{option_map}
use Rattle.tv_machine.specs.State.{Snapshot}
use Rattle.tv_publishing.specs.Lists.{IsPrefix, at_number}
use Rattle.tv_publishing.specs.Reading.{Handle, last_read, seen_of}
use Rattle.tv_publishing.specs.declared.taken.Seen.{Seen}
use Rattle.tv_publishing.proofs.Prefixes.{stays_at}

seen_in : (o : Option Snapshot) (s : Seen) → option_map seen_of o ≡ Some s → (x : Snapshot) × (o ≡ Some x)
seen_in None s e = cc
seen_in (Some x) s e = (x, refl)

no_longer : {A : Type 0} (xs ys : List A) → IsPrefix xs ys → length xs ≤ length ys
no_longer xs ys p = let e = ap length p.1 in omega (arith, length-append xs p.0)

-- what was seen first stands at no later place
pub no_older : (first second : Handle) (s : Seen) → first.read ≡ length first.known
    → option_map seen_of (last_read first) ≡ Some s → IsPrefix first.known second.known
    → second.read ≡ length second.known
    → (n : ℕ) × (option_map seen_of (at_number second.known n) ≡ Some s) × (n ≤ second.read)
no_older first second s whole seen more last =
    let x = seen_in (last_read first) s seen in
    let there = stays_at first.known second.known first.read x.0 more x.1 in
    let l = no_longer first.known second.known more in
    (first.read, ap (λ o. option_map seen_of o) (there ∙ sym x.1) ∙ seen, omega arith)
