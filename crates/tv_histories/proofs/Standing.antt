-- Receipts that stand in a history.
use Rattle.std.proofs.Common.{◌≡◌, ⊎_elim, ◌<◌, ◌≤◌, ◌+◌, ℕ, List, length, Some, sym, ap, subst, ◌∙◌, arith}
use Rattle.std.specs.Prelude.{slice_get}
use Rattle.std.proofs.lemmas.Option.{slice_get_within}
use Rattle.tv_histories.specs.declared.entry.Entry.{Entry}
use Rattle.tv_histories.specs.declared.entry.Receipt.{Receipt}
use Rattle.tv_histories.specs.Receipts.{Stands, AllStand}
use Rattle.tv_histories.proofs.Places.{some_is, below_or_at}

-- so is each of the first ones, so many
abbrev pub StandBelow : ℕ → List Entry → List Receipt → Type 0
StandBelow n history receipts =
    (i : ℕ) (r : Receipt) → i < n → slice_get receipts i ≡ Some r → Stands history r

pub below_suc : (h : List Entry) (rs : List Receipt) (n : ℕ) (x : Receipt) → StandBelow n h rs → slice_get rs n ≡ Some x → Stands h x → StandBelow (n + 1) h rs
below_suc h rs n x before here stands i r less_suc at =
    let c = below_or_at i n less_suc in
    ⊎_elim (λ (less : i < n). before i r less at) (λ (same : i ≡ n). subst (λ (q : Receipt). Stands h q) (some_is (sym here ∙ ap (λ k. slice_get rs k) (sym same) ∙ at)) stands) c

pub all_below : (h : List Entry) (rs : List Receipt) (n : ℕ) → length rs ≤ n → StandBelow n h rs → AllStand h rs
all_below h rs n long below i r at = let within = slice_get_within rs i r at in below i r (omega arith) at
