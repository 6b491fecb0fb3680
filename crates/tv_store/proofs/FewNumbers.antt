-- Numbers that are few stay few.
use Rattle.std.proofs.Common.{◌≡◌, ℕ, ◌+◌, ◌≤◌, List, [], ◌∷◌, Result, Ok, Err, ap, arith}
use Rattle.std.specs.Prelude.{OnOk}
use Rattle.std.specs.List.{AllByRecursion}
use Rattle.tv_formats.specs.Collections.{Collections}
use Rattle.tv_machine.specs.State.{Reader, Readers}
use Rattle.tv_catalog.specs.ReaderNumbers.{FewNumbers}

few_readers : (small large : ℕ) (readers : List (ℕ × Reader)) → small ≤ large → AllByRecursion (λ e. e.1.next ≤ small) readers → AllByRecursion (λ e. e.1.next ≤ large) readers
few_readers small large [] le h = tt
few_readers small large (e ∷ readers) le h = (omega (arith, h.0), few_readers small large readers le h.1)

-- below a larger bound too
pub few_below : (small large : ℕ) (reading : Readers) (collections : Collections) → small ≤ large → FewNumbers small reading collections → FewNumbers large reading collections
few_below small large reading collections le h = record {
  next_reader = omega (arith, h.next_reader);
  next_searcher = omega (arith, h.next_searcher);
  next_collection = omega (arith, h.next_collection);
  next_snapshots = few_readers small large reading.readers le h.next_snapshots;
}

pub few_more : (bound n : ℕ) (reading : Readers) (collections : Collections) → FewNumbers bound reading collections → FewNumbers (bound + n) reading collections
few_more bound n reading collections h = few_below bound (bound + n) reading collections (omega arith) h

-- so no more than some
pub few_given : {A E : Type 0} {before now : Collections} (n : ℕ) (result : Result A E) → now ≡ before → OnOk result (now.next ≤ before.next + n)
few_given n (Ok a) same = omega (arith, ap (λ (c : Collections). c.next) same)
few_given n (Err e) same = tt
