-- How far the numbers of readers, of their snapshots and of searchers come by each change.
use Rattle.std.proofs.Common.{◌≡◌, ℕ, ◌+◌, ◌≤◌, Bool, true, false, cond, List, [], ◌∷◌, Option, Some, map, refl, arith}
use Rattle.std.specs.List.{AllByRecursion}
use Rattle.std.specs.Map.{remove_entry}
use Rattle.std.specs.BTreeMap.{is_at, insert_entry}
use Rattle.std.specs.Ordering.{nat_cmp, match_ordering}
use Rattle.std.specs.declared.cmp.Ordering.{Ordering}
use Rattle.std.specs.declared.cmp.Ordering.TheVariants.{Less, Equal, Greater}
use Rattle.tv_formats.specs.Collections.{Collections}
use Rattle.tv_machine.specs.ReloadEvents.{served, told_of_commit, with_notices}
use Rattle.tv_machine.specs.State.{Reader, Readers, Snapshot, at_number}
use Rattle.tv_catalog.specs.Actions.{all_served}
use Rattle.tv_catalog.specs.ReaderNumbers.{FewNumbers}

-- no reader gives its next snapshot a number above the bound
abbrev AreFew : ℕ → List (ℕ × Reader) → Type 0
AreFew bound es = AllByRecursion (λ e. e.1.next ≤ bound) es

more : (bound : ℕ) (es : List (ℕ × Reader)) → AreFew bound es → AreFew (bound + 1) es
more bound [] h = tt
more bound (e ∷ es) h = (omega (arith, h.0), more bound es h.1)

placed : (bound : ℕ) (r : Ordering) (number : ℕ) (reader : Reader) (e : ℕ × Reader) (es rest : List (ℕ × Reader)) → reader.next ≤ bound → AreFew bound (e ∷ es) → AreFew bound rest
    → AreFew bound (match_ordering r ((number, reader) ∷ e ∷ es) ((e.0, reader) ∷ es) (e ∷ rest))
placed bound Less number reader e es rest here h others = (here, h)
placed bound Equal number reader e es rest here h others = (here, h.1)
placed bound Greater number reader e es rest here h others = (h.0, others)

put : (bound : ℕ) (es : List (ℕ × Reader)) (number : ℕ) (reader : Reader) → reader.next ≤ bound → AreFew bound es → AreFew bound (insert_entry nat_cmp es number reader)
put bound [] number reader here h = (here, tt)
put bound (e ∷ es) number reader here h = placed bound (nat_cmp number e.0) number reader e es (insert_entry nat_cmp es number reader) here h (put bound es number reader here h.1)

cut : (bound : ℕ) (b : Bool) (e : ℕ × Reader) (es rest : List (ℕ × Reader)) → AreFew bound (e ∷ es) → AreFew bound rest → AreFew bound (cond b es (e ∷ rest))
cut bound true e es rest h others = h.1
cut bound false e es rest h others = (h.0, others)

left : (bound : ℕ) (es : List (ℕ × Reader)) (number : ℕ) → AreFew bound es → AreFew bound (remove_entry (is_at (nat_cmp number)) es)
left bound [] number h = tt
left bound (e ∷ es) number h = cut bound (is_at (nat_cmp number) e.0) e es (remove_entry (is_at (nat_cmp number)) es) h (left bound es number h.1)

chosen : (bound : ℕ) (b : Bool) (x reader : Reader) (rest : Option Reader) → cond b (Some x) rest ≡ Some reader → x.next ≤ bound → (rest ≡ Some reader → reader.next ≤ bound) → reader.next ≤ bound
chosen bound true x reader rest e here others = let same : x ≡ reader = cc in rw (← same) here
chosen bound false x reader rest e here others = others e

found : (bound : ℕ) (es : List (ℕ × Reader)) (number : ℕ) (reader : Reader) → AreFew bound es → at_number es number ≡ Some reader → reader.next ≤ bound
found bound [] number reader h e = absurd cc
found bound (x ∷ es) number reader h e = chosen bound (is_at (nat_cmp number) x.0) x.1 reader (at_number es number) e h.0 (found bound es number reader h.1)

-- the number of a reader's next snapshot
pub few_found : (bound : ℕ) (reading : Readers) (collections : Collections) (number : ℕ) (reader : Reader) → FewNumbers bound reading collections → at_number reading.readers number ≡ Some reader → reader.next ≤ bound
few_found bound reading collections number reader few e = found bound reading.readers number reader few.next_snapshots e

-- one more reader
pub few_added : (bound : ℕ) (reading : Readers) (collections : Collections) (readers : List (ℕ × Reader)) (number : ℕ) (reader : Reader) → readers ≡ insert_entry nat_cmp reading.readers number reader → reader.next ≤ bound + 1
    → FewNumbers bound reading collections → FewNumbers (bound + 1) (record reading { readers = readers; next_reader = reading.next_reader + 1 }) collections
few_added bound reading collections readers number reader added first few = record {
  next_reader = omega (arith, few.next_reader);
  next_searcher = omega (arith, few.next_searcher);
  next_collection = omega (arith, few.next_collection);
  next_snapshots = rw added (put (bound + 1) reading.readers number reader first (more bound reading.readers few.next_snapshots));
}

-- one more snapshot of a reader
pub few_published : (bound : ℕ) (reading : Readers) (collections : Collections) (readers : List (ℕ × Reader)) (number : ℕ) (old reader : Reader) → at_number reading.readers number ≡ Some old → readers ≡ insert_entry nat_cmp reading.readers number reader
    → reader.next ≡ old.next + 1 → FewNumbers bound reading collections → FewNumbers (bound + 1) (record reading { readers = readers }) collections
few_published bound reading collections readers number old reader there published next few = record {
  next_reader = omega (arith, few.next_reader);
  next_searcher = omega (arith, few.next_searcher);
  next_collection = omega (arith, few.next_collection);
  next_snapshots = rw published (put (bound + 1) reading.readers number reader (omega (arith, next, few_found bound reading collections number old few there)) (more bound reading.readers few.next_snapshots));
}

-- one reader less
pub few_released : (bound : ℕ) (reading : Readers) (collections : Collections) (readers : List (ℕ × Reader)) (number : ℕ) → readers ≡ remove_entry (is_at (nat_cmp number)) reading.readers
    → FewNumbers bound reading collections → FewNumbers bound (record reading { readers = readers }) collections
few_released bound reading collections readers number released few = record {
  next_reader = few.next_reader;
  next_searcher = few.next_searcher;
  next_collection = few.next_collection;
  next_snapshots = rw released (left bound reading.readers number few.next_snapshots);
}

-- a reader whose next snapshot gets the number that it would have got
pub few_put : (bound : ℕ) (reading : Readers) (collections : Collections) (number : ℕ) (old reader : Reader) → at_number reading.readers number ≡ Some old → reader.next ≡ old.next
    → FewNumbers bound reading collections → FewNumbers bound (record reading { readers = insert_entry nat_cmp reading.readers number reader }) collections
few_put bound reading collections number old reader there next few = record {
  next_reader = few.next_reader;
  next_searcher = few.next_searcher;
  next_collection = few.next_collection;
  next_snapshots = put bound reading.readers number reader (omega (arith, next, few_found bound reading collections number old few there)) few.next_snapshots;
}

one_served : (bound : ℕ) (b : Bool) (new old : Reader) → new.next ≡ old.next + 1 → old.next ≤ bound → (cond b new old).next ≤ bound + 1
one_served bound true new old next h = omega (arith, next, h)
one_served bound false new old next h = omega (arith, h)

served_few : (bound : ℕ) (es : List (ℕ × Reader)) (shown : Snapshot) → AreFew bound es → AreFew (bound + 1) (map (λ e. (e.0, served shown.commit shown.bodies e.1)) es)
served_few bound [] shown h = tt
served_few bound (e ∷ es) shown h = (one_served bound e.1.has_notice _ e.1 refl h.0, served_few bound es shown h.1)

-- one more snapshot of each reader with a notice
pub few_served : (bound : ℕ) (reading : Readers) (collections : Collections) (shown : Snapshot) → FewNumbers bound reading collections → FewNumbers (bound + 1) (all_served reading shown) collections
few_served bound reading collections shown few = record {
  next_reader = omega (arith, few.next_reader);
  next_searcher = omega (arith, few.next_searcher);
  next_collection = omega (arith, few.next_collection);
  next_snapshots = served_few bound reading.readers shown few.next_snapshots;
}

noticed_few : (bound : ℕ) (es : List (ℕ × Reader)) → AreFew bound es → AreFew bound (map (λ e. (e.0, told_of_commit e.1)) es)
noticed_few bound [] h = tt
noticed_few bound (e ∷ es) h = (h.0, noticed_few bound es h.1)

-- notices of a commit
pub few_noticed : (bound : ℕ) (reading : Readers) (collections : Collections) → FewNumbers bound reading collections → FewNumbers bound (with_notices reading) collections
few_noticed bound reading collections few = record {
  next_reader = few.next_reader;
  next_searcher = few.next_searcher;
  next_collection = few.next_collection;
  next_snapshots = noticed_few bound reading.readers few.next_snapshots;
}
