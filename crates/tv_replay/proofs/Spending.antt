-- The files of a run stay far shorter than 64 bits of bytes, and its numbers far below.
use Rattle.std.proofs.Common.{◌≡◌, ℕ, ◌+◌, ◌*◌, ◌^◌, ◌≤◌, ◌<◌, Bool, cond, true, false, List, [], ◌∷◌, ◌++◌, map, length, Option, Some, None, refl, subst, arith, length-append, inl, inr}
use Rattle.std.specs.Prelude.{option_map, option_and_then, filter}
use Rattle.std.specs.Map.{lookup}
use Rattle.std.specs.BTreeMap.{is_at}
use Rattle.std.specs.Ordering.{nat_cmp}
use Rattle.std.specs.List.{AllByRecursion}
use Rattle.tv_events.specs.declared.event.Event.{Event}
use Rattle.tv_events.specs.declared.event.Event.TheVariants as events
use Rattle.tv_formats.specs.declared.segment.LiveSegment.{LiveSegment}
use Rattle.tv_formats.specs.Names.{byte_cmp, at}
use Rattle.tv_formats.specs.Segments.{name_of}
use Rattle.tv_machine.specs.State.{Catalog, Reader, live_at, reader_at, Locked, Read, Reload, Snapshot}
use Rattle.tv_events.specs.Script.{line_limit}
use Rattle.tv_catalog.specs.Kept.{KeptState}
use Rattle.tv_store.specs.Kept.{AtMost}
use Rattle.tv_script.specs.ScriptLines.{bytes_in}
use Rattle.tv_catalog.specs.ReaderNumbers.{FewNumbers}
use Rattle.tv_catalog.specs.Effects.{after_each, length_after, numbers_after, written_by, reload_after}
use Rattle.tv_catalog.specs.Exhausted.{IsExhausted, PassesEnd, SomePassesEnd}
use Rattle.tv_machine.specs.ReloadEvents.{snapshot_read, with_notice}
use Rattle.std.proofs.lemmas.Option.{same_Some}

-- ---- how long files are

pub one_more_line : (count : ℕ) → count * line_limit + line_limit ≡ (count + 1) * line_limit
one_more_line count = omega arith

either_entry : {X : Type 0} (P : X → Type 0) (b : Bool) (y x : X) (rest : Option X) → P y → (rest ≡ Some x → P x) → cond b (Some y) rest ≡ Some x → P x
either_entry P true y x rest here there e = let same : y ≡ x = cc in subst P same here
either_entry P false y x rest here there e = there e

-- what is true of each entry is true of what stands at a key
pub all_there : {K X : Type 0} (P : X → Type 0) (f : K → Bool) (entries : List (K × X)) (x : X) → AllByRecursion (λ e. P e.1) entries → lookup f entries ≡ Some x → P x
all_there P f [] x all e = absurd cc
all_there P f (entry ∷ entries) x all e = either_entry P (f entry.0) entry.1 x (lookup f entries) all.0 (all_there P f entries x all.1) e

pub mapped : {A B : Type 0} (f : A → B) (o : Option A) (b : B) → option_map f o ≡ Some b → (x : A) × (o ≡ Some x) × (f x ≡ b)
mapped f None b e = absurd cc
mapped f (Some x) b e = (x, refl, cc)

pub then_there : {A B : Type 0} (f : A → Option B) (o : Option A) (b : B) → option_and_then f o ≡ Some b → (x : A) × (o ≡ Some x) × (f x ≡ Some b)
then_there f None b e = absurd cc
then_there f (Some x) b e = (x, refl, e)

few_each : {X : Type 0} (number : X → ℕ) (found : Option X) (bound : ℕ) → bound + 1 < 2 ^ 64 → ((x : X) → found ≡ Some x → number x ≤ bound) → SomePassesEnd (after_each number found) → ⊥
few_each number None bound few small h = h
few_each number (Some x) bound few small (inl much) = let le = small x refl in omega (arith, le, few, much)
few_each number (Some x) bound few small (inr none) = none

few_of : (n bound : ℕ) → bound + 1 < 2 ^ 64 → n ≤ bound → SomePassesEnd ((n + 1) ∷ []) → ⊥
few_of n bound few le (inl much) = omega (arith, le, few, much)
few_of n bound few le (inr none) = none

-- none of these numbers is spent, nor is one where none of them is given
unless_spent : (b : Bool) (ns : List ℕ) → (SomePassesEnd ns → ⊥) → SomePassesEnd (cond b [] ns) → ⊥
unless_spent true ns fits spent = spent
unless_spent false ns fits spent = fits spent

few_reloaded : (c : Catalog) (found : Option Reader) (bound : ℕ) → bound + 1 < 2 ^ 64 → ((r : Reader) → found ≡ Some r → r.next ≤ bound) → SomePassesEnd (reload_after c found) → ⊥
few_reloaded c None bound few small spent = spent
few_reloaded c (Some reader) bound few small spent = unless_spent _ ((reader.next + 1) ∷ []) (few_of reader.next bound few (small reader refl)) spent

few_shown : (n bound : ℕ) (reload : Option Reload) (shown : Snapshot) → n ≤ bound → snapshot_read n reload ≡ Some shown → shown.generation ≤ bound
few_shown n bound None shown le e = absurd cc
few_shown n bound (Some (Locked commit)) shown le e = absurd cc
few_shown n bound (Some (Read commit bodies)) shown le e = subst (λ (s : Snapshot). s.generation ≤ bound) (same_Some _ shown e) le

few_published : (found : Option Reader) (bound : ℕ) → bound + 1 < 2 ^ 64 → ((r : Reader) → found ≡ Some r → r.next ≤ bound)
    → SomePassesEnd (after_each (λ (s : Snapshot). s.generation) (option_and_then (λ (r : Reader). snapshot_read r.next r.reload) found)) → ⊥
few_published None bound few small spent = spent
few_published (Some reader) bound few small spent =
    few_each (λ (s : Snapshot). s.generation) (snapshot_read reader.next reader.reload) bound few (λ s there. few_shown reader.next bound reader.reload s (small reader refl) there) spent

few_kept : (e : ℕ × Reader) (others : List (ℕ × Reader)) (bound : ℕ) → bound + 1 < 2 ^ 64 → e.1.next ≤ bound → (SomePassesEnd (map (λ f. f.1.next + 1) others) → ⊥)
    → (b : Bool) → SomePassesEnd (map (λ f. f.1.next + 1) (cond b (e ∷ others) others)) → ⊥
few_kept e others bound few le rest true (inl much) = omega (arith, le, few, much)
few_kept e others bound few le rest true (inr more) = rest more
few_kept e others bound few le rest false more = rest more

few_served : (readers : List (ℕ × Reader)) (bound : ℕ) → bound + 1 < 2 ^ 64 → AllByRecursion (λ e. e.1.next ≤ bound) readers
    → SomePassesEnd (map (λ e. e.1.next + 1) (filter (λ e. e.1.has_notice) readers)) → ⊥
few_served [] bound few all spent = spent
few_served (e ∷ readers) bound few all spent =
    few_kept e (filter (λ f. f.1.has_notice) readers) bound few all.0 (few_served readers bound few all.1) e.1.has_notice spent

-- the next number of the snapshots of a reader that is there
few_next : (kept : KeptState) (number bound : ℕ) → FewNumbers bound kept.catalog.reading kept.collections → (r : Reader) → reader_at kept.catalog number ≡ Some r → r.next ≤ bound
few_next kept number bound numbers r there = all_there (λ (r : Reader). r.next ≤ bound) (is_at (nat_cmp number)) kept.catalog.reading.readers r numbers.next_snapshots there

few_numbers : (kept : KeptState) (event : Event) (bound : ℕ) → bound + 1 < 2 ^ 64 → FewNumbers bound kept.catalog.reading kept.collections → SomePassesEnd (numbers_after kept event) → ⊥
few_numbers kept (events.Reader policy) bound few numbers spent = unless_spent _ ((kept.catalog.reading.next_reader + 1) ∷ []) (few_of kept.catalog.reading.next_reader bound few numbers.next_reader) spent
few_numbers kept (events.Searcher number) bound few numbers spent = few_each (λ (r : Reader). kept.catalog.reading.next_searcher) (reader_at kept.catalog number) bound few (λ r there. numbers.next_searcher) spent
few_numbers kept (events.Reload number) bound few numbers spent = few_reloaded kept.catalog (reader_at kept.catalog number) bound few (few_next kept number bound numbers) spent
few_numbers kept (events.ReloadPublish number) bound few numbers spent = few_published (reader_at kept.catalog number) bound few (few_next kept number bound numbers) spent
few_numbers kept events.Deliver bound few numbers spent = unless_spent _ (map (λ e. e.1.next + 1) (with_notice kept.catalog)) (few_served kept.catalog.reading.readers bound few numbers.next_snapshots) spent
few_numbers kept events.Gc bound few numbers spent = unless_spent _ ((kept.collections.next + 1) ∷ []) (few_of kept.collections.next bound few numbers.next_collection) spent
few_numbers kept events.GcBegin bound few numbers spent = unless_spent _ ((kept.collections.next + 1) ∷ []) (few_of kept.collections.next bound few numbers.next_collection) spent
few_numbers kept other bound few numbers spent = absurd spent

-- what an event adds to a file, or takes of numbers, is no more than a line may have
pub written_within : (event : Event) → bytes_in event ≤ line_limit → written_by event ≤ line_limit
written_within (events.Write id c bytes) small = small
written_within other small = omega arith

short_files : (kept : KeptState) (event : Event) (bound more : ℕ) → bound + more < 2 ^ 64 → written_by event ≤ more → AtMost bound kept → PassesEnd (length_after kept event) → ⊥
short_files kept (events.Write id component bytes) bound more few small all (n, is, much) =
    let segment = then_there (λ (segment : LiveSegment). option_map (λ (body : List ℕ). length (body ++ bytes)) (at kept.open_files (name_of id segment.deletes component))) (live_at kept.catalog id) n is in
    let found = mapped (λ (body : List ℕ). length (body ++ bytes)) (at kept.open_files (name_of id segment.0.deletes component)) n segment.2 in
    let short : length found.0 ≤ bound = all_there (λ (body : List ℕ). length body ≤ bound) (is_at (byte_cmp (name_of id segment.0.deletes component))) kept.open_files found.0 all found.1 in
    let same : length (found.0 ++ bytes) ≡ n = found.2 in
    omega (arith, short, same, length-append found.0 bytes, much)
short_files kept other bound more few small all (n, is, much) = absurd cc

-- files stay far shorter than 64 bits of bytes, and numbers far below
pub never_spent : (kept : KeptState) (event : Event) (count : ℕ) → count < 2 ^ 32 → written_by event ≤ line_limit → AtMost (count * line_limit) kept → FewNumbers (count * line_limit) kept.catalog.reading kept.collections → IsExhausted kept event → ⊥
never_spent kept event count few small all numbers (inl spent) = few_numbers kept event (count * line_limit) (omega arith) numbers spent
never_spent kept event count few small all numbers (inr spent) = short_files kept event (count * line_limit) line_limit (omega arith) small all spent
