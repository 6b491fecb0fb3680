-- How many shares of the segments of a commit are out: few enough that each of them can be shared.
use Rattle.std.proofs.Common.{◌≡◌, ℕ, ◌+◌, ◌<◌, ◌≤◌, Bool, true, false, cond, List, [], ◌∷◌, Option, Some, None, find, length, refl, sym, ap, ◌∙◌, arith}
use Rattle.std.specs.List.{AllByRecursion}
use Rattle.std.specs.Ordering.{match_ordering}
use Rattle.std.specs.declared.cmp.Ordering.TheVariants.{Less, Equal, Greater}
use Rattle.tv_base.specs.declared.inventory.Entry.{Entry}
use Rattle.tv_base.specs.Entries.{is_full, is_last, is_numbered, one_fewer, one_more, released}
use Rattle.tv_base.specs.Places.{change_at, take_out}
use Rattle.tv_formats.specs.Names.{at, byte_cmp}
use Rattle.tv_metas.specs.Tracked.{KeptMetas}
use Rattle.tv_metas.specs.declared.segment_meta.InnerSegmentMeta.{InnerSegmentMeta}
use Rattle.tv_registers.specs.Managers.{CountedBoth, commit}
use Rattle.tv_registers.specs.Registers.{Counted, EntryState, Register, given_back, id_of, is_living, living_in, put, put_each, ticket_of, tickets_in, with_each, with_entry}
use Rattle.tv_registers.specs.Sharing.{is_spent, releases, shared}
use Rattle.tv_catalog.specs.Choosing.{IsShareable}
use Rattle.tv_catalog.proofs.Registered.{each_put}

-- no more shares of each are out than so many
abbrev AreFew : ℕ → KeptMetas → Type 0
AreFew n kept = AllByRecursion (λ e. e.count ≤ n) kept

left_out : (n number : ℕ) (kept : KeptMetas) → AreFew n kept → AreFew n (take_out (is_numbered number) kept)
left_out n number [] few = tt
left_out n number (e ∷ kept) few =
    elim (is_numbered number e) as (λ b. AreFew n (cond b kept (e ∷ take_out (is_numbered number) kept))) [
      | true ↦ few.1
      | false ↦ (few.0, left_out n number kept few.1)
    ]

changed : (n m number : ℕ) (f : Entry InnerSegmentMeta → Entry InnerSegmentMeta) (kept : KeptMetas) → n ≤ m
    → ((e : Entry InnerSegmentMeta) → e.count ≤ n → (f e).count ≤ m) → AreFew n kept → AreFew m (change_at (is_numbered number) f kept)
changed n m number f [] more each few = tt
changed n m number f (e ∷ kept) more each few =
    elim (is_numbered number e) as (λ b. AreFew m (cond b (f e ∷ kept) (e ∷ change_at (is_numbered number) f kept))) [
      | true ↦ (each e few.0, all_fewer kept few.1)
      | false ↦ (omega (arith, few.0, more), changed n m number f kept more each few.1)
    ]
  where
    all_fewer : (es : KeptMetas) → AreFew n es → AreFew m es
    all_fewer [] h = tt
    all_fewer (x ∷ es) h = (omega (arith, h.0, more), all_fewer es h.1)

released_few : (number : ℕ) (kept : KeptMetas) → AreFew 1 kept → AreFew 1 (released number kept)
released_few number kept few =
    elim (is_last (find (is_numbered number) kept)) as (λ b. AreFew 1 (cond b (take_out (is_numbered number) kept) (change_at (is_numbered number) one_fewer kept))) [
      | true ↦ left_out 1 number kept few
      | false ↦ changed 1 1 number one_fewer kept (omega arith) (λ e one. omega (arith, one)) few
    ]

releases_few : (numbers : List ℕ) (kept : KeptMetas) → AreFew 1 kept → AreFew 1 (releases numbers kept)
releases_few [] kept few = few
releases_few (n ∷ numbers) kept few = releases_few numbers (released n kept) (released_few n kept few)

given_few : (o : Option EntryState) (kept : KeptMetas) → AreFew 1 kept → AreFew 1 (given_back o kept)
given_few None kept few = few
given_few (Some e) kept few = released_few (ticket_of e) kept few

each_few : (entries : List EntryState) (c : Counted) → AreFew 1 c.1 → AreFew 1 (with_each entries c).1
each_few [] c few = few
each_few (e ∷ entries) c few = each_few entries (with_entry e c) (given_few (at c.0 (id_of e)) c.1 few)

commit_few : (entries : List EntryState) (b : CountedBoth) → AreFew 1 b.1 → AreFew 1 (commit entries b).1
commit_few entries b few =
    releases_few (tickets_in b.0.committed) _
    (releases_few (tickets_in b.0.uncommitted) _ (each_few entries ([], b.1) few))

-- ---- how many segments a register has

length_put : (entry : EntryState) (register : Register) → length (put entry register) ≤ length register + 1
length_put entry [] = omega arith
length_put entry (e ∷ es) =
    elim (byte_cmp (id_of entry) e.0) as (λ r. length (match_ordering r ((id_of entry, entry) ∷ e ∷ es) ((e.0, entry) ∷ es) (e ∷ put entry es)) ≤ length (e ∷ es) + 1) [
      | Less ↦ omega arith
      | Equal ↦ omega arith
      | Greater ↦ omega (arith, length_put entry es)
    ]

length_each : (entries : List EntryState) (register : Register) → length (put_each entries register) ≤ length register + length entries
length_each [] register = omega arith
length_each (e ∷ entries) register = omega (arith, length_each entries (put e register), length_put e register)

length_living : (register : Register) → length (tickets_in (living_in register)) ≤ length register
length_living [] = omega arith
length_living (e ∷ es) =
    elim (is_living e.1) as (λ b. length (tickets_in (cond b (e ∷ living_in es) (living_in es))) ≤ length (e ∷ es)) [
      | true ↦ omega (arith, length_living es)
      | false ↦ omega (arith, length_living es)
    ]

-- ---- further shares

not_full : (e : Entry InnerSegmentMeta) (n : ℕ) → e.count ≤ n → n < 18446744073709551615 → is_full e ≡ false
not_full e n few small = grind (arith, few, small)

not_spent : (number n : ℕ) (kept : KeptMetas) → AreFew n kept → n < 18446744073709551615 → is_spent (find (is_numbered number) kept) ≡ false
not_spent number n [] few small = refl
not_spent number n (e ∷ kept) few small =
    elim (is_numbered number e) as (λ b. is_spent (cond b (Some e) (find (is_numbered number) kept)) ≡ false) [
      | true ↦ not_full e n few.0 small
      | false ↦ not_spent number n kept few.1 small
    ]

are_shared : (numbers : List ℕ) (n : ℕ) (kept : KeptMetas) → AreFew n kept → n + length numbers < 18446744073709551616 → shared numbers kept ≡ None → ⊥
are_shared [] n kept few small none = absurd cc
are_shared (x ∷ numbers) n kept few small none =
    let free : is_spent (find (is_numbered x) kept) ≡ false = not_spent x n kept few (omega (arith, small)) in
    are_shared numbers (n + 1) (change_at (is_numbered x) one_more kept)
    (changed n (n + 1) x one_more kept (omega arith) (λ e h. omega (arith, h)) few) (omega (arith, small))
    (sym (ap (λ (b : Bool). cond b None (shared numbers (change_at (is_numbered x) one_more kept))) free) ∙ none)

-- after a commit each segment can be shared once more
pub can_share : (entries : List EntryState) (b : CountedBoth) → AllByRecursion IsShareable b.1 → length entries < 18446744073709551615
    → shared (tickets_in (living_in (commit entries b).0.committed)) (commit entries b).1 ≡ None → ⊥
can_share entries b few small =
    are_shared (tickets_in (living_in (commit entries b).0.committed)) 1 (commit entries b).1 (commit_few entries b few)
    (omega (arith, small, length_living (with_each entries ([], b.1)).0, ap length (each_put entries ([], b.1)), length_each entries []))
