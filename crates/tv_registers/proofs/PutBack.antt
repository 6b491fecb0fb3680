-- Shares that are given back, in any order, and those of segments that come into a register.
use Rattle.std.proofs.Common.{◌≡◌, ◌≢◌, ℕ, Bool, true, false, cond, List, [], ◌∷◌, ◌++◌, Option, Some, None, Result, Ok, Err, refl, ap, sym, subst, ◌∙◌, arith, find, nat_lt, eqb, map}
use Rattle.std.specs.Prelude.{OnErr, OnOk}
use Rattle.std.specs.List.Sorted.{IsStrictlySortedBy}
use Rattle.std.specs.Ordering.{is_eq, match_ordering}
use Rattle.std.proofs.lemmas.List.{map_push}
use Rattle.std.specs.declared.cmp.Ordering.TheVariants.{Less, Equal, Greater}
use Rattle.tv_base.specs.declared.inventory.Entry.{Entry}
use Rattle.tv_base.specs.Entries.{is_last, is_numbered, one_fewer, released}
use Rattle.tv_base.specs.Places.{change_at, take_out}
use Rattle.tv_formats.specs.Names.{at, byte_cmp}
use Rattle.tv_formats.proofs.Entries.{below_all}
use Rattle.tv_metas.specs.Tracked.{KeptMetas}
use Rattle.tv_registers.specs.Registers.{Counted, EntryState, Register, given_back, id_of, put, put_each, ticket_of, tickets_in, with_each, with_entry}
use Rattle.tv_registers.specs.Sharing.{releases}
use Rattle.tv_registers.proofs.Removed.{below_none}

-- ---- two shares that are given back

-- one share less of a number, by one walk
fewer : {T : Type 0} → ℕ → List (Entry T) → List (Entry T)
fewer n [] = []
fewer n (e ∷ es) = cond (is_numbered n e) (cond (nat_lt e.count 2) es (one_fewer e ∷ es)) (e ∷ fewer n es)

headed : {X : Type 0} (b : Bool) (x : X) (xs ys : List X) → cond b (x ∷ xs) (x ∷ ys) ≡ x ∷ cond b xs ys
headed true x xs ys = refl
headed false x xs ys = refl

released_fewer : {T : Type 0} (n : ℕ) (es : List (Entry T)) → released n es ≡ fewer n es
unfolding fewer
released_fewer n [] = refl
released_fewer {T} n (e ∷ es) =
    elim (is_numbered n e) as (λ b. cond (is_last (cond b (Some e) (find (is_numbered n) es))) (cond b es (e ∷ take_out (is_numbered n) es)) (cond b (one_fewer e ∷ es) (e ∷ change_at (is_numbered n) one_fewer es))
    ≡ cond b (cond (nat_lt e.count 2) es (one_fewer e ∷ es)) (e ∷ fewer n es)) [
      | true ↦ refl
      | false ↦
          headed (is_last (find (is_numbered n) es)) e (take_out (is_numbered n) es) (change_at (is_numbered n) one_fewer es)
          ∙ ap (λ (fs : List (Entry T)). e ∷ fs) (released_fewer n es)
    ]

found_fewer : {T : Type 0} (n m : ℕ) → n ≢ m → (es : List (Entry T)) → find (is_numbered n) (fewer m es) ≡ find (is_numbered n) es
unfolding fewer
found_fewer n m apart [] = refl
found_fewer {T} n m apart (e ∷ es) = by (is_numbered m e) (is_numbered n e) refl refl (found_fewer n m apart es)
  where
    by : (a b : Bool) → is_numbered m e ≡ a → is_numbered n e ≡ b → find (is_numbered n) (fewer m es) ≡ find (is_numbered n) es
        → find (is_numbered n) (cond a (cond (nat_lt e.count 2) es (one_fewer e ∷ es)) (e ∷ fewer m es)) ≡ cond (is_numbered n e) (Some e) (find (is_numbered n) es)
    by true true p q rest = absurd (apart (grind (arith, p, q)))
    by true false p q rest = rw q (last (nat_lt e.count 2))
      where
        last : (c : Bool) → find (is_numbered n) (cond c es (one_fewer e ∷ es)) ≡ find (is_numbered n) es
        last true = refl
        last false = rw q refl
    by false b p q rest = ap (λ (o : Option (Entry T)). cond (is_numbered n e) (Some e) o) rest

-- a share that is given back leaves what is found under other numbers
pub found_other : {T : Type 0} (n m : ℕ) (old new : List (Entry T)) → n ≢ m → new ≡ released m old → find (is_numbered n) new ≡ find (is_numbered n) old
found_other n m old new apart is = ap (find (is_numbered n)) (is ∙ released_fewer m old) ∙ found_fewer n m apart old

fewer_swap : (m n : ℕ) → m ≢ n → (es : KeptMetas) → fewer m (fewer n es) ≡ fewer n (fewer m es)
unfolding fewer
fewer_swap m n apart [] = refl
fewer_swap m n apart (e ∷ es) = by (is_numbered m e) (is_numbered n e) refl refl (fewer_swap m n apart es)
  where
    by : (a b : Bool) → is_numbered m e ≡ a → is_numbered n e ≡ b → fewer m (fewer n es) ≡ fewer n (fewer m es)
        → fewer m (cond b (cond (nat_lt e.count 2) es (one_fewer e ∷ es)) (e ∷ fewer n es)) ≡ fewer n (cond a (cond (nat_lt e.count 2) es (one_fewer e ∷ es)) (e ∷ fewer m es))
    by true true p q rest = absurd (apart (grind (arith, p, q)))
    by true false p q rest = rw p (last (nat_lt e.count 2))
      where
        last : (c : Bool) → cond c (fewer n es) (one_fewer e ∷ fewer n es) ≡ fewer n (cond c es (one_fewer e ∷ es))
        last true = refl
        last false = rw q refl
    by false true p q rest = rw q (last (nat_lt e.count 2))
      where
        last : (c : Bool) → fewer m (cond c es (one_fewer e ∷ es)) ≡ cond c (fewer m es) (one_fewer e ∷ fewer m es)
        last true = refl
        last false = rw p refl
    by false false p q rest = rw (p, q) (ap (λ (fs : KeptMetas). e ∷ fs) rest)

-- which of two shares is given back first makes no difference
pub released_swap : (m n : ℕ) (es : KeptMetas) → released m (released n es) ≡ released n (released m es)
released_swap m n es = by (eqb m n) refl
  where
    by : (b : Bool) → eqb m n ≡ b → released m (released n es) ≡ released n (released m es)
    by true is =
        let same : m ≡ n = grind (arith, is) in
        subst (λ (k : ℕ). released m (released k es) ≡ released k (released m es)) same refl
    by false is =
        let apart : m ≢ n = λ same. grind (arith, is, same) in
        released_fewer m (released n es) ∙ ap (fewer m) (released_fewer n es) ∙ fewer_swap m n apart es
        ∙ sym (released_fewer n (released m es) ∙ ap (fewer n) (released_fewer m es))

-- nor does it where several are given back
pub releases_swap : (ns : List ℕ) (m : ℕ) (es : KeptMetas) → releases ns (released m es) ≡ released m (releases ns es)
releases_swap [] m es = refl
releases_swap (n ∷ ns) m es = ap (releases ns) (released_swap n m es) ∙ releases_swap ns m (released n es)

given_swap : (o : Option EntryState) (m : ℕ) (es : KeptMetas) → given_back o (released m es) ≡ released m (given_back o es)
given_swap None m es = refl
given_swap (Some e) m es = released_swap (ticket_of e) m es

-- ---- a register into which a segment comes

-- the shares of a register in which one was put are those of the register and its own
pub put_back : (entry : EntryState) (register : Register) (kept : KeptMetas) → IsStrictlySortedBy byte_cmp (map (λ e. e.0) register)
    → releases (tickets_in (put entry register)) (given_back (at register (id_of entry)) kept) ≡ released (ticket_of entry) (releases (tickets_in register) kept)
unfolding IsStrictlySortedBy
put_back entry [] kept sorted = refl
put_back entry (e ∷ es) kept sorted =
    let id = id_of entry in
    let t = ticket_of entry in
    elim (byte_cmp id e.0) as (λ r. byte_cmp id e.0 ≡ r
    → releases (tickets_in (match_ordering r ((id, entry) ∷ e ∷ es) ((e.0, entry) ∷ es) (e ∷ put entry es))) (given_back (cond (is_eq r) (Some e.1) (at es id)) kept)
    ≡ released t (releases (tickets_in (e ∷ es)) kept)) [
      | Less ↦ λ r.
          let none : at es id ≡ None = below_none es id (below_all (map (λ f. f.0) es) id e.0 r sorted.0) in
          ap (λ (o : Option EntryState). releases (tickets_in (e ∷ es)) (released t (given_back o kept))) none ∙ releases_swap (tickets_in (e ∷ es)) t kept
      | Equal ↦ λ r. releases_swap (tickets_in es) t (released (ticket_of e.1) kept)
      | Greater ↦ λ r.
          ap (releases (tickets_in (put entry es))) (sym (given_swap (at es id) (ticket_of e.1) kept))
          ∙ put_back entry es (released (ticket_of e.1) kept) sorted.1
    ] refl

-- ---- several segments that come in

pub releases_last : (ns : List ℕ) (n : ℕ) (kept : KeptMetas) → releases (ns ++ n ∷ []) kept ≡ released n (releases ns kept)
releases_last [] n kept = refl
releases_last (m ∷ ns) n kept = releases_last ns n (released m kept)

pub with_last : (entries : List EntryState) (entry : EntryState) (c : Counted) → with_each (entries ++ entry ∷ []) c ≡ with_entry entry (with_each entries c)
with_last [] entry c = refl
with_last (e ∷ entries) entry c = with_last entries entry (with_entry e c)

pub put_last : (entries : List EntryState) (entry : EntryState) (register : Register) → put_each (entries ++ entry ∷ []) register ≡ put entry (put_each entries register)
put_last [] entry register = refl
put_last (e ∷ entries) entry register = put_last entries entry (put e register)

module _ (done : List EntryState) (entry : EntryState) (start kept : KeptMetas) (register : Register)
    (so_far : releases (tickets_in register) kept ≡ releases (map ticket_of done) start) where
  one_more : releases (map ticket_of (done ++ entry ∷ [])) start ≡ released (ticket_of entry) (releases (map ticket_of done) start)
  one_more = ap (λ (ns : List ℕ). releases ns start) (map_push ticket_of done entry) ∙ releases_last (map ticket_of done) (ticket_of entry) start

  -- one was put in
  pub all_put : (new : Counted) → new ≡ with_entry entry (register, kept) → IsStrictlySortedBy byte_cmp (map (λ e. e.0) register)
      → releases (tickets_in new.0) new.1 ≡ releases (map ticket_of (done ++ entry ∷ [])) start
  all_put new is sorted =
      ap (λ (c : Counted). releases (tickets_in c.0) c.1) is ∙ put_back entry register kept sorted
      ∙ ap (released (ticket_of entry)) so_far ∙ sym one_more

  -- one wasn't, and its share was given back
  pub all_left : (new : Register) (left : KeptMetas) → new ≡ register → left ≡ released (ticket_of entry) kept
      → releases (tickets_in new) left ≡ releases (map ticket_of (done ++ entry ∷ [])) start
  all_left new left same back =
      ap (λ (r : Register). releases (tickets_in r) left) same ∙ ap (releases (tickets_in register)) back
      ∙ releases_swap (tickets_in register) (ticket_of entry) kept ∙ ap (released (ticket_of entry)) so_far ∙ sym one_more

-- one more that may have been put in
pub put_further : {U E : Type 0} (r : Result U E) (done : List EntryState) (entry : EntryState) (start kept : KeptMetas) (register : Register)
    → releases (tickets_in register) kept ≡ releases (map ticket_of done) start
    → ◌≡◌ {A = Counted} (register, kept) (with_each done ([], start))
    → (new : Counted) → OnOk r (new ≡ with_entry entry (register, kept)) → OnErr r ((new.0 ≡ register) × (new.1 ≡ released (ticket_of entry) kept))
    → IsStrictlySortedBy byte_cmp (map (λ e. e.0) register)
    → OnOk r (new ≡ with_each (done ++ entry ∷ []) ([], start)) × (releases (tickets_in new.0) new.1 ≡ releases (map ticket_of (done ++ entry ∷ [])) start)
put_further (Ok u) done entry start kept register so_far before new ok err sorted =
    (ok ∙ ap (with_entry entry) before ∙ sym (with_last done entry ([], start)), all_put done entry start kept register so_far new ok sorted)
put_further (Err e) done entry start kept register so_far before new ok err sorted = (tt, all_left done entry start kept register so_far new.0 new.1 err.0 err.1)
