-- Which readers hold the meta lock, after changes of the readers.
use Rattle.std.proofs.Common.{◌≡◌, ℕ, ◌<◌, Bool, true, false, true≢false, cond, List, [], ◌∷◌, ◌++◌, ◌+◌, append_assoc, map, Option, Some, None, refl, sym, ap, ◌∙◌}
use Rattle.std.specs.Prelude.{is_some}
use Rattle.std.specs.Cmp.{nat_cmp_total}
use Rattle.std.specs.declared.cmp.Ordering.{Ordering}
use Rattle.std.specs.declared.cmp.Ordering.TheVariants.{Less, Equal, Greater}
use Rattle.std.specs.Ordering.{is_eq, match_ordering, nat_cmp, ordering_reverse}
use Rattle.std.specs.List.{AllByRecursion, list_any}
use Rattle.std.specs.List.Sorted.{IsStrictlySortedBy}
use Rattle.std.specs.Map.{keys_of, lookup, remove_entry, set_value}
use Rattle.std.specs.BTreeMap.{is_at, insert_entry}
use Rattle.std.proofs.lemmas.Cmp.{ranked}
use Rattle.tv_formats.specs.Collections.{Rises}
use Rattle.tv_formats.specs.Commits.{Commit}
use Rattle.tv_formats.proofs.Numbered.{found, gone_all, put_all}
use Rattle.tv_machine.specs.Living.{HasOneLock, OnlyLocks, is_locked, unread_by}
use Rattle.tv_machine.specs.ReloadEvents.{served}
use Rattle.tv_machine.specs.State.{Reader, Reload, Snapshot}
use Rattle.tv_machine.proofs.Locks.{any_none, only_locks}
use Rattle.tv_machine.proofs.ReaderMoves.{all_mapped}
use Rattle.tv_snapshots.proofs.ListLaws.{all_joined}

-- ---- entries under numbers

-- writing the value of a number that is there is putting it
pub written_is_put : {X : Type 0} (entries : List (ℕ × X)) (number : ℕ) (c later : X) → IsStrictlySortedBy nat_cmp (keys_of entries) → lookup (is_at (nat_cmp number)) entries ≡ Some c
    → set_value (is_at (nat_cmp number)) entries later ≡ insert_entry nat_cmp entries number later
unfolding IsStrictlySortedBy
written_is_put [] number c later sorted at = absurd cc
written_is_put {X} (e ∷ entries) number c later sorted at = here (nat_cmp number e.0) refl (written_is_put entries number c later sorted.1) at where
  none : (es : List (ℕ × X)) → nat_cmp number e.0 ≡ Less → AllByRecursion (λ k. nat_cmp e.0 k ≡ Less) (keys_of es) → lookup (is_at (nat_cmp number)) es ≡ None
  none [] low h = refl
  none (x ∷ es) low h = rw (nat_cmp_total.trans number e.0 x.0 low h.0) (none es low h.1)

  here : (r : Ordering) → nat_cmp number e.0 ≡ r → (lookup (is_at (nat_cmp number)) entries ≡ Some c → set_value (is_at (nat_cmp number)) entries later ≡ insert_entry nat_cmp entries number later) → cond (is_eq r) (Some e.1) (lookup (is_at (nat_cmp number)) entries) ≡ Some c
      → cond (is_eq r) ((e.0, later) ∷ entries) (e ∷ set_value (is_at (nat_cmp number)) entries later) ≡ match_ordering r ((number, later) ∷ e ∷ entries) ((e.0, later) ∷ entries) (e ∷ insert_entry nat_cmp entries number later)
  here Less is before k = absurd (cc (none entries is sorted.0))
  here Equal is before k = refl
  here Greater is before k = ap (λ (es : List (ℕ × X)). e ∷ es) (before k)

-- keys in order rise
pub rises_of : {X : Type 0} (es : List (ℕ × X)) → IsStrictlySortedBy nat_cmp (keys_of es) → Rises es
unfolding IsStrictlySortedBy
rises_of [] h = tt
rises_of {X} (e ∷ es) h = (above es h.0, rises_of es h.1) where
  above : (fs : List (ℕ × X)) → AllByRecursion (λ k. nat_cmp e.0 k ≡ Less) (keys_of fs) → AllByRecursion (λ f. e.0 < f.0) fs
  above [] k = tt
  above (f ∷ fs) k = (ranked e.0 f.0 Less (sym k.0), above fs k.1)

-- ---- one reload at most holds the lock

-- where a reader takes no lock that it hasn't
pub one_put : (es : List (ℕ × Reader)) (n : ℕ) (old new : Reader) → HasOneLock es → lookup (is_at (nat_cmp n)) es ≡ Some old → (is_locked new ≡ true → is_locked old ≡ true) → HasOneLock (insert_entry nat_cmp es n new)
one_put es n old new h is stays = record { holder = h.holder; each = put_all (OnlyLocks h.holder) es n new h.each (λ l. found (OnlyLocks h.holder) es n old h.each is (stays l)) }

-- or a reader comes without it
pub one_more : (es : List (ℕ × Reader)) (n : ℕ) (new : Reader) → HasOneLock es → is_locked new ≡ false → HasOneLock (insert_entry nat_cmp es n new)
one_more es n new h free = record { holder = h.holder; each = put_all (OnlyLocks h.holder) es n new h.each (λ l. absurd (true≢false (sym l ∙ free))) }

-- where none holds it, one may take it
pub one_taken : (es : List (ℕ × Reader)) (n : ℕ) (new : Reader) → list_any (λ e. is_locked e.1) es ≡ false → HasOneLock (insert_entry nat_cmp es n new)
one_taken es n new free = record { holder = n; each = put_all (OnlyLocks n) es n new (only_locks n es (any_none es free)) (λ l. refl) }

-- where its reload is another one, it is free if that one is locked
pub one_reload : (es : List (ℕ × Reader)) (n : ℕ) (old new : Reader) (reload : Reload) → HasOneLock es → new ≡ record old { reload = Some reload } → (is_some (unread_by (Some reload)) ≡ true → list_any (λ e. is_locked e.1) es ≡ false)
    → HasOneLock (insert_entry nat_cmp es n new)
one_reload es n old new reload h is free = either (is_some (unread_by (Some reload))) refl where
  either : (b : Bool) → is_some (unread_by (Some reload)) ≡ b → HasOneLock (insert_entry nat_cmp es n new)
  either true l = one_taken es n new (free l)
  either false l = one_more es n new h (ap is_locked is ∙ l)

-- a reader may end
pub one_left : (es : List (ℕ × Reader)) (test : ℕ → Bool) → HasOneLock es → HasOneLock (remove_entry test es)
one_left es test h = record { holder = h.holder; each = gone_all (OnlyLocks h.holder) test es h.each }

-- and all may change, where their reloads stay
pub one_mapped : (es : List (ℕ × Reader)) (change : Reader → Reader) → ((reader : Reader) → (change reader).reload ≡ reader.reload) → HasOneLock es → HasOneLock (map (λ e. (e.0, change e.1)) es)
one_mapped es change stays h = record {
  holder = h.holder;
  each = all_mapped (OnlyLocks h.holder) (OnlyLocks h.holder) change es (λ e only l. only (ap (λ (r : Option Reload). is_some (unread_by r)) (sym (stays e.1)) ∙ l)) h.each;
}

-- a reader that is served keeps its reload
pub served_stays : (commit : Commit) (bodies : List (List (List ℕ))) (reader : Reader) → (served commit bodies reader).reload ≡ reader.reload
served_stays commit bodies reader =
    elim reader.has_notice as (λ b. (cond b (record reader { next = reader.next + 1; shown = record { generation = reader.next; commit = commit; bodies = bodies }; has_notice = false }) reader).reload ≡ reader.reload) [ true ↦ refl | false ↦ refl ]

-- ---- readers that are served, one after the other

-- the rest of some readers goes behind those that are served already
abbrev pub put_served : Snapshot → List (ℕ × Reader) → List (ℕ × Reader) → List (ℕ × Reader)
put_served shown all [] = all
put_served shown all (e ∷ es) = put_served shown (insert_entry nat_cmp all e.0 (served shown.commit shown.bodies e.1)) es

-- an entry with a higher number than all others stands at the end
insert_last : (front : List (ℕ × Reader)) (k : ℕ) (v : Reader) → AllByRecursion (λ f. nat_cmp f.0 k ≡ Less) front → insert_entry nat_cmp front k v ≡ front ++ (k, v) ∷ []
insert_last [] k v h = refl
insert_last (f ∷ front) k v h =
    ap (λ (r : Ordering). match_ordering r ((k, v) ∷ f ∷ front) ((f.0, v) ∷ front) (f ∷ insert_entry nat_cmp front k v)) (nat_cmp_total.antisymm k f.0 ∙ ap ordering_reverse h.0)
    ∙ ap (λ (l : List (ℕ × Reader)). f ∷ l) (insert_last front k v h.1)

-- these are below each of those
abbrev Below : List (ℕ × Reader) → List (ℕ × Reader) → Type 0
Below front es = AllByRecursion (λ e. AllByRecursion (λ f. nat_cmp f.0 e.0 ≡ Less) front) es

further : (front : List (ℕ × Reader)) (x : ℕ × Reader) (es : List (ℕ × Reader)) → Below front es → AllByRecursion (λ k. nat_cmp x.0 k ≡ Less) (keys_of es) → Below (front ++ x ∷ []) es
further front x [] h k = tt
further front x (e ∷ es) h k = (all_joined (λ (f : ℕ × Reader). nat_cmp f.0 e.0 ≡ Less) front (x ∷ []) h.0 (k.0, tt), further front x es h.1 k.1)

none_before : (es : List (ℕ × Reader)) → Below [] es
none_before [] = tt
none_before (e ∷ es) = (tt, none_before es)

nothing_behind : (es : List (ℕ × Reader)) → es ++ [] ≡ es
nothing_behind [] = refl
nothing_behind (e ∷ es) = ap (λ (l : List (ℕ × Reader)). e ∷ l) (nothing_behind es)

put_behind : (shown : Snapshot) (front es : List (ℕ × Reader)) → Below front es → IsStrictlySortedBy nat_cmp (keys_of es) → put_served shown front es ≡ front ++ map (λ e. (e.0, served shown.commit shown.bodies e.1)) es
unfolding IsStrictlySortedBy
put_behind shown front [] h sorted = sym (nothing_behind front)
put_behind shown front (e ∷ es) h sorted =
    let x : ℕ × Reader = (e.0, served shown.commit shown.bodies e.1) in
    ap (λ (l : List (ℕ × Reader)). put_served shown l es) (insert_last front e.0 (served shown.commit shown.bodies e.1) h.0)
    ∙ put_behind shown (front ++ x ∷ []) es (further front x es h.1 sorted.0) sorted.1
    ∙ append_assoc front (x ∷ []) (map (λ f. (f.0, served shown.commit shown.bodies f.1)) es)

-- all of them are served so
pub put_all_served : (shown : Snapshot) (es : List (ℕ × Reader)) → IsStrictlySortedBy nat_cmp (keys_of es) → put_served shown [] es ≡ map (λ e. (e.0, served shown.commit shown.bodies e.1)) es
put_all_served shown es sorted = put_behind shown [] es (none_before es) sorted
