-- One reload at most holds the meta lock, and gives it back.
use Rattle.std.proofs.Common.{◌≡◌, inl, inr, ℕ, Bool, true, false, true≢false, List, [], ◌∷◌, Option, Some, None, refl, sym, ap, subst, ◌∙◌}
use Rattle.std.specs.Prelude.{is_some}
use Rattle.std.specs.List.{AllByRecursion, list_any}
use Rattle.std.specs.Map.{lookup, remove_entry}
use Rattle.std.specs.BTreeMap.{is_at, insert_entry}
use Rattle.std.specs.Ordering.{nat_cmp}
use Rattle.std.proofs.lemmas.Bool.{false_from_ne_true, or_from, or_parts, or_right}
use Rattle.tv_events.specs.declared.event.Event.{Event}
use Rattle.tv_formats.specs.Collections.{Rises}
use Rattle.tv_formats.specs.Commits.{Commit}
use Rattle.tv_machine.specs.State.{Catalog, State, Readers, Reader, Reload, Read, no_readers, reader_at}
use Rattle.tv_machine.specs.Living.{HasOneLock, OnlyLocks, is_busy, is_locked, unread_by}
use Rattle.tv_machine.specs.Machine.{Turn, step, after}
use Rattle.tv_machine.specs.ReaderEvents.{bodies_in, release_reader_step, without_reader}
use Rattle.tv_machine.specs.ReloadEvents.{reload_open_step, with_reader}
use Rattle.tv_machine.specs.Serving.{FreesLock}
use Rattle.tv_formats.proofs.Numbered.{all_found, found, put_all, put_found, gone_all, gone_none, rises_gone, rises_put}
use Rattle.tv_machine.proofs.Changes.{after_kept}
use Rattle.tv_machine.proofs.ReaderMoves.{ReaderMove, IsTold, Shows, Notes, Opens, Publishes, ReadersMove, Comes, Changes, AllChange, Leaves, Searches, Ends, all_mapped, all_weaker, nothing, readers_hold}
use Rattle.tv_machine.proofs.ReaderStates.{Moves, Stays, Draws, Commits, Reads, Numbered, step_keeps}

-- ---- the lock is held where some reader holds it

locked_any : (es : List (ℕ × Reader)) → AllByRecursion (λ e. is_locked e.1 ≡ true → list_any (λ f. is_locked f.1) es ≡ true) es
locked_any [] = tt
locked_any (e ∷ es) = (
  λ t. rw t refl,
  all_weaker (λ f. is_locked f.1 ≡ true → list_any (λ g. is_locked g.1) es ≡ true) (λ f. is_locked f.1 ≡ true → list_any (λ g. is_locked g.1) (e ∷ es) ≡ true) es (λ f k t. or_right (is_locked e.1) _ (k t)) (locked_any es),
)

pub locked_busy : (c : Catalog) → AllByRecursion (λ e. is_locked e.1 ≡ true → is_busy c ≡ true) c.reading.readers
locked_busy c = locked_any c.reading.readers

pub none_any : (es : List (ℕ × Reader)) → AllByRecursion (λ e. is_locked e.1 ≡ false) es → list_any (λ e. is_locked e.1) es ≡ false
none_any [] h = refl
none_any (e ∷ es) h = or_from (is_locked e.1) _ h.0 (none_any es h.1)

pub any_none : (es : List (ℕ × Reader)) → list_any (λ e. is_locked e.1) es ≡ false → AllByRecursion (λ e. is_locked e.1 ≡ false) es
any_none [] h = tt
any_none (e ∷ es) h = let parts = or_parts (is_locked e.1) (list_any (λ f. is_locked f.1) es) h in (parts.0, any_none es parts.1)

-- ---- one reload at most holds it

-- the reader of the number holds the lock, and no other one
pub only_locks : (holder : ℕ) (es : List (ℕ × Reader)) → AllByRecursion (λ e. is_locked e.1 ≡ false) es → AllByRecursion (OnlyLocks holder) es
only_locks holder es h = all_weaker (λ e. is_locked e.1 ≡ false) (OnlyLocks holder) es (λ e free t. absurd (true≢false (sym t ∙ free))) h

-- while the lock is held, no reader takes it
locks_move : (t : State) (n holder : ℕ) (old new : Reader) → is_busy t.catalog ≡ true → ReaderMove t old new → OnlyLocks holder (n, old) → OnlyLocks holder (n, new)
locks_move t n holder old new busy (IsTold has_notice) h = h
locks_move t n holder old new busy (Shows has_notice none) h = h
locks_move t n holder old new busy (Notes none free) h = absurd (true≢false (sym busy ∙ free))
locks_move t n holder old new busy (Opens noted is) h = λ t. absurd (true≢false (sym t))
locks_move t n holder old new busy (Publishes noted bodies is) h = λ t. absurd (true≢false (sym t))

busy_locks : (t : State) (now : Readers) → is_busy t.catalog ≡ true → ReadersMove t now → HasOneLock t.catalog.reading.readers → HasOneLock now.readers
busy_locks t now busy move h = record {
  holder = h.holder;
  each = (readers_hold (λ e. Unit {0}) (OnlyLocks h.holder) t now move (record {
    comes = λ policy l. absurd (true≢false (sym l));
    changes = λ n old new one k. locks_move t n h.holder old new busy one k;
    searches = λ n reader k. tt;
  }) (record { searchers = nothing t.catalog.reading.searchers; readers = h.each })).readers;
}

-- while it is free, one reader may take it
free_locks : (t : State) (now : Readers) → is_busy t.catalog ≡ false → ReadersMove t now → HasOneLock now.readers
free_locks t now free (Comes policy e) =
    subst (λ (who : Readers). HasOneLock who.readers) (sym e) (record { holder = 0; each = put_all (OnlyLocks 0) t.catalog.reading.readers t.catalog.reading.next_reader _ (only_locks 0 _ (any_none _ free)) (λ l. absurd (true≢false (sym l))) })
free_locks t now free (Changes n old new is move e) = subst (λ (who : Readers). HasOneLock who.readers) (sym e) (record { holder = n; each = put_all (OnlyLocks n) t.catalog.reading.readers n new (only_locks n _ (any_none _ free)) (λ l. refl) })
free_locks t now free (AllChange change stays moves e) =
    subst (λ (who : Readers). HasOneLock who.readers) (sym e) (record {
      holder = 0;
      each =
          all_mapped (λ f. is_locked f.1 ≡ false) (OnlyLocks 0) change t.catalog.reading.readers (λ f unlocked l. absurd (true≢false (sym l ∙ ap (λ (r : Option Reload). is_some (unread_by r)) (stays f.1) ∙ unlocked)))
          (any_none _ free);
    })
free_locks t now free (Leaves n e) = subst (λ (who : Readers). HasOneLock who.readers) (sym e) (record { holder = 0; each = gone_all (OnlyLocks 0) (is_at (nat_cmp n)) t.catalog.reading.readers (only_locks 0 _ (any_none _ free)) })
free_locks t now free (Searches n reader is e) = subst (λ (who : Readers). HasOneLock who.readers) (sym e) (record { holder = 0; each = only_locks 0 _ (any_none _ free) })
free_locks t now free (Ends n e) = subst (λ (who : Readers). HasOneLock who.readers) (sym e) (record { holder = 0; each = only_locks 0 _ (any_none _ free) })

readers_lock : (t : State) (now : Readers) → ReadersMove t now → HasOneLock t.catalog.reading.readers → HasOneLock now.readers
readers_lock t now move h = either (is_busy t.catalog) refl where
  either : (b : Bool) → is_busy t.catalog ≡ b → HasOneLock now.readers
  either true busy = busy_locks t now busy move h
  either false free = free_locks t now free move

moves_lock : (t u : State) → Moves t u → HasOneLock t.catalog.reading.readers → HasOneLock u.catalog.reading.readers
moves_lock t u (Stays e c n) h = subst (λ (who : Readers). HasOneLock who.readers) (sym e) h
moves_lock t u (Draws e c last n) h = subst (λ (who : Readers). HasOneLock who.readers) (sym e) h
moves_lock t u (Commits move last c n) h = readers_lock t u.catalog.reading move h
moves_lock t u (Reads move c n) h = readers_lock t u.catalog.reading move h

nobody_locks : HasOneLock no_readers.readers
nobody_locks = record { holder = 0; each = tt }

pub first_locks : (s : State) (turns : List Turn) → s.catalog.reading ≡ no_readers → HasOneLock (after s turns).catalog.reading.readers
first_locks s turns none =
    after_kept (λ t. HasOneLock t.catalog.reading.readers) (step_keeps (λ t. HasOneLock t.catalog.reading.readers) moves_lock (λ t h. nobody_locks)) s turns (subst (λ (who : Readers). HasOneLock who.readers) (sym none) nobody_locks)

-- ---- and gives it back

-- once the reader that holds it is gone
pub gone_free : (c : Catalog) (n : ℕ) (reader : Reader) → HasOneLock c.reading.readers → Rises c.reading.readers → reader_at c n ≡ Some reader → is_locked reader ≡ true → is_busy (without_reader c n) ≡ false
gone_free c n reader h numbers is locked =
    let own : n ≡ h.holder = found (OnlyLocks h.holder) c.reading.readers n reader h.each is locked in
    let left = remove_entry (is_at (nat_cmp n)) c.reading.readers in
    let none : lookup (is_at (nat_cmp n)) left ≡ None = gone_none c.reading.readers n numbers in
    none_any left (all_found (λ e. is_locked e.1 ≡ false) left (rises_gone (is_at (nat_cmp n)) c.reading.readers numbers) (λ k other there.
    false_from_ne_true _ (λ l.
    let same : k ≡ n = found (OnlyLocks h.holder) left k other (gone_all (OnlyLocks h.holder) (is_at (nat_cmp n)) c.reading.readers h.each) there l ∙ sym own in
    let here : lookup (is_at (nat_cmp n)) left ≡ Some other = subst (λ (m : ℕ). lookup (is_at (nat_cmp m)) left ≡ Some other) same there in
    absurd cc)))

-- or has read its files
pub read_free : (c : Catalog) (n : ℕ) (reader : Reader) (new : Reader) → HasOneLock c.reading.readers → Rises c.reading.readers → reader_at c n ≡ Some reader → is_locked reader ≡ true → is_locked new ≡ false → is_busy (with_reader c n new) ≡ false
read_free c n reader new h numbers is locked unlocked =
    let own : n ≡ h.holder = found (OnlyLocks h.holder) c.reading.readers n reader h.each is locked in
    let now = insert_entry nat_cmp c.reading.readers n new in
    let at_own : lookup (is_at (nat_cmp n)) now ≡ Some new = put_found c.reading.readers n new in
    let only : AllByRecursion (OnlyLocks h.holder) now = put_all (OnlyLocks h.holder) c.reading.readers n new h.each (λ l. absurd (true≢false (sym l ∙ unlocked))) in
    none_any now (all_found (λ e. is_locked e.1 ≡ false) now (rises_put c.reading.readers n new numbers) (λ k other there.
    false_from_ne_true _ (λ l.
    let same : k ≡ n = found (OnlyLocks h.holder) now k other only there l ∙ sym own in
    let here : lookup (is_at (nat_cmp n)) now ≡ Some other = subst (λ (m : ℕ). lookup (is_at (nat_cmp m)) now ≡ Some other) same there in
    let it : new ≡ other = cc in
    true≢false (sym l ∙ ap is_locked (sym it) ∙ unlocked))))

-- a locked reload has noted a commit
noted_of : (unread : Option Commit) → is_some unread ≡ true → (noted : Commit) × (unread ≡ Some noted)
noted_of None e = absurd (true≢false (sym e))
noted_of (Some noted) e = (noted, refl)

pub frees_lock : (t : State) (n : ℕ) (turn : Turn) (reader : Reader) → HasOneLock t.catalog.reading.readers → Numbered t.catalog.reading → FreesLock n turn.0 → reader_at t.catalog n ≡ Some reader → is_locked reader ≡ true
    → is_busy (step t turn.0 turn.1).1.catalog ≡ false
frees_lock t n turn reader h numbers (inl ends) is locked =
    let free : is_busy (release_reader_step t.catalog n).1 ≡ false = rw is (gone_free t.catalog n reader h numbers.readers is locked) in
    subst (λ (event : Event). is_busy (step t event turn.1).1.catalog ≡ false) (sym ends) free
frees_lock t n turn reader h numbers (inr opens) is locked =
    let noted = noted_of (unread_by reader.reload) locked in
    let free : is_busy (reload_open_step t.catalog n (bodies_in t)).1 ≡ false =
    rw (is, noted.1) (read_free t.catalog n reader (record reader { reload = Some (Read noted.0 (bodies_in t noted.0)) }) h numbers.readers is locked refl) in
    subst (λ (event : Event). is_busy (step t event turn.1).1.catalog ≡ false) (sym opens) free
