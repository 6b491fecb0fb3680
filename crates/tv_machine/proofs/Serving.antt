-- A searcher shows one commit of the run for life, a reader never goes back, and the meta lock is given back.
use Rattle.std.proofs.Common.{◌≡◌, ◌⊎◌, inl, inr, ⊎_elim, ℕ, ◌<◌, ◌≤◌, List, [], ◌∷◌, ◌++◌, Option, Some, None, true, true≢false, refl, sym, ap, ap₂, subst, ◌∙◌, arith, append_assoc, append-nil}
use Rattle.std.specs.Prelude.{is_some}
use Rattle.std.specs.List.{AllByRecursion}
use Rattle.tv_events.specs.declared.event.Event.{Event}
use Rattle.tv_events.specs.declared.event.Event.TheVariants as events
use Rattle.tv_formats.specs.Commits.{Commit}
use Rattle.tv_formats.specs.Footer.{HasBody, IsGood}
use Rattle.tv_machine.specs.State.{Catalog, State, FileState, SealedFile, Open, Left, Readers, Reader, Reload, Locked, Read, Snapshot, file_at, reader_at, searcher_at, no_readers}
use Rattle.tv_machine.specs.CommitEvents.{is_sealed}
use Rattle.tv_machine.specs.Living.{is_busy, is_locked, kept_commits, unread_by}
use Rattle.tv_machine.specs.ReaderEvents.{bodies_in, body_in, snapshot_in}
use Rattle.tv_machine.specs.SearcherEvents.{searcher_step}
use Rattle.tv_machine.specs.Machine.{Turn, NeverReopens, isnt_reopening, step, after, events_of}
use Rattle.tv_machine.specs.Index.{next_after}
use Rattle.tv_events.specs.Script.{Fits}
use Rattle.tv_machine.specs.SoundStates.{AreGood, HasSealedFiles, IsSoundState, IsWhole}
use Rattle.tv_machine.specs.Serving.{IsBusyAfterEach, Shows, ShowsState, Serves, ServesStates, ShowsAsSealed, ServesAsSealed}
use Rattle.tv_formats.proofs.Bodies.{body_of_good}
use Rattle.tv_formats.proofs.Numbered.{found, only, put_found}
use Rattle.tv_machine.proofs.Changes.{after_between, reopening}
use Rattle.tv_machine.proofs.KeptFiles.{IsKept, all_kept}
use Rattle.tv_machine.proofs.Locks.{first_locks, frees_lock, locked_busy}
use Rattle.tv_machine.proofs.NotedFiles.{busy_run, same_bodies}
use Rattle.tv_machine.proofs.ReaderMoves as Moved
use Rattle.tv_machine.proofs.ReaderMoves.{ReaderMove, IsTold, Notes, Opens, Publishes, ReadersMove, Comes, Changes, AllChange, Leaves, Searches, Ends, Holds, Spreads, all_both, all_weaker, nothing}
use Rattle.tv_machine.proofs.ReaderStates.{CountsFrom, IsAhead, IsReaderInOrder, Moves, Stays, Draws, Commits, Reads, Orderly, ShowsFrom, after_append, ahead, counts_from, first_from, first_orderly, moves_hold, orderly_after, rises, shows_from, step_moves}
use Rattle.tv_machine.proofs.SoundStates.{step_sound}
use Rattle.tv_machine.proofs.Telling.{heads}
use Rattle.tv_machine.proofs.WholeStates.{after_whole}

-- ---- what is shown, and what reloads have noted and read

-- a reload has noted the commit of a state that the run came to, and after each turn since then the meta lock was held
record NotedSince (s : State) (before : List Turn) (noted : Commit) : Type 0 where
  noting : List Turn
  reading : List Turn
  parts : before ≡ noting ++ reading
  commit : noted ≡ (after s noting).catalog.commit
  locked : IsBusyAfterEach (after s noting) reading

-- what a reload has read is shown under whatever number
abbrev ReloadShows : State → (turns before : List Turn) → Option Reload → Type 0
ReloadShows s turns before None = Unit {0}
ReloadShows s turns before (Some (Locked noted)) = NotedSince s before noted
ReloadShows s turns before (Some (Read noted bodies)) = (generation : ℕ) → Shows s turns (record { generation = generation; commit = noted; bodies = bodies })

-- of a reader
record ReaderSees (s : State) (turns before : List Turn) (reader : Reader) : Type 0 where
  shown : Shows s turns reader.shown
  reload : ReloadShows s turns before reader.reload

-- what a run's readers and searchers show at a part of it
abbrev Sees : State → (turns before : List Turn) → Readers → Type 0
Sees s turns before who = Holds (λ e. Shows s turns e.1) (λ e. ReaderSees s turns before e.1) who

-- of no turns there is none after which the meta lock had to be held
busy_none : (s : State) → IsBusyAfterEach s []
busy_none s [] rest e some = absurd (some refl)
busy_none s (turn ∷ front) rest e some = absurd cc

-- what is shown of the state that a part of the run came to
shows_part : (s : State) (turns before rest : List Turn) (shown : Snapshot) (n : ℕ) → turns ≡ before ++ rest → shown ≡ snapshot_in (after s before) n → Shows s turns shown
shows_part s turns before rest shown n e is =
    let commit : shown.commit ≡ (after s before).catalog.commit = ap (λ k. k.commit) is in record {
      noting = before;
      reading = [];
      rest = rest;
      parts = e ∙ ap (λ (l : List Turn). l ++ rest) (sym (append-nil before));
      commit = commit;
      bodies =
          ap (λ k. k.bodies) is
          ∙ ap (bodies_in (after s before)) (sym commit)
          ∙ ap (λ (l : List Turn). bodies_in (after s l) shown.commit) (sym (append-nil before));
      locked = busy_none (after s before);
    }

-- what a reload that holds the lock has noted, with the bodies that its files have now
shows_noted : (s : State) (turns before rest : List Turn) (noted : Commit) (n : ℕ) → turns ≡ before ++ rest → NotedSince s before noted
    → Shows s turns (record { generation = n; commit = noted; bodies = bodies_in (after s before) noted })
shows_noted s turns before rest noted n e h = record {
  noting = h.noting;
  reading = h.reading;
  rest = rest;
  parts = e ∙ ap (λ (l : List Turn). l ++ rest) h.parts;
  commit = h.commit;
  bodies = ap (λ (l : List Turn). bodies_in (after s l) noted) h.parts;
  locked = h.locked;
}

-- a commit that is noted now
noted_now : (s : State) (before : List Turn) → NotedSince s before (after s before).catalog.commit
noted_now s before = record { noting = before; reading = []; parts = sym (append-nil before); commit = refl; locked = busy_none (after s before) }

reader_sees : (s : State) (turns before rest : List Turn) (old new : Reader) → turns ≡ before ++ rest → ReaderMove (after s before) old new → ReaderSees s turns before old → ReaderSees s turns before new
reader_sees s turns before rest old new e (IsTold has_notice) h = record { shown = h.shown; reload = h.reload }
reader_sees s turns before rest old new e (Moved.Shows has_notice none) h = record { shown = shows_part s turns before rest new.shown old.next e refl; reload = h.reload }
reader_sees s turns before rest old new e (Notes none free) h = record { shown = h.shown; reload = noted_now s before }
reader_sees s turns before rest old new e (Opens noted is) h = record {
  shown = h.shown;
  reload = λ n. shows_noted s turns before rest noted n e (subst (ReloadShows s turns before) is h.reload);
}
reader_sees s turns before rest old new e (Publishes noted bodies is) h =
    let read : ReloadShows s turns before (Some (Read noted bodies)) = subst (ReloadShows s turns before) is h.reload in
    record { shown = read old.next; reload = tt }

sees_spreads : (s : State) (turns before rest : List Turn) → turns ≡ before ++ rest → Spreads (λ e. Shows s turns e.1) (λ e. ReaderSees s turns before e.1) (after s before)
sees_spreads s turns before rest e = record {
  comes = λ policy. record { shown = shows_part s turns before rest (snapshot_in (after s before) 0) 0 e refl; reload = tt };
  changes = λ n old new move h. reader_sees s turns before rest old new e move h;
  searches = λ n reader h. h.shown;
}

-- the last turn of some is reached, or none of the front is
front_of : (reading : List Turn) (turn : Turn) (front rest : List Turn) → reading ++ turn ∷ [] ≡ front ++ rest
    → (front ≡ reading ++ turn ∷ []) ⊎ ((left : List Turn) × (reading ≡ front ++ left))
front_of reading turn [] rest e = inr (reading, refl)
front_of [] turn (x ∷ front) rest e = let parts = heads turn x [] (front ++ rest) e in inl (end front rest parts.1 (sym parts.0)) where
  end : (front rest : List Turn) → [] ≡ front ++ rest → x ≡ turn → x ∷ front ≡ turn ∷ []
  end [] rest e same = ap (λ (y : Turn). y ∷ []) same
  end (y ∷ front) rest e same = absurd cc
front_of (y ∷ reading) turn (x ∷ front) rest e =
    let parts = heads y x (reading ++ turn ∷ []) (front ++ rest) e in
    ⊎_elim
    (λ (all : front ≡ reading ++ turn ∷ []). inl (ap₂ (λ (z : Turn) (l : List Turn). z ∷ l) (sym parts.0) all))
    (λ (some : (left : List Turn) × (reading ≡ front ++ left)). inr (some.0, ap₂ (λ (z : Turn) (l : List Turn). z ∷ l) parts.0 some.1))
    (front_of reading turn front rest parts.1)

-- where the lock is held after one more turn, it was held after each
busy_more : (t : State) (reading : List Turn) (turn : Turn) → is_busy (after t (reading ++ turn ∷ [])).catalog ≡ true → IsBusyAfterEach t reading → IsBusyAfterEach t (reading ++ turn ∷ [])
busy_more t reading turn busy h front rest e some =
    ⊎_elim
    (λ (all : front ≡ reading ++ turn ∷ []). ap (λ (l : List Turn). is_busy (after t l).catalog) all ∙ busy)
    (λ (part : (left : List Turn) × (reading ≡ front ++ left)). h front part.0 part.1 some)
    (front_of reading turn front rest e)

noted_more : (s : State) (before : List Turn) (turn : Turn) (noted : Commit) → is_busy (after s (before ++ turn ∷ [])).catalog ≡ true → NotedSince s before noted → NotedSince s (before ++ turn ∷ []) noted
noted_more s before turn noted busy h =
    let parts : before ++ turn ∷ [] ≡ h.noting ++ (h.reading ++ turn ∷ []) = ap (λ (l : List Turn). l ++ turn ∷ []) h.parts ∙ append_assoc h.noting h.reading (turn ∷ []) in
    record {
      noting = h.noting;
      reading = h.reading ++ turn ∷ [];
      parts = parts;
      commit = h.commit;
      locked = busy_more (after s h.noting) h.reading turn (ap (λ (t : State). is_busy t.catalog) (sym (after_append s h.noting (h.reading ++ turn ∷ [])) ∙ ap (after s) (sym parts)) ∙ busy) h.locked;
    }

reload_more : (s : State) (turns before : List Turn) (turn : Turn) (reload : Option Reload) → (is_some (unread_by reload) ≡ true → is_busy (after s (before ++ turn ∷ [])).catalog ≡ true)
    → ReloadShows s turns before reload → ReloadShows s turns (before ++ turn ∷ []) reload
reload_more s turns before turn None busy h = tt
reload_more s turns before turn (Some (Locked noted)) busy h = noted_more s before turn noted (busy refl) h
reload_more s turns before turn (Some (Read noted bodies)) busy h = h

-- one turn later
sees_more : (s : State) (turns before : List Turn) (turn : Turn) → Sees s turns before (after s (before ++ turn ∷ [])).catalog.reading → Sees s turns (before ++ turn ∷ []) (after s (before ++ turn ∷ [])).catalog.reading
sees_more s turns before turn h = let c = (after s (before ++ turn ∷ [])).catalog in record {
  searchers = h.searchers;
  readers =
      all_weaker (λ e. (is_locked e.1 ≡ true → is_busy c ≡ true) × ReaderSees s turns before e.1) (λ e. ReaderSees s turns (before ++ turn ∷ []) e.1) c.reading.readers
      (λ e k. record { shown = k.1.shown; reload = reload_more s turns before turn e.1.reload k.0 k.1.reload })
      (all_both (λ e. is_locked e.1 ≡ true → is_busy c ≡ true) (λ e. ReaderSees s turns before e.1) c.reading.readers (locked_busy c) h.readers);
}

sees_step : (s : State) (turns before rest : List Turn) (turn : Turn) → turns ≡ before ++ turn ∷ rest → Sees s turns before (after s before).catalog.reading → Sees s turns (before ++ turn ∷ []) (after s (before ++ turn ∷ [])).catalog.reading
sees_step s turns before rest turn e h =
    sees_more s turns before turn (subst (λ (t : State). Sees s turns before t.catalog.reading) (sym (after_append s before (turn ∷ []))) (either (reopening turn.0)))
  where
    either : ((isnt_reopening turn.0 ≡ true) ⊎ (turn.0 ≡ events.Reopen)) → Sees s turns before (step (after s before) turn.0 turn.1).1.catalog.reading
    either (inl never) =
        moves_hold _ _ (after s before) (step (after s before) turn.0 turn.1).1 (step_moves (after s before) turn.0 turn.1 never) (sees_spreads s turns before (turn ∷ rest) e) h
    either (inr again) = subst (λ (event : Event). Sees s turns before (step (after s before) event turn.1).1.catalog.reading) (sym again) (record { searchers = tt; readers = tt })

sees_run : (s : State) (turns before rest : List Turn) → turns ≡ before ++ rest → Sees s turns before (after s before).catalog.reading → Sees s turns turns (after s turns).catalog.reading
sees_run s turns before [] e h = subst (λ (l : List Turn). Sees s turns l (after s l).catalog.reading) (sym (e ∙ append-nil before)) h
sees_run s turns before (turn ∷ rest) e h = sees_run s turns (before ++ turn ∷ []) rest (e ∙ sym (append_assoc before (turn ∷ []) rest)) (sees_step s turns before rest turn e h)

shows_one : (s : State) (turns : List Turn) (n : ℕ) (shown : Snapshot) → s.catalog.reading ≡ no_readers → searcher_at (after s turns).catalog n ≡ Some shown → Shows s turns shown
shows_one s turns n shown e is =
    let first : Sees s turns [] s.catalog.reading = subst (Sees s turns []) (sym e) (record { searchers = tt; readers = tt }) in
    found (λ e. Shows s turns e.1) (after s turns).catalog.reading.searchers n shown (sees_run s turns [] turns refl first).searchers is

-- numbers that are given stay given
readers_counted : (t : State) (now : Readers) → ReadersMove t now → (t.catalog.reading.next_reader ≤ now.next_reader) × (t.catalog.reading.next_searcher ≤ now.next_searcher)
readers_counted t now (Comes policy e) = omega (arith, ap (λ k. k.next_reader) e, ap (λ k. k.next_searcher) e)
readers_counted t now (Changes n old new is move e) = omega (arith, ap (λ k. k.next_reader) e, ap (λ k. k.next_searcher) e)
readers_counted t now (AllChange change stays moves e) = omega (arith, ap (λ k. k.next_reader) e, ap (λ k. k.next_searcher) e)
readers_counted t now (Leaves n e) = omega (arith, ap (λ k. k.next_reader) e, ap (λ k. k.next_searcher) e)
readers_counted t now (Searches n reader is e) = omega (arith, ap (λ k. k.next_reader) e, ap (λ k. k.next_searcher) e)
readers_counted t now (Ends n e) = omega (arith, ap (λ k. k.next_reader) e, ap (λ k. k.next_searcher) e)

counted : (t u : State) → Moves t u → (t.catalog.reading.next_reader ≤ u.catalog.reading.next_reader) × (t.catalog.reading.next_searcher ≤ u.catalog.reading.next_searcher)
counted t u (Stays e c n) = omega (arith, ap (λ k. k.next_reader) e, ap (λ k. k.next_searcher) e)
counted t u (Draws e c last n) = omega (arith, ap (λ k. k.next_reader) e, ap (λ k. k.next_searcher) e)
counted t u (Commits move last c n) = readers_counted t u.catalog.reading move
counted t u (Reads move c n) = readers_counted t u.catalog.reading move

-- a searcher that was given this number shows this, as long as it is there
record Searcher (t : State) (n : ℕ) (first : Snapshot) : Type 0 where
  given : n < t.catalog.reading.next_searcher
  one : Holds (λ e. e.0 ≡ n → e.1 ≡ first) (λ e. Unit {0}) t.catalog.reading

stays_searcher : (t u : State) (n : ℕ) (first : Snapshot) → Moves t u → Searcher t n first → Searcher u n first
stays_searcher t u n first move h = record {
  given = omega (arith, h.given, (counted t u move).1);
  one = moves_hold _ _ t u move (record { comes = λ policy. tt; changes = λ k old new move is. tt; searches = λ k reader is same. absurd (omega (arith, same, h.given)) }) h.one;
}

searcher_after : (t : State) (turns : List Turn) (n : ℕ) (first : Snapshot) → NeverReopens turns → Searcher t n first → Searcher (after t turns) n first
searcher_after t turns n first never h = after_between isnt_reopening (λ u. Searcher u n first) (λ u event outcomes once k. stays_searcher u (step u event outcomes).1 n first (step_moves u event outcomes once) k) t turns never h

same_for_life : (t : State) (turns : List Turn) (n : ℕ) (first later : Snapshot) → NeverReopens turns → Orderly t → searcher_at t.catalog n ≡ Some first → searcher_at (after t turns).catalog n ≡ Some later → later ≡ first
same_for_life t turns n first later never h is then =
    let start : Searcher t n first = record {
      given = found (λ e. e.0 < t.catalog.reading.next_searcher) t.catalog.reading.searchers n first h.who.numbers.searchers_given is;
      one = record { searchers = only t.catalog.reading.searchers n first h.who.numbers.searchers is; readers = nothing t.catalog.reading.readers };
    } in
    found (λ e. e.0 ≡ n → e.1 ≡ first) (after t turns).catalog.reading.searchers n later (searcher_after t turns n first never start).one.searchers then refl

-- a reader that was given this number shows no commit below this one, nor has it noted one
record Reading (t : State) (n opstamp : ℕ) : Type 0 where
  given : n < t.catalog.reading.next_reader
  ahead : IsAhead t
  reached : opstamp ≤ t.catalog.commit.opstamp
  one : Holds (λ e. Unit {0}) (λ e. e.0 ≡ n → ShowsFrom opstamp e.1) t.catalog.reading

reading_step : (t u : State) (n opstamp : ℕ) → Moves t u → Reading t n opstamp → Reading u n opstamp
reading_step t u n opstamp move h = record {
  given = omega (arith, h.given, (counted t u move).0);
  ahead = ahead t u move h.ahead;
  reached = omega (arith, h.reached, rises t u move h.ahead);
  one = moves_hold _ _ t u move (record {
    comes = λ policy same. absurd (omega (arith, same, h.given));
    changes = λ k old new one is same. shows_from t old new opstamp h.reached one (is same);
    searches = λ k reader is. tt;
  }) h.one;
}

reading_after : (t : State) (turns : List Turn) (n opstamp : ℕ) → NeverReopens turns → Reading t n opstamp → Reading (after t turns) n opstamp
reading_after t turns n opstamp never h = after_between isnt_reopening (λ u. Reading u n opstamp) (λ u event outcomes once k. reading_step u (step u event outcomes).1 n opstamp (step_moves u event outcomes once) k) t turns never h

goes_on : (t : State) (turns : List Turn) (n : ℕ) (first later : Reader) → NeverReopens turns → Orderly t → reader_at t.catalog n ≡ Some first → reader_at (after t turns).catalog n ≡ Some later
    → first.shown.commit.opstamp ≤ later.shown.commit.opstamp
goes_on t turns n first later never h is then =
    let order = found (λ e. IsReaderInOrder t.catalog.commit.opstamp e.1) t.catalog.reading.readers n first h.who.each is in
    let start : Reading t n first.shown.commit.opstamp = record {
      given = found (λ e. e.0 < t.catalog.reading.next_reader) t.catalog.reading.readers n first h.who.numbers.readers_given is;
      ahead = h.ahead;
      reached = order.shown;
      one = record {
        searchers = nothing t.catalog.reading.searchers;
        readers = all_weaker _ _ t.catalog.reading.readers (λ e one same. subst (ShowsFrom first.shown.commit.opstamp) (sym (one same)) (first_from t.catalog.commit.opstamp first order)) (only t.catalog.reading.readers n first h.who.numbers.readers is);
      };
    } in
    (found (λ e. e.0 ≡ n → ShowsFrom first.shown.commit.opstamp e.1) (after t turns).catalog.reading.readers n later
    (reading_after t turns n first.shown.commit.opstamp never start).one.readers then refl).shown

-- a reader that was given this number shows this, or something under a higher number
record Counting (t : State) (n : ℕ) (first : Snapshot) : Type 0 where
  given : n < t.catalog.reading.next_reader
  one : Holds (λ e. Unit {0}) (λ e. e.0 ≡ n → CountsFrom first e.1) t.catalog.reading

counting_step : (t u : State) (n : ℕ) (first : Snapshot) → Moves t u → Counting t n first → Counting u n first
counting_step t u n first move h = record {
  given = omega (arith, h.given, (counted t u move).0);
  one = moves_hold _ _ t u move (record {
    comes = λ policy same. absurd (omega (arith, same, h.given));
    changes = λ k old new one is same. counts_from t old new first one (is same);
    searches = λ k reader is. tt;
  }) h.one;
}

counting_after : (t : State) (turns : List Turn) (n : ℕ) (first : Snapshot) → NeverReopens turns → Counting t n first → Counting (after t turns) n first
counting_after t turns n first never h = after_between isnt_reopening (λ u. Counting u n first) (λ u event outcomes once k. counting_step u (step u event outcomes).1 n first (step_moves u event outcomes once) k) t turns never h

counts_up : (t : State) (turns : List Turn) (n : ℕ) (first later : Reader) → NeverReopens turns → Orderly t → reader_at t.catalog n ≡ Some first → reader_at (after t turns).catalog n ≡ Some later
    → (later.shown ≡ first.shown) ⊎ (first.shown.generation < later.shown.generation)
counts_up t turns n first later never h is then =
    let order = found (λ e. IsReaderInOrder t.catalog.commit.opstamp e.1) t.catalog.reading.readers n first h.who.each is in
    let start : Counting t n first.shown = record {
      given = found (λ e. e.0 < t.catalog.reading.next_reader) t.catalog.reading.readers n first h.who.numbers.readers_given is;
      one = record {
        searchers = nothing t.catalog.reading.searchers;
        readers = all_weaker _ _ t.catalog.reading.readers (λ e one same. subst (CountsFrom first.shown) (sym (one same)) (record { shown = inl refl; counted = order.counted })) (only t.catalog.reading.readers n first h.who.numbers.readers is);
      };
    } in
    (found (λ e. e.0 ≡ n → CountsFrom first.shown e.1) (after t turns).catalog.reading.readers n later (counting_after t turns n first.shown never start).one.readers then refl).shown

new_searcher : (c : Catalog) (n : ℕ) (reader : Reader) → reader_at c n ≡ Some reader → searcher_at (searcher_step c n).1 c.reading.next_searcher ≡ Some reader.shown
new_searcher c n reader is = rw is (put_found c.reading.searchers c.reading.next_searcher reader.shown)

-- what a run's readers and searchers show
pub serves : (s : State) (turns : List Turn) → s.catalog.reading ≡ no_readers → s.catalog.next ≡ next_after s.catalog.commit.opstamp → Serves s turns
serves s turns none next = record {
  one_commit = λ front rest n shown e is. shows_one s front n shown none is;
  for_life = λ front middle rest n first later e never is then.
      same_for_life (after s front) middle n first later never (orderly_after s front (first_orderly s none next)) is (rw (after_append s front middle) at then);
  never_back = λ front middle rest n first later e never is then.
      goes_on (after s front) middle n first later never (orderly_after s front (first_orderly s none next)) is (rw (after_append s front middle) at then);
  counts_up = λ front middle rest n first later e never is then.
      counts_up (after s front) middle n first later never (orderly_after s front (first_orderly s none next)) is (rw (after_append s front middle) at then);
  frees = λ front rest n turn reader e frees is locked.
      rw (after_append s front (turn ∷ [])) (frees_lock (after s front) n turn reader (first_locks s front none) (orderly_after s front (first_orderly s none next)).who.numbers frees is locked);
  as_reader = λ front rest n outcomes reader e is. rw (after_append s front ((events.Searcher n, outcomes) ∷ [])) (new_searcher (after s front).catalog n reader is);
}

-- ---- in a run from a sound state

-- the bodies are those of the state whose commit is shown
shows_state : (s : State) (turns : List Turn) (shown : Snapshot) → IsWhole s → Shows s turns shown → ShowsState s turns shown
shows_state s turns shown whole h =
    let t = after s h.noting in
    let then_whole : IsWhole t = after_whole s h.noting whole in
    let kept : IsKept t shown.commit = subst (IsKept t) (sym h.commit) (all_kept t then_whole).0 in record {
      front = h.noting;
      rest = h.reading ++ h.rest;
      parts = h.parts ∙ append_assoc h.noting h.reading h.rest;
      commit = h.commit;
      bodies =
          h.bodies ∙ ap (λ (u : State). bodies_in u shown.commit) (after_append s h.noting h.reading)
          ∙ same_bodies t (after t h.reading) shown.commit (busy_run t h.reading shown.commit then_whole kept h.locked);
    }

pub serves_states : (s : State) (turns : List Turn) → s.catalog.reading ≡ no_readers → IsSoundState s → ServesStates s turns
serves_states s turns none sound front rest n shown e is = shows_state s front shown sound.whole (shows_one s front n shown none is)

-- states of a run stay sound
pub sound_after : (s : State) (turns : List Turn) → AllByRecursion Fits (events_of turns) → IsSoundState s → IsSoundState (after s turns)
sound_after s [] fits h = h
sound_after s (turn ∷ turns) fits h = sound_after (step s turn.0 turn.1).1 turns fits.1 (step_sound s turn.0 turn.1 fits.0 h)

-- what holds of all events of a run holds of those of its first part
pub front_fits : (front rest : List Turn) → AllByRecursion Fits (events_of (front ++ rest)) → AllByRecursion Fits (events_of front)
front_fits [] rest h = tt
front_fits (turn ∷ front) rest h = (h.0, front_fits front rest h.1)

sealed_shown : (file : Option FileState) → is_sealed file ≡ true → ((bytes : List ℕ) → file ≡ Some (SealedFile bytes) → IsGood bytes)
    → (bytes : List ℕ) × (body : List ℕ) × (file ≡ Some (SealedFile bytes)) × HasBody bytes body × (body_in file ≡ body)
sealed_shown None h good = absurd (true≢false (sym h))
sealed_shown (Some (Open body)) h good = absurd (true≢false (sym h))
sealed_shown (Some Left) h good = absurd (true≢false (sym h))
sealed_shown (Some (SealedFile bytes)) h good =
    let is : IsGood bytes = good bytes refl in
    (bytes, is.body, refl, is.has_body, body_of_good bytes is.body is.has_body)

shows_as_sealed : (s : State) → IsSoundState s → AllByRecursion (ShowsAsSealed s) (kept_commits s.catalog)
shows_as_sealed s h =
    all_weaker (λ commit. HasSealedFiles s commit × AreGood s commit.segments) (ShowsAsSealed s) (kept_commits s.catalog) (λ commit k n required. sealed_shown (file_at s n) (k.0 n required) (λ bytes. k.1 n bytes required))
    (all_both (HasSealedFiles s) (λ commit. AreGood s commit.segments) (kept_commits s.catalog) h.whole.each h.good)

-- bodies are shown as they were sealed
pub serves_as_sealed : (s : State) (turns : List Turn) → IsSoundState s → AllByRecursion Fits (events_of turns) → ServesAsSealed s turns
serves_as_sealed s turns h fits front rest e = shows_as_sealed (after s front) (sound_after s front (front_fits front rest (subst (λ (l : List Turn). AllByRecursion Fits (events_of l)) e fits)) h)
