-- How the readers and searchers of a run change, and what stays in order.
use Rattle.std.proofs.Common.{◌≡◌, ◌≢◌, ◌⊎◌, inl, inr, ℕ, ◌+◌, ◌<◌, ◌≤◌, Bool, true, true≢false, ◌||◌, List, [], ◌∷◌, ◌++◌, map, Option, Some, None, refl, sym, ap, subst, ◌∙◌, arith}
use Rattle.std.proofs.lemmas.Bool.Decides.{nat_tests}
use Rattle.std.specs.List.{AllByRecursion}
use Rattle.std.specs.BTreeMap.{is_at}
use Rattle.std.specs.Ordering.{nat_cmp}
use Rattle.tv_events.specs.declared.event.Event.{Event}
use Rattle.tv_events.specs.declared.event.Event.TheVariants as events
use Rattle.tv_formats.specs.Collections.{Rises}
use Rattle.tv_formats.specs.Commits.{Commit}
use Rattle.tv_machine.specs.State.{State, Readers, Reader, Reload, Locked, Read, Snapshot, no_readers}
use Rattle.tv_machine.specs.CommitEvents.{last_stamp}
use Rattle.tv_machine.specs.Index.{next_after}
use Rattle.tv_machine.specs.Machine.{Turn, isnt_reopening, step, after}
use Rattle.tv_machine.specs.ReloadEvents.{told_of_commit, follows_commits, with_notices}
use Rattle.tv_machine.specs.ReopenEvents.{reopened}
use Rattle.tv_formats.proofs.Numbered.{found, put_all, gone_all, rises_put, rises_gone}
use Rattle.tv_machine.proofs.ReaderMoves.{ReaderMove, IsTold, Shows, Notes, Opens, Publishes, ReadersMove, Comes, Changes, AllChange, Leaves, Searches, Ends, Holds, Spreads, all_mapped, all_weaker, nothing, readers_hold}
use Rattle.tv_machine.proofs.Changes.{after_kept, reopening, step_changes}

-- a commit tells the readers that follow commits of it
told_moves : (s : State) (es : List (ℕ × Reader)) → AllByRecursion (λ e. ReaderMove s e.1 (told_of_commit e.1)) es
told_moves s [] = tt
told_moves s (e ∷ es) = (IsTold (follows_commits e.1.policy || e.1.has_notice), told_moves s es)

noticed_move : (s : State) → ReadersMove s (with_notices s.catalog.reading)
noticed_move s = AllChange told_of_commit (λ reader. refl) (told_moves s s.catalog.reading.readers) refl

-- what a step does that doesn't open the index again: nothing to the commit and to who reads, where it may draw a stamp; a commit, of which readers are told; or a change of who reads
pub data Moves (t u : State) : Type 0 where
  Stays : u.catalog.reading ≡ t.catalog.reading → u.catalog.commit ≡ t.catalog.commit → u.catalog.next ≡ t.catalog.next → Moves t u
  Draws : u.catalog.reading ≡ t.catalog.reading → u.catalog.commit ≡ t.catalog.commit → t.catalog.next ≢ last_stamp → u.catalog.next ≡ t.catalog.next + 1 → Moves t u
  Commits : ReadersMove t u.catalog.reading → t.catalog.next ≢ last_stamp → u.catalog.commit.opstamp ≡ t.catalog.next → u.catalog.next ≡ t.catalog.next + 1 → Moves t u
  Reads : ReadersMove t u.catalog.reading → u.catalog.commit ≡ t.catalog.commit → u.catalog.next ≡ t.catalog.next → Moves t u

reopens_again : (event : Event) → isnt_reopening event ≡ true → event ≡ events.Reopen → ⊥
reopens_again event never e = true≢false (sym never ∙ ap isnt_reopening e)

-- each such step is of one of these kinds
pub step_moves : (s : State) (event : Event) (outcomes : List Bool) → isnt_reopening event ≡ true → Moves s (step s event outcomes).1
step_moves s event outcomes never = step_changes (Moves s) s event outcomes (record {
  same = Stays refl refl refl;
  lives = λ id segment move. Stays refl refl refl;
  reads = λ now move. Reads move refl refl;
  opens = λ id segment component e there absent. Stays refl refl refl;
  puts = λ name body file e good. Stays refl refl refl;
  commits = λ payload ids last e. Commits (noticed_move s) last refl refl;
  collects = λ outcomes free. Stays refl refl refl;
  releases = λ id segment. Stays refl refl refl;
  deletes = λ id n segment may. Draws refl refl may.last refl;
  begins = λ free. Stays refl refl refl;
  tries = λ number c name left is_done step there e. Stays refl refl refl;
  finishes = λ number c e there. Stays refl refl refl;
  reopens = λ e. absurd (reopens_again event never e);
})

-- what such steps keep, and opening the index again too, each step keeps
pub step_keeps : (P : State → Type 0) → ((t u : State) → Moves t u → P t → P u) → ((t : State) → P t → P (reopened t)) → (t : State) (event : Event) (outcomes : List Bool) → P t → P (step t event outcomes).1
step_keeps P moves reopens t event outcomes h = either (reopening event) where
  either : ((isnt_reopening event ≡ true) ⊎ (event ≡ events.Reopen)) → P (step t event outcomes).1
  either (inl never) = moves t (step t event outcomes).1 (step_moves t event outcomes never) h
  either (inr again) = subst (λ (e : Event). P (step t e outcomes).1) (sym again) (reopens t h)

-- a run and one more run
pub after_append : (s : State) (front rest : List Turn) → after s (front ++ rest) ≡ after (after s front) rest
after_append s [] rest = refl
after_append s (turn ∷ front) rest = after_append (step s turn.0 turn.1).1 front rest

-- what holds of all who read, and of those that come in a step or change, holds of all after it
pub moves_hold : (P : ℕ × Snapshot → Type 0) (R : ℕ × Reader → Type 0) (t u : State) → Moves t u → Spreads P R t → Holds P R t.catalog.reading → Holds P R u.catalog.reading
moves_hold P R t u (Stays e c n) spreads h = subst (Holds P R) (sym e) h
moves_hold P R t u (Draws e c last n) spreads h = subst (Holds P R) (sym e) h
moves_hold P R t u (Commits move last c n) spreads h = readers_hold P R t u.catalog.reading move spreads h
moves_hold P R t u (Reads move c n) spreads h = readers_hold P R t u.catalog.reading move spreads h

-- ---- numbers, and which commit is shown

-- what holds of the commit that a reload has noted, where there is one
abbrev OfNoted : (Commit → Type 0) → Option Reload → Type 0
OfNoted P None = Unit {0}
OfNoted P (Some (Locked noted)) = P noted
OfNoted P (Some (Read noted bodies)) = P noted

noted_weaker : (P Q : Commit → Type 0) (reload : Option Reload) → ((commit : Commit) → P commit → Q commit) → OfNoted P reload → OfNoted Q reload
noted_weaker P Q None f h = tt
noted_weaker P Q (Some (Locked noted)) f h = f noted h
noted_weaker P Q (Some (Read noted bodies)) f h = f noted h

-- its number is between these
abbrev IsBetween : (low high : ℕ) → Commit → Type 0
IsBetween low high commit = (low ≤ commit.opstamp) × (commit.opstamp ≤ high)

-- a reader shows no commit that is yet to come, has noted none that is older than the one shown, and its next number is above that of what it shows
pub record IsReaderInOrder (opstamp : ℕ) (reader : Reader) : Type 0 where
  pub shown : reader.shown.commit.opstamp ≤ opstamp
  pub counted : reader.shown.generation < reader.next
  pub noted : OfNoted (IsBetween reader.shown.commit.opstamp opstamp) reader.reload

reader_in_order : (t : State) (old new : Reader) → ReaderMove t old new → IsReaderInOrder t.catalog.commit.opstamp old → IsReaderInOrder t.catalog.commit.opstamp new
reader_in_order t old new (IsTold has_notice) h = record { shown = h.shown; counted = h.counted; noted = h.noted }
reader_in_order t old new (Shows has_notice none) h = record { shown = omega arith; counted = omega arith; noted = subst (OfNoted (IsBetween t.catalog.commit.opstamp t.catalog.commit.opstamp)) (sym none) tt }
reader_in_order t old new (Notes none free) h = record { shown = h.shown; counted = h.counted; noted = (h.shown, omega arith) }
reader_in_order t old new (Opens noted is) h =
    let was : OfNoted (IsBetween old.shown.commit.opstamp t.catalog.commit.opstamp) (Some (Locked noted)) = subst (OfNoted (IsBetween old.shown.commit.opstamp t.catalog.commit.opstamp)) is h.noted in
    record { shown = h.shown; counted = h.counted; noted = was }
reader_in_order t old new (Publishes noted bodies is) h =
    let was : OfNoted (IsBetween old.shown.commit.opstamp t.catalog.commit.opstamp) (Some (Read noted bodies)) = subst (OfNoted (IsBetween old.shown.commit.opstamp t.catalog.commit.opstamp)) is h.noted in
    record { shown = was.1; counted = omega arith; noted = tt }

-- a reader shows no commit below this number, nor has it noted one
pub record ShowsFrom (opstamp : ℕ) (reader : Reader) : Type 0 where
  pub shown : opstamp ≤ reader.shown.commit.opstamp
  pub noted : OfNoted (λ commit. opstamp ≤ commit.opstamp) reader.reload

pub first_from : (opstamp : ℕ) (reader : Reader) → IsReaderInOrder opstamp reader → ShowsFrom reader.shown.commit.opstamp reader
first_from opstamp reader h = record { shown = omega arith; noted = noted_weaker _ _ reader.reload (λ commit between. between.0) h.noted }

pub shows_from : (t : State) (old new : Reader) (opstamp : ℕ) → opstamp ≤ t.catalog.commit.opstamp → ReaderMove t old new → ShowsFrom opstamp old → ShowsFrom opstamp new
shows_from t old new opstamp reached (IsTold has_notice) h = record { shown = h.shown; noted = h.noted }
shows_from t old new opstamp reached (Shows has_notice none) h = record { shown = reached; noted = h.noted }
shows_from t old new opstamp reached (Notes none free) h = record { shown = h.shown; noted = reached }
shows_from t old new opstamp reached (Opens noted is) h =
    let was : OfNoted (λ commit. opstamp ≤ commit.opstamp) (Some (Locked noted)) = subst (OfNoted (λ commit. opstamp ≤ commit.opstamp)) is h.noted in
    record { shown = h.shown; noted = was }
shows_from t old new opstamp reached (Publishes noted bodies is) h =
    let was : OfNoted (λ commit. opstamp ≤ commit.opstamp) (Some (Read noted bodies)) = subst (OfNoted (λ commit. opstamp ≤ commit.opstamp)) is h.noted in
    record { shown = was; noted = tt }

-- a reader shows this, or something under a higher number, and its next number is higher still
pub record CountsFrom (first : Snapshot) (reader : Reader) : Type 0 where
  pub shown : (reader.shown ≡ first) ⊎ (first.generation < reader.shown.generation)
  pub counted : first.generation < reader.next

pub counts_from : (t : State) (old new : Reader) (first : Snapshot) → ReaderMove t old new → CountsFrom first old → CountsFrom first new
counts_from t old new first (IsTold has_notice) h = record { shown = h.shown; counted = h.counted }
counts_from t old new first (Shows has_notice none) h = record { shown = inr h.counted; counted = omega (arith, h.counted) }
counts_from t old new first (Notes none free) h = record { shown = h.shown; counted = h.counted }
counts_from t old new first (Opens noted is) h = record { shown = h.shown; counted = h.counted }
counts_from t old new first (Publishes noted bodies is) h = record { shown = inr h.counted; counted = omega (arith, h.counted) }

-- numbers are given once, in their order
pub record Numbered (who : Readers) : Type 0 where
  pub searchers : Rises who.searchers
  pub readers : Rises who.readers
  pub searchers_given : AllByRecursion (λ e. e.0 < who.next_searcher) who.searchers
  pub readers_given : AllByRecursion (λ e. e.0 < who.next_reader) who.readers

-- and each reader is in order
pub record InOrder (who : Readers) (opstamp : ℕ) : Type 0 where
  pub numbers : Numbered who
  pub each : AllByRecursion (λ e. IsReaderInOrder opstamp e.1) who.readers

given_more : {X : Type 0} (n : ℕ) (es : List (ℕ × X)) → AllByRecursion (λ e. e.0 < n) es → AllByRecursion (λ e. e.0 < n + 1) es
given_more n es h = all_weaker (λ e. e.0 < n) (λ e. e.0 < n + 1) es (λ e lt. omega (arith, lt)) h

rises_mapped : (change : Reader → Reader) (es : List (ℕ × Reader)) → Rises es → Rises (map (λ e. (e.0, change e.1)) es)
rises_mapped change [] h = tt
rises_mapped change (e ∷ es) h = (all_mapped (λ f. e.0 < f.0) (λ f. e.0 < f.0) change es (λ f lt. lt) h.0, rises_mapped change es h.1)

-- each reader after a change of who reads
each_in_order : (t : State) (now : Readers) → ReadersMove t now → InOrder t.catalog.reading t.catalog.commit.opstamp → AllByRecursion (λ e. IsReaderInOrder t.catalog.commit.opstamp e.1) now.readers
each_in_order t now move h =
    (readers_hold (λ e. Unit {0}) (λ e. IsReaderInOrder t.catalog.commit.opstamp e.1) t now move (record {
      comes = λ policy. record { shown = omega arith; counted = omega arith; noted = tt };
      changes = λ n old new one k. reader_in_order t old new one k;
      searches = λ n reader k. tt;
    }) (record { searchers = nothing t.catalog.reading.searchers; readers = h.each })).readers

numbered_move : (t : State) (now : Readers) → ReadersMove t now → Numbered t.catalog.reading → Numbered now
numbered_move t now (Comes policy e) h =
    subst Numbered (sym e) (record {
      searchers = h.searchers;
      readers = rises_put t.catalog.reading.readers t.catalog.reading.next_reader _ h.readers;
      searchers_given = h.searchers_given;
      readers_given = put_all (λ e. e.0 < t.catalog.reading.next_reader + 1) t.catalog.reading.readers t.catalog.reading.next_reader _ (given_more t.catalog.reading.next_reader t.catalog.reading.readers h.readers_given) (omega arith);
    })
numbered_move t now (Changes n old new is move e) h =
    subst Numbered (sym e) (record {
      searchers = h.searchers;
      readers = rises_put t.catalog.reading.readers n new h.readers;
      searchers_given = h.searchers_given;
      readers_given = put_all (λ e. e.0 < t.catalog.reading.next_reader) t.catalog.reading.readers n new h.readers_given (found (λ e. e.0 < t.catalog.reading.next_reader) t.catalog.reading.readers n old h.readers_given is);
    })
numbered_move t now (AllChange change stays moves e) h =
    subst Numbered (sym e) (record {
      searchers = h.searchers;
      readers = rises_mapped change t.catalog.reading.readers h.readers;
      searchers_given = h.searchers_given;
      readers_given = all_mapped (λ e. e.0 < t.catalog.reading.next_reader) (λ e. e.0 < t.catalog.reading.next_reader) change t.catalog.reading.readers (λ e lt. lt) h.readers_given;
    })
numbered_move t now (Leaves n e) h =
    subst Numbered (sym e) (record {
      searchers = h.searchers;
      readers = rises_gone (is_at (nat_cmp n)) t.catalog.reading.readers h.readers;
      searchers_given = h.searchers_given;
      readers_given = gone_all (λ e. e.0 < t.catalog.reading.next_reader) (is_at (nat_cmp n)) t.catalog.reading.readers h.readers_given;
    })
numbered_move t now (Searches n reader is e) h =
    subst Numbered (sym e) (record {
      searchers = rises_put t.catalog.reading.searchers t.catalog.reading.next_searcher _ h.searchers;
      readers = h.readers;
      searchers_given = put_all (λ e. e.0 < t.catalog.reading.next_searcher + 1) t.catalog.reading.searchers t.catalog.reading.next_searcher _ (given_more t.catalog.reading.next_searcher t.catalog.reading.searchers h.searchers_given) (omega arith);
      readers_given = h.readers_given;
    })
numbered_move t now (Ends n e) h =
    subst Numbered (sym e) (record {
      searchers = rises_gone (is_at (nat_cmp n)) t.catalog.reading.searchers h.searchers;
      readers = h.readers;
      searchers_given = gone_all (λ e. e.0 < t.catalog.reading.next_searcher) (is_at (nat_cmp n)) t.catalog.reading.searchers h.searchers_given;
      readers_given = h.readers_given;
    })

readers_in_order : (t : State) (now : Readers) → ReadersMove t now → InOrder t.catalog.reading t.catalog.commit.opstamp → InOrder now t.catalog.commit.opstamp
readers_in_order t now move h = record { numbers = numbered_move t now move h.numbers; each = each_in_order t now move h }

-- the number that the next commit gets is above the current one, or no commit is possible
abbrev pub IsAhead : State → Type 0
IsAhead t = (t.catalog.next ≡ last_stamp) ⊎ (t.catalog.commit.opstamp < t.catalog.next)

pub record Orderly (t : State) : Type 0 where
  pub who : InOrder t.catalog.reading t.catalog.commit.opstamp
  pub ahead : IsAhead t

-- a step doesn't lower the current number
pub rises : (t u : State) → Moves t u → IsAhead t → t.catalog.commit.opstamp ≤ u.catalog.commit.opstamp
rises t u (Stays e c n) h = omega (arith, ap (λ k. k.opstamp) c)
rises t u (Draws e c last n) h = omega (arith, ap (λ k. k.opstamp) c)
rises t u (Commits e last c n) (inl is) = absurd (last is)
rises t u (Commits e last c n) (inr above) = omega (arith, c, above)
rises t u (Reads move c n) h = omega (arith, ap (λ k. k.opstamp) c)

ahead_same : (t u : State) → u.catalog.commit ≡ t.catalog.commit → u.catalog.next ≡ t.catalog.next → IsAhead t → IsAhead u
ahead_same t u c n (inl is) = inl (n ∙ is)
ahead_same t u c n (inr above) = inr (omega (arith, n, ap (λ k. k.opstamp) c, above))

pub ahead : (t u : State) → Moves t u → IsAhead t → IsAhead u
ahead t u (Stays e c n) h = ahead_same t u c n h
ahead t u (Draws e c last n) (inl is) = absurd (last is)
ahead t u (Draws e c last n) (inr above) = inr (omega (arith, n, ap (λ k. k.opstamp) c, above))
ahead t u (Commits e last c n) h = inr (omega (arith, c, n))
ahead t u (Reads move c n) h = ahead_same t u c n h

later_shown : (who : Readers) (opstamp more : ℕ) → opstamp ≤ more → InOrder who opstamp → InOrder who more
later_shown who opstamp more le h = record {
  numbers = h.numbers;
  each = all_weaker (λ e. IsReaderInOrder opstamp e.1) (λ e. IsReaderInOrder more e.1) who.readers
      (λ e k. record { shown = omega (arith, k.shown, le); counted = k.counted; noted = noted_weaker _ _ e.1.reload (λ commit between. (between.0, omega (arith, between.1, le))) k.noted }) h.each;
}

who_in_order : (t u : State) → Moves t u → InOrder t.catalog.reading t.catalog.commit.opstamp → InOrder u.catalog.reading t.catalog.commit.opstamp
who_in_order t u (Stays e c n) h = subst (λ who. InOrder who t.catalog.commit.opstamp) (sym e) h
who_in_order t u (Draws e c last n) h = subst (λ who. InOrder who t.catalog.commit.opstamp) (sym e) h
who_in_order t u (Commits move last c n) h = readers_in_order t u.catalog.reading move h
who_in_order t u (Reads move c n) h = readers_in_order t u.catalog.reading move h

orderly : (t u : State) → Moves t u → Orderly t → Orderly u
orderly t u move h = record {
  who = later_shown u.catalog.reading t.catalog.commit.opstamp u.catalog.commit.opstamp (rises t u move h.ahead) (who_in_order t u move h.who);
  ahead = ahead t u move h.ahead;
}

first_in_order : (opstamp : ℕ) → InOrder no_readers opstamp
first_in_order opstamp = record { numbers = record { searchers = tt; readers = tt; searchers_given = tt; readers_given = tt }; each = tt }

-- the number after a commit's is above it, unless it is the last one
next_ahead : (opstamp next : ℕ) → next ≡ next_after opstamp → (next ≡ last_stamp) ⊎ (opstamp < next)
next_ahead opstamp next e = grind (arith, nat_tests)

pub first_orderly : (s : State) → s.catalog.reading ≡ no_readers → s.catalog.next ≡ next_after s.catalog.commit.opstamp → Orderly s
first_orderly s e n = record { who = subst (λ who. InOrder who s.catalog.commit.opstamp) (sym e) (first_in_order s.catalog.commit.opstamp); ahead = next_ahead s.catalog.commit.opstamp s.catalog.next n }

-- states of a run stay orderly
pub orderly_after : (t : State) (turns : List Turn) → Orderly t → Orderly (after t turns)
orderly_after t turns h = after_kept Orderly (step_keeps Orderly orderly (λ u k. first_orderly (reopened u) refl refl)) t turns h
