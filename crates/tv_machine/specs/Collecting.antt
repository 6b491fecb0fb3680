-- What a collection takes, what it tells, and what stays.
use Rattle.std.specs.Prelude.{ℕ, ◌≡◌, ◌≢◌, ◌+◌, ◌≤◌, ◌<◌, ◌==◌, Bool, true, false, not, ◌&&◌, ◌||◌, List, [], ◌∷◌, ◌++◌, length, codes, None, Some, IsSome, is_some, if◌then◌else◌}
use Rattle.std.specs.Fmt.{decimal}
use Rattle.std.specs.List.{list_all}
use Rattle.tv_events.specs.declared.event.Event.{Event}
use Rattle.tv_events.specs.declared.event.Event.TheVariants as events
use Rattle.tv_formats.specs.Names.{is, has}
use Rattle.tv_formats.specs.Collections.{Collection, AreOnce, begun, collection_at, done_of, failed_of, having_tried, held, taken}
use Rattle.tv_machine.specs.Living.{living, is_busy}
use Rattle.tv_machine.specs.State.{State, file_at}
use Rattle.tv_machine.specs.CollectionEvents.{garbage, collected_line, gc_begin_step, gc_end_step, gc_step, gc_step_step, is_done}
use Rattle.tv_events.specs.AnswerLines.{line}
use Rattle.tv_machine.specs.Lines.{refuse}
use Rattle.tv_machine.specs.Machine.{Turn, NeverReopens, step, after, refused_in}

-- these are exactly the managed names that are neither living nor held
abbrev pub Takes : State → List (List ℕ) → Type 0
Takes s names =
    (n : List ℕ)
    → has names n ≡ (has s.managed n && not (has (living s.catalog) n) && not (has (held s.collections) n))

-- A collection at once, with these outcomes.
pub record Collects (s : State) (outcomes : List Bool) : Type 0 where
  -- it takes exactly the managed names that nothing needs and no other collection holds
  pub takes : Takes s (garbage s)
  -- each of them is told, as done or as failed
  pub each : (n : List ℕ)
      → has (garbage s) n ≡ (has (done_of (garbage s) outcomes) n || has (failed_of (garbage s) outcomes) n)
  -- and not as both
  pub apart : (n : List ℕ) → has (done_of (garbage s) outcomes) n ≡ true
      → has (failed_of (garbage s) outcomes) n ≡ false
  -- the line has the names that are done, and those that failed
  pub told :
      (gc_step s outcomes).0 ≡ collected_line (done_of (garbage s) outcomes) (failed_of (garbage s) outcomes)
  -- what was done has no file, and every other file stays
  pub files : (n : List ℕ) → file_at (gc_step s outcomes).1 n
      ≡ (if has (done_of (garbage s) outcomes) n then None else file_at s n)
  -- what was done is managed no more
  pub gone : (n : List ℕ) → has (done_of (garbage s) outcomes) n ≡ true
      → has (gc_step s outcomes).1.managed n ≡ false
  -- what failed stays managed
  pub stay : (n : List ℕ) → has (failed_of (garbage s) outcomes) n ≡ true
      → has (gc_step s outcomes).1.managed n ≡ true
  -- and so does each other name
  pub spared : (n : List ℕ) → has (done_of (garbage s) outcomes) n ≡ false
      → has (gc_step s outcomes).1.managed n ≡ has s.managed n
  -- the catalog and the unfinished collections stay
  pub catalog : (gc_step s outcomes).1.catalog ≡ s.catalog
  pub collections : (gc_step s outcomes).1.collections ≡ s.collections
  -- no more names fail than deletes were refused
  pub counted : length (failed_of (garbage s) outcomes) ≤ refused_in outcomes

-- each collection at once of a run, where the meta lock is free
abbrev pub CollectsIn : State → List Turn → Type 0
CollectsIn s turns = (front rest : List Turn) (outcomes : List Bool)
    → turns ≡ front ++ (events.Gc, outcomes) ∷ rest → is_busy (after s front).catalog ≡ false
    → Collects (after s front) outcomes

-- What the events of the collection of this number leave alone: the catalog, and the other collections.
pub record LeavesOthers (old new : State) (number : ℕ) : Type 0 where
  pub catalog : new.catalog ≡ old.catalog
  pub others : (other : ℕ) → other ≢ number
      → collection_at new.collections other ≡ collection_at old.collections other

-- The beginning of a collection, which has the next number.
pub record Begins (s : State) : Type 0 where
  -- it takes exactly the managed names that nothing needs and no other collection holds
  pub takes : Takes s (garbage s)
  -- they are told, with its number
  pub told : (gc_begin_step s).0 ≡ line (codes "gc") (decimal s.collections.next ∷ garbage s)
  -- it is unfinished from now on, and has tried none of them
  pub starts : collection_at (gc_begin_step s).1.collections s.collections.next ≡ Some (begun (garbage s))
  -- the next one gets the number after it
  pub next : (gc_begin_step s).1.collections.next ≡ s.collections.next + 1
  -- the files and the managed names stay, and so do the catalog and the other collections
  pub files : (gc_begin_step s).1.files ≡ s.files
  pub managed : (gc_begin_step s).1.managed ≡ s.managed
  pub others : LeavesOthers s (gc_begin_step s).1 s.collections.next

-- A step of an unfinished collection that has this name to try, and these after it.
pub record Tries (s : State) (number : ℕ) (c : Collection) (name : List ℕ) (left : List (List ℕ))
    (outcomes : List Bool) : Type 0 where
  -- the name is told, as done or as failed
  pub told : (gc_step_step s number outcomes).0
      ≡ line (codes "gc") (decimal number
      ∷ (if is_done outcomes then codes "done" else codes "failed") ∷ name ∷ [])
  -- and is from now on among those that are done, or among those that failed
  pub moved : collection_at (gc_step_step s number outcomes).1.collections number
      ≡ Some (having_tried c name left (is_done outcomes))
  -- its file is gone where it is done, and no other file is
  pub gone : (n : List ℕ) → file_at (gc_step_step s number outcomes).1 n
      ≡ (if is_done outcomes && is name n then None else file_at s n)
  -- it stays managed up to the end
  pub managed : (gc_step_step s number outcomes).1.managed ≡ s.managed
  -- the catalog and the other collections stay, and so does the number that the next one gets
  pub next : (gc_step_step s number outcomes).1.collections.next ≡ s.collections.next
  pub others : LeavesOthers s (gc_step_step s number outcomes).1 number

-- The end of an unfinished collection.
pub record Ends (s : State) (number : ℕ) (c : Collection) : Type 0 where
  -- it is told
  pub told : (gc_end_step s number).0 ≡ line (codes "gc") (decimal number ∷ codes "end" ∷ [])
  -- each of its names is done, failed or untried, and is one of these only
  pub apart : AreOnce (taken c)
  -- what is done has no file, and is managed no more
  pub done : (n : List ℕ) → has c.done n ≡ true
      → (file_at s n ≡ None) × (has (gc_end_step s number).1.managed n ≡ false)
  -- what failed or wasn't tried stays managed
  pub stay : (n : List ℕ) → has (c.failed ++ c.untried) n ≡ true
      → has (gc_end_step s number).1.managed n ≡ true
  -- and so does each other name
  pub spared : (n : List ℕ) → has c.done n ≡ false → has (gc_end_step s number).1.managed n ≡ has s.managed n
  -- no collection has the number any more
  pub finished : collection_at (gc_end_step s number).1.collections number ≡ None
  -- the files stay, and so do the catalog, the other collections, and the number that the next one gets
  pub files : (gc_end_step s number).1.files ≡ s.files
  pub next : (gc_end_step s number).1.collections.next ≡ s.collections.next
  pub others : LeavesOthers s (gc_end_step s number).1 number

-- the event doesn't end the collection of this number: it neither finishes it nor opens the index again
abbrev pub isnt_ending : (number : ℕ) → Event → Bool
isnt_ending number (events.GcEnd other) = not (other == number)
isnt_ending number events.Reopen = false
isnt_ending number other = true

-- nor does any of these turns
abbrev pub NeverEnds : (number : ℕ) → List Turn → Type 0
NeverEnds number turns = list_all (λ turn. isnt_ending number turn.0) turns ≡ true

-- the event is none of the collection of this number, and doesn't open the index again
abbrev pub isnt_of : (number : ℕ) → Event → Bool
isnt_of number (events.GcStep other) = not (other == number)
isnt_of number (events.GcEnd other) = not (other == number)
isnt_of number events.Reopen = false
isnt_of number other = true

-- Collections in steps.
pub record CollectsInSteps (s : State) : Type 0 where
  -- one that begins where the meta lock is free takes what nothing needs and no other one holds
  pub begins : is_busy s.catalog ≡ false → Begins s
  -- one that is unfinished stays so until it is finished or the index is opened again
  pub stays : (turns : List Turn) (number : ℕ) → NeverEnds number turns
      → IsSome (collection_at s.collections number)
      → IsSome (collection_at (after s turns).collections number)
  -- as long as it is unfinished it has the names that it took, whatever happens in between, a reopening apart
  pub keeps : (turns : List Turn) (number : ℕ) (first later : Collection) → NeverReopens turns
      → collection_at s.collections number ≡ Some first
      → collection_at (after s turns).collections number ≡ Some later
      → (n : List ℕ) → has (taken later) n ≡ has (taken first) n
  -- an event that is none of its own leaves it as it is
  pub alone : (event : Event) (outcomes : List Bool) (number : ℕ) (c : Collection)
      → isnt_of number event ≡ true
      → collection_at s.collections number ≡ Some c
      → collection_at (step s event outcomes).1.collections number ≡ Some c
  -- once it is finished no other one gets its number, until the index is opened again
  pub once : (turns : List Turn) (number : ℕ) → NeverReopens turns → number < s.collections.next
      → collection_at s.collections number ≡ None → collection_at (after s turns).collections number ≡ None
  -- a step tries the first name that is left; where none is, it changes nothing
  pub tries : (number : ℕ) (c : Collection) (name : List ℕ) (left : List (List ℕ)) (outcomes : List Bool)
      → collection_at s.collections number ≡ Some c → c.untried ≡ name ∷ left
      → Tries s number c name left outcomes
  pub spent : (number : ℕ) (c : Collection) (outcomes : List Bool)
      → collection_at s.collections number ≡ Some c → c.untried ≡ []
      → gc_step_step s number outcomes ≡ refuse s (codes "nothing-left" ∷ [])
  -- a name fails only where a delete was refused
  pub counted : (outcomes : List Bool) → is_done outcomes ≡ false → 1 ≤ refused_in outcomes
  -- and an end takes out what is done
  pub ends : (number : ℕ) (c : Collection) → collection_at s.collections number ≡ Some c → Ends s number c

-- each state of a run collects so
abbrev pub CollectsInStepsIn : State → List Turn → Type 0
CollectsInStepsIn s turns = (front rest : List Turn) → turns ≡ front ++ rest → CollectsInSteps (after s front)

-- the steps of a collection of these names, with these outcomes, and its end
abbrev pub in_steps : (number : ℕ) → (names : List (List ℕ)) → List Bool → List Turn
in_steps number [] outcomes = (events.GcEnd number, []) ∷ []
in_steps number (name ∷ names) [] = (events.GcStep number, []) ∷ in_steps number names []
in_steps number (name ∷ names) (outcome ∷ outcomes) =
    (events.GcStep number, outcome ∷ []) ∷ in_steps number names outcomes

-- a collection in steps, from its beginning to its end
abbrev pub whole_collection : State → List Bool → List Turn
whole_collection s outcomes = (events.GcBegin, []) ∷ in_steps s.collections.next (garbage s) outcomes

-- A collection at once does to the files, the managed names and the catalog what one in steps does with the
-- same outcomes.
pub record IsAtOnce (s : State) (outcomes : List Bool) : Type 0 where
  pub files : (n : List ℕ)
      → file_at (gc_step s outcomes).1 n ≡ file_at (after s (whole_collection s outcomes)) n
  pub managed : (gc_step s outcomes).1.managed ≡ (after s (whole_collection s outcomes)).managed
  pub catalog : (gc_step s outcomes).1.catalog ≡ (after s (whole_collection s outcomes)).catalog

-- Where the meta lock is free, a collection at once of which no delete is refused leaves exactly the files
-- that are needed or held; after an opening nothing is held.
abbrev pub CollectsAllElse : State → Type 0
CollectsAllElse s = is_busy s.catalog ≡ false → (outcomes : List Bool) (n : List ℕ) → refused_in outcomes ≡ 0
    → is_some (file_at (gc_step s outcomes).1 n)
    ≡ (is_some (file_at s n) && (has (living s.catalog) n || has (held s.collections) n))
