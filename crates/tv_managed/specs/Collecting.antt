-- What a collection does to a directory and its list.
use Rattle.std.specs.Prelude.{ℕ, ◌≡◌, ◌≢◌, ◌<◌, ◌≤◌, ◌+◌, ◌^◌, ◌⊎◌, Bool, true, false, List, [], ◌∷◌, ◌++◌, String, Some, None, IsSome, codes, length, map, string_bytes, Result, IfErr, IfOk, OnOk, OnErr}
use Rattle.std.specs.Borrow.{Bor}
use Rattle.std.specs.Option.{IsSomeAnd}
use Rattle.std.specs.Result.{IsErr}
use Rattle.std.specs.BTreeMap.{insert_entry}
use Rattle.std.specs.Ordering.{nat_cmp}
use Rattle.tv_formats.specs.Names.{has, is_plain, list_name}
use Rattle.tv_formats.specs.Listing.{IsListFile, Listing}
use Rattle.tv_formats.specs.Collections.{Collection, Collections, collectable, collection_at, done_of, failed_of, having_tried, held, taken, with_begun, with_collection, without, without_collection}
use Rattle.tv_formats.specs.Files.{Reads, Same, KeepsOthers, Rose}
use Rattle.tv_base.specs.Causes.{IsDevice}
use Rattle.tv_base.specs.declared.error.TantivyError.{TantivyError}
use Rattle.tv_base.specs.declared.error.TantivyError.TheVariants as errors
use Rattle.tv_base.specs.declared.io.IoError.{IoError}
use Rattle.tv_device.specs.Calls.{IoFaults}
use Rattle.tv_device.specs.Locks.{LockCause}
use Rattle.tv_device.specs.View.{View, WriterState, Kept, MayDelete, OnlyReads}
use Rattle.tv_device.specs.declared.directory.Directory.{Ghosts}
use Rattle.tv_managed.specs.Frames.{KeepsNames}
use Rattle.tv_managed.specs.Managed.{SavesList}
use Rattle.tv_managed.specs.Names.{ManagedNames}
use Rattle.tv_managed.specs.declared.collection.CollectStep.{CollectStep}
use Rattle.tv_managed.specs.declared.collection.CollectStep.TheVariants as steps
use Rattle.tv_managed.specs.declared.collection.GarbageCollectionResult.{GarbageCollectionResult}

-- texts, as names
abbrev pub names_of : {X : Type 0} → List (String X) → List (List ℕ)
names_of texts = map string_bytes texts

-- lent texts, as names
abbrev pub texts_of : List (Bor (List ℕ)) → List (List ℕ)
texts_of texts = map (λ text. text.now) texts

-- no more names failed than the count of refused deletes rose, or the count stands at the end of its 64 bits
abbrev pub FailsAtMost : (failed before now : ℕ) → Type 0
FailsAtMost failed before now = (failed + before ≤ now) ⊎ (now ≡ 18446744073709551615)

-- each writer that lives, of a name that isn't one of these, lives on
abbrev pub SparesWriters : {W : Type 0} → (names : List (List ℕ)) → (state_of : W → WriterState)
    → (before after : W → Bool) → Type 0
SparesWriters {W} names state_of before after =
    (w : W) → has names (state_of w).name ≡ false → before w ≡ true → after w ≡ true

-- no writer that was open lives of a file that was there and was deleted
abbrev pub EndsTheirWriters : {W : Type 0} → (deleted : List (List ℕ)) → (state_of : W → WriterState)
    → (old new : View W) → Type 0
EndsTheirWriters {W} deleted state_of old new =
    (w : W) → old.opened w ≡ true → has deleted (state_of w).name ≡ true
    → IsSome (old.reads (state_of w).name) → new.lives w ≡ false

-- all that is kept in memory, and a collection that was begun under the next number and stands so
abbrev pub standing : ManagedNames → Collection → ManagedNames
standing names c = record names {
  collections = record {
    unfinished = insert_entry nat_cmp names.collections.unfinished names.collections.next c;
    next = names.collections.next + 1;
  };
}

-- a collection of these names isn't finished: the first ones were tried, with these outcomes
abbrev pub LeftUnfinished : (front rest : List (List ℕ)) → (outcomes : List Bool)
    → (old new : ManagedNames) → Type 0
LeftUnfinished front rest outcomes old new =
    new ≡ standing old (record {
      untried = rest;
      done = done_of front outcomes;
      failed = failed_of front outcomes;
    })

-- What trying these names left, whatever was answered: some first ones were tried, and some of these are
-- done, which don't read. All else is as it was, but that at Ok the managed names are without those that are
-- done. After an error they are as they were, and the collection isn't finished, unless none was begun: then
-- no name was tried.
pub record Leaves {A E D W C : Type 0} (g : Ghosts D W C) (names : List (List ℕ)) (old new : D × ManagedNames)
    (result : Result A E) : Type 0 where
  pub front : List (List ℕ)
  pub rest : List (List ℕ)
  pub outcomes : List Bool
  pub split : names ≡ front ++ rest
  pub each : length outcomes ≡ length front
  pub ok : OnOk result (new.1 ≡ record old.1 { managed = without (done_of front outcomes) old.1.managed })
  pub err : OnErr result (((new.1 ≡ old.1) × (front ≡ [])) ⊎ LeftUnfinished front rest outcomes old.1 new.1)
  -- a name that is done doesn't read
  pub gone : g.told.content → (n : List ℕ) → has (done_of front outcomes) n ≡ true
      → (g.view new.0).reads n ≡ None
  -- every other name but that of the list reads what it read
  pub others : g.told.content → (n : List ℕ) → has (done_of front outcomes) n ≡ false → (IsListFile n → ⊥)
      → (g.view new.0).reads n ≡ (g.view old.0).reads n
  -- a name that isn't among them reads what it read
  pub spared : g.told.content → (n : List ℕ) → has names n ≡ false → (IsListFile n → ⊥)
      → (g.view new.0).reads n ≡ (g.view old.0).reads n
  -- a writer of a name that isn't done lives on
  pub alive : g.told.content
      → SparesWriters (done_of front outcomes) g.state_of (g.view old.0).lives (g.view new.0).lives
  -- and no writer that was open lives of a file that was deleted
  pub ended : g.told.content
      → EndsTheirWriters (done_of front outcomes) g.state_of (g.view old.0) (g.view new.0)
  -- no more names failed than deletes were refused; and where none failed, none was
  pub counted :
      FailsAtMost (length (failed_of front outcomes)) (g.view old.0).refusals (g.view new.0).refusals
  pub calm : failed_of front outcomes ≡ [] → (g.view new.0).refusals ≡ (g.view old.0).refusals
  -- the count of refused deletes is one of 64 bits
  pub fits : (g.view old.0).refusals ≤ 18446744073709551615 → (g.view new.0).refusals ≤ 18446744073709551615

-- no name that is told as failed is told as deleted too
abbrev pub TellsApart : GarbageCollectionResult → Type 0
TellsApart result =
    (n : List ℕ) → has (names_of result.failed_to_delete_files.items) n ≡ true
    → has (names_of result.deleted_files.items) n ≡ false

-- What trying these names gave where all were tried: each is told as done or as failed, in their order.
pub record Tries {D W C : Type 0} (g : Ghosts D W C) (names : List (List ℕ)) (old new : D × ManagedNames)
    (result : GarbageCollectionResult) : Type 0 where
  pub outcomes : List Bool
  pub each : length outcomes ≡ length names
  pub deleted : names_of result.deleted_files.items ≡ done_of names outcomes
  pub failed : names_of result.failed_to_delete_files.items ≡ failed_of names outcomes
  -- the managed names are those that were, without the deleted ones, and the collections are as they were
  pub managed : new.1 ≡ record old.1 { managed = without (names_of result.deleted_files.items) old.1.managed }
  -- a deleted name doesn't read
  pub gone : g.told.content → (n : List ℕ) → has (names_of result.deleted_files.items) n ≡ true
      → (g.view new.0).reads n ≡ None
  -- every other name but that of the list reads what it read
  pub others : g.told.content → (n : List ℕ) → has (names_of result.deleted_files.items) n ≡ false
      → (IsListFile n → ⊥) → (g.view new.0).reads n ≡ (g.view old.0).reads n
  -- its writers live on, and no writer that was open of a file that was deleted does
  pub alive : g.told.content → SparesWriters (names_of result.deleted_files.items) g.state_of
      (g.view old.0).lives (g.view new.0).lives
  pub ended : g.told.content
      → EndsTheirWriters (names_of result.deleted_files.items) g.state_of (g.view old.0) (g.view new.0)
  -- no more names failed than deletes were refused; and where none failed, none was
  pub counted : FailsAtMost (length (names_of result.failed_to_delete_files.items))
      (g.view old.0).refusals (g.view new.0).refusals
  pub calm : names_of result.failed_to_delete_files.items ≡ []
      → (g.view new.0).refusals ≡ (g.view old.0).refusals
  -- no name is told as both
  pub apart : TellsApart result

-- What trying a name gave: it doesn't read any more, or all is as it was, and the device refused its delete.
pub record TriesName {D W C : Type 0} (g : Ghosts D W C) (name : List ℕ) (old new : D × ManagedNames)
    (is_gone : Bool) : Type 0 where
  pub gone : g.told.content → is_gone ≡ true → (g.view new.0).reads name ≡ None
  pub others : g.told.content → KeepsOthers (g.view old.0).reads (g.view new.0).reads name
  pub same : g.told.content → is_gone ≡ false → Same (g.view old.0).reads (g.view new.0).reads
  pub done : is_gone ≡ true → (g.view new.0).refusals ≡ (g.view old.0).refusals
  pub failed : is_gone ≡ false → Rose (g.view old.0).refusals (g.view new.0).refusals
  pub alive : g.told.content → (w : W) → (g.state_of w).name ≢ name → (g.view old.0).lives w ≡ true
      → (g.view new.0).lives w ≡ true
  pub kept : g.told.content → is_gone ≡ false → (w : W) → (g.view old.0).lives w ≡ true
      → (g.view new.0).lives w ≡ true
  pub ended : g.told.content → is_gone ≡ true → IsSome ((g.view old.0).reads name) → (w : W)
      → (g.state_of w).name ≡ name → (g.view new.0).lives w ≡ false
  pub fits : (g.view new.0).refusals ≤ 18446744073709551615

-- What trying managed names leaves alone: the list reads what it read, the device refused no call other than
-- a delete, and all else is as a delete leaves it.
pub record OnlyDeletes {D W C : Type 0} (g : Ghosts D W C) (old new : D × ManagedNames) : Type 0 where
  pub list : g.told.content → (g.view new.0).reads list_name ≡ (g.view old.0).reads list_name
  pub faults : (g.view new.0).faults ≡ (g.view old.0).faults
  pub frame : MayDelete g.told (g.view old.0) (g.view new.0)

-- the names that a collection takes: the managed ones that aren't living, and that no unfinished collection
-- holds
abbrev pub taken_by : (living : List (List ℕ)) → ManagedNames → List (List ℕ)
taken_by living names = collectable (living ++ held names.collections) names.managed

-- a collection of these names begins, under the next number
abbrev pub beginning : ManagedNames → List (List ℕ) → ManagedNames
beginning names taken = record names { collections = with_begun names.collections taken }

-- a collection of these names was begun, and this is its number, which no unfinished one has
pub record Begins (taken : List (List ℕ)) (old new : ManagedNames) (number : ℕ) : Type 0 where
  pub numbered : number ≡ old.collections.next
  pub free : collection_at old.collections number ≡ None
  pub names : new ≡ beginning old taken

-- whether a step says that its name is done, and the name
abbrev pub is_done : CollectStep → Bool
is_done (steps.Done name) = true
is_done (steps.Failed name) = false

-- the name that a step tried
abbrev pub tried_name : CollectStep → List ℕ
tried_name (steps.Done name) = string_bytes name
tried_name (steps.Failed name) = string_bytes name

-- a collection has names that are yet to be tried
abbrev pub HasLeft : Collections → ℕ → Type 0
HasLeft collections number = IsSomeAnd (collection_at collections number) (λ c. 0 < length c.untried)

-- the name that the collection of this number tries next, the first one that it has left, and those
-- that are left behind it
pub record NextName (collections : Collections) (number : ℕ) : Type 0 where
  pub collection : Collection
  pub name : List ℕ
  pub left : List (List ℕ)
  pub there : collection_at collections number ≡ Some collection
  pub first : collection.untried ≡ name ∷ left

-- A collection tried this name, its next one, and noted the outcome: the name is done, or failed and
-- is as it was.
pub record NotesFirst {D W C : Type 0} (g : Ghosts D W C) {number : ℕ} (old new : D × ManagedNames)
    (next : NextName old.1.collections number) (is_gone : Bool) : Type 0 where
  pub plain : is_plain next.name ≡ true
  pub names : new.1 ≡ record old.1 {
    collections = with_collection old.1.collections number
        (having_tried next.collection next.name next.left is_gone);
  }
  pub tried : TriesName g next.name old new is_gone

-- A collection tried this name, its next one: the step tells it, and its outcome.
pub record TriesFirst {D W C : Type 0} (g : Ghosts D W C) {number : ℕ} (old new : D × ManagedNames)
    (next : NextName old.1.collections number) (step : CollectStep) : Type 0 where
  pub told : tried_name step ≡ next.name
  pub noted : NotesFirst g old new next (is_done step)

-- nothing changed: the names and collections are as they were, and the directory was only read from
pub record ChangesNothing {D W C : Type 0} (g : Ghosts D W C) (old new : D × ManagedNames) : Type 0 where
  pub frame : KeepsNames (OnlyReads g.told) g.view old new
  pub faults : (g.view new.0).faults ≡ (g.view old.0).faults

-- A step of a collection tries its next name. It fails where memory was wanted alone, and then
-- nothing changed.
pub record Steps {D W C : Type 0} (g : Ghosts D W C) (number : ℕ) (old new : D × ManagedNames)
    (result : Result CollectStep TantivyError) : Type 0 where
  pub ok : (next : NextName old.1.collections number) → IfOk result (TriesFirst g old new next)
  pub memory : IfErr result (λ e. e ≡ errors.Memory)
  pub err : OnErr result (ChangesNothing g old new)

-- all names and collections after the end of a collection
abbrev pub ending : ManagedNames → ℕ → Collection → ManagedNames
ending names number c = record {
  managed = without c.done names.managed;
  collections = without_collection names.collections number;
}

-- A collection ended. The result has what was done and what failed, in the order in which it was tried; what
-- is done is managed no more.
pub record Ended (number : ℕ) (c : Collection) (old new : ManagedNames)
    (result : GarbageCollectionResult) : Type 0 where
  pub deleted : names_of result.deleted_files.items ≡ c.done
  pub failed : names_of result.failed_to_delete_files.items ≡ c.failed
  pub names : new ≡ ending old number c
  -- no name is told as both
  pub apart : TellsApart result

-- where nothing was deleted, each name reads what it read, the list's too
abbrev pub SavesNone : {D W C E : Type 0} → Ghosts D W C → (old new : D × ManagedNames)
    → Result GarbageCollectionResult E → Type 0
SavesNone g old new result =
    g.told.content
    → IfOk result (λ r. r.deleted_files.items ≡ [] → Same (g.view old.0).reads (g.view new.0).reads)

-- A collection ends. After an error it isn't finished, and all names are as they were. The list goes on
-- having the managed names; where nothing is done each name reads what it read, the list's too.
pub record EndsCollection {E D W C : Type 0} (g : Ghosts D W C) (number : ℕ) (old new : D × ManagedNames)
    (result : Result GarbageCollectionResult E) : Type 0 where
  pub ok : (c : Collection) → collection_at old.1.collections number ≡ Some c
      → IfOk result (Ended number c old.1 new.1)
  pub err : OnErr result (new.1 ≡ old.1)
  pub saves : SavesList g old new result
  pub saves_none : SavesNone g old new result
  pub others : g.told.content → KeepsOthers (g.view old.0).reads (g.view new.0).reads list_name

-- the lock that is held while the living names are asked for
abbrev pub meta_lock_name : List ℕ
meta_lock_name = codes ".tantivy-meta.lock"

-- names that are tried: those that a collection takes where a set was answered as living, or none, where it
-- failed and none was begun
abbrev pub Among : {S A E : Type 0} → (answered : S → Type 0) → (living : S → List (List ℕ))
    → (old new : ManagedNames) → (names : List (List ℕ)) → Result A E → Type 0
Among {S} answered living old new names result =
    (IsErr result × (names ≡ []) × (new ≡ old))
    ⊎ ((set : S) × answered set × (names ≡ taken_by (living set) old))

-- Why a collection was given up: `busy` where the lock isn't given, `spent` where it has no number, `refused`
-- where the device refused a call other than a delete, `quiet` where memory was wanted.
abbrev pub CollectCause : (busy spent refused quiet : Type 0) → TantivyError → Type 0
CollectCause busy spent refused quiet (errors.IoError fault) = IsDevice fault × refused
CollectCause busy spent refused quiet (errors.LockFailure why text) =
    LockCause busy refused ⊥ why × (text ≡ None)
CollectCause busy spent refused quiet errors.Exhausted = spent
CollectCause busy spent refused quiet errors.Memory = quiet
CollectCause busy spent refused quiet _ = ⊥

-- whether the error says that no collection was begun: the lock wasn't given, or there is no number
abbrev pub is_unbegun : TantivyError → Bool
is_unbegun (errors.LockFailure why text) = true
is_unbegun errors.Exhausted = true
is_unbegun _ = false

-- whether the error comes behind the lock: there is no number, or the device refused a call on files
abbrev pub is_behind_lock : TantivyError → Bool
is_behind_lock (errors.IoError fault) = true
is_behind_lock errors.Exhausted = true
is_behind_lock _ = false

-- a number after which there is none
abbrev pub IsLast : ℕ → Type 0
IsLast number = 2 ^ 64 ≤ number + 1

-- A collection fails where the meta lock is held, where its number would be the last, where the device
-- refused a call other than a delete, or where memory was wanted. Where the lock isn't given, or the number
-- would be the last, nothing changed; at Ok the lock was free, and the number wasn't the last.
pub record CollectFaults {A D W C : Type 0} (g : Ghosts D W C) (old new : D × ManagedNames)
    (result : Result A TantivyError) : Type 0 where
  pub quiet : OnOk result ((g.view new.0).faults ≡ (g.view old.0).faults)
  pub free : g.told.locks → OnOk result ((g.view old.0).locks meta_lock_name ≡ false)
  pub numbered : OnOk result (IsLast old.1.collections.next → ⊥)
  pub busy : g.told.locks → IfErr result (CollectCause ((g.view old.0).locks meta_lock_name ≡ true)
      (Unit {0}) (Unit {0}) (Unit {0}))
  -- the lock is asked for first
  pub given : g.told.locks
      → IfErr result (λ e. is_behind_lock e ≡ true → (g.view old.0).locks meta_lock_name ≡ false)
  pub cause : IfErr result (CollectCause
      ((g.told.locks × ((g.view new.0).faults ≡ (g.view old.0).faults))
      ⊎ Rose (g.view old.0).faults (g.view new.0).faults)
      (IsLast old.1.collections.next × ((g.view new.0).faults ≡ (g.view old.0).faults))
      (Rose (g.view old.0).faults (g.view new.0).faults)
      ((g.view new.0).faults ≡ (g.view old.0).faults))
  pub unchanged : IfErr result (λ e. is_unbegun e ≡ true → KeepsNames (OnlyReads g.told) g.view old new)

-- the error isn't that of a lock
abbrev pub TakesNoLock : TantivyError → Type 0
TakesNoLock (errors.LockFailure why text) = ⊥
TakesNoLock other = Unit {0}

-- The end of a collection, which takes no lock, fails where the device refused a call other than a delete, or
-- where memory was wanted.
pub record EndFaults {A D W C : Type 0} (g : Ghosts D W C) (old new : D × ManagedNames)
    (result : Result A TantivyError) : Type 0 where
  pub quiet : OnOk result ((g.view new.0).faults ≡ (g.view old.0).faults)
  pub unlocked : IfErr result TakesNoLock
  pub cause : IfErr result (CollectCause ⊥ ⊥ (Rose (g.view old.0).faults (g.view new.0).faults)
      ((g.view new.0).faults ≡ (g.view old.0).faults))

-- What follows is cited by laws alone.

-- the collection of this number isn't finished, and took none of these names
abbrev pub TookNoneOf : (spared : List (List ℕ)) → ManagedNames → ℕ → Type 0
TookNoneOf spared names number =
    (c : Collection) × (collection_at names.collections number ≡ Some c)
    × ((n : List ℕ) → has spared n ≡ true → has (taken c) n ≡ false)

-- each of these names but the list's reads what it read
abbrev pub Spares : (spared : List (List ℕ)) → Reads → Reads → Type 0
Spares spared old new =
    (n : List ℕ) → has spared n ≡ true → (IsListFile n → ⊥) → new n ≡ old n

-- each managed name that is told as failed is still managed
abbrev pub KeepsFailed : (old new : ManagedNames) → GarbageCollectionResult → Type 0
KeepsFailed old new result =
    (n : List ℕ) → has old.managed n ≡ true
    → has (names_of result.failed_to_delete_files.items) n ≡ true → has new.managed n ≡ true

-- What follows is cited by private functions alone.

-- A step that is made under the meta lock fails where the lock is held, where the device refused a call, or
-- where memory was wanted.
pub record LockedFaults {A D W C : Type 0} (g : Ghosts D W C) (old new : D × ManagedNames)
    (result : Result A TantivyError) : Type 0 where
  pub quiet : OnOk result ((g.view new.0).faults ≡ (g.view old.0).faults)
  pub free : g.told.locks → OnOk result ((g.view old.0).locks meta_lock_name ≡ false)
  pub busy : g.told.locks
      → IfErr result (CollectCause ((g.view old.0).locks meta_lock_name ≡ true) ⊥ (Unit {0}) (Unit {0}))
  pub given : IfErr result (λ e. is_behind_lock e ≡ false)
  pub cause : IfErr result (CollectCause ((g.told.locks × ((g.view new.0).faults ≡ (g.view old.0).faults))
      ⊎ Rose (g.view old.0).faults (g.view new.0).faults) ⊥ (Rose (g.view old.0).faults (g.view new.0).faults)
      ((g.view new.0).faults ≡ (g.view old.0).faults))

-- A step that begins a collection, which takes no lock, fails where its number would be the last, and then
-- nothing changed, where the device refused a call, or where memory was wanted.
pub record BeginFaults {A D W C : Type 0} (g : Ghosts D W C) (old new : D × ManagedNames)
    (result : Result A TantivyError) : Type 0 where
  pub quiet : OnOk result ((g.view new.0).faults ≡ (g.view old.0).faults)
  pub numbered : OnOk result (IsLast old.1.collections.next → ⊥)
  pub cause : IfErr result (CollectCause ⊥ (IsLast old.1.collections.next × (new ≡ old))
      (Rose (g.view old.0).faults (g.view new.0).faults) ((g.view new.0).faults ≡ (g.view old.0).faults))

-- a collection began of the names that a set leaves which was answered as living
abbrev pub BeginsBeside : {S : Type 0} → (answered : S → Type 0) → (living : S → List (List ℕ))
    → (old new : ManagedNames) → (number : ℕ) → Type 0
BeginsBeside {S} answered living old new number =
    (set : S) × answered set × Begins (taken_by (living set) old) old new number

-- What trying these names gave, one after another: the deleted ones don't read; those that failed, and all
-- else but the list, are as they were.
pub record Tried {D W C : Type 0} (g : Ghosts D W C) (names : List (List ℕ)) (old new : D × ManagedNames)
    (deleted failed : List (List ℕ)) : Type 0 where
  pub outcomes : List Bool
  pub each : length outcomes ≡ length names
  pub deleted_is : deleted ≡ done_of names outcomes
  pub failed_is : failed ≡ failed_of names outcomes
  pub hasnt_list : has deleted list_name ≡ false
  pub gone : g.told.content → (n : List ℕ) → has deleted n ≡ true → (g.view new.0).reads n ≡ None
  pub others : g.told.content → (n : List ℕ) → has deleted n ≡ false → (IsListFile n → ⊥)
      → (g.view new.0).reads n ≡ (g.view old.0).reads n
  pub alive : g.told.content → SparesWriters deleted g.state_of (g.view old.0).lives (g.view new.0).lives
  pub ended : g.told.content → EndsTheirWriters deleted g.state_of (g.view old.0) (g.view new.0)
  pub counted : FailsAtMost (length failed) (g.view old.0).refusals (g.view new.0).refusals
  pub calm : failed ≡ [] → (g.view new.0).refusals ≡ (g.view old.0).refusals
  pub fits : (g.view old.0).refusals ≤ 18446744073709551615 → (g.view new.0).refusals ≤ 18446744073709551615
  pub frame : MayDelete g.told (g.view old.0) (g.view new.0)

-- Some first ones of the names of a collection were tried, since it was begun beside these names: what is
-- left of it is the rest.
pub record TriesSome {D W C : Type 0} (g : Ghosts D W C) (before : ManagedNames) (taken : List (List ℕ))
    (old new : D × ManagedNames) : Type 0 where
  pub front : List (List ℕ)
  pub rest : List (List ℕ)
  pub deleted : List (List ℕ)
  pub failed : List (List ℕ)
  pub split : taken ≡ front ++ rest
  pub tried : Tried g front old new deleted failed
  pub names : new.1 ≡ standing before (record { untried = rest; done = deleted; failed = failed })

-- a collection tried its next name, and noted the outcome
abbrev pub NotesNext : {D W C : Type 0} → Ghosts D W C → (number : ℕ) → (old new : D × ManagedNames)
    → (is_gone : Bool) → Type 0
NotesNext g number old new is_gone =
    (next : NextName old.1.collections number) → NotesFirst g old new next is_gone

-- at Ok the collection has nothing left
abbrev pub TriesAll : {A E : Type 0} → ℕ → ManagedNames → Result A E → Type 0
TriesAll number names result =
    OnOk result ((c : Collection) → collection_at names.collections number ≡ Some c → c.untried ≡ [])

-- The managed names become those that are left, and are listed where they were. After an error they are as
-- they were, and the list may have either.
pub record Shortens {A D W C : Type 0} (g : Ghosts D W C) (left : List (List ℕ)) (old new : D × ManagedNames)
    (result : Result A IoError) : Type 0 where
  pub ok : OnOk result (new.1 ≡ record old.1 { managed = left })
  pub err : OnErr result (new.1 ≡ old.1)
  pub lists : g.told.content → Listing (g.view old.0).reads old.1.managed
      → OnOk result (Listing (g.view new.0).reads left)
  pub either : g.told.content
      → Listing (g.view new.0).reads left ⊎ ((g.view new.0).reads list_name ≡ (g.view old.0).reads list_name)
  pub others : g.told.content → KeepsOthers (g.view old.0).reads (g.view new.0).reads list_name
  pub faults : IoFaults (g.view old.0) (g.view new.0) result
  pub frame : Kept g.told (g.view old.0) (g.view new.0)
