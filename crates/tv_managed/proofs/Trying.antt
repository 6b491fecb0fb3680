-- How a collection tries its names one after another.
use Rattle.std.proofs.Common.{◌≡◌, ◌<◌, ◌≤◌, ◌+◌, suc, Err, Ok, ℕ, Bool, true, false, cond, List, [], ◌∷◌, ◌++◌, length, Option, None, Some, refl, sym, ap, subst, ◌∙◌, arith, append-nil, append_assoc}
use Rattle.std.specs.Option.{IsSomeAnd}
use Rattle.tv_formats.specs.declared.memory.Memory.{Memory}
use Rattle.tv_formats.proofs.Numbered.{put_found}
use Rattle.tv_formats.specs.Collections.{Collection, begun, collection_at, having_tried, with_collection}
use Rattle.tv_device.specs.View.{Kept}
use Rattle.tv_device.specs.declared.directory.Directory.{Ghosts}
use Rattle.tv_managed.specs.Collecting.{ChangesNothing, HasLeft, NotesFirst, NotesNext, OnlyDeletes, TriesSome, standing}
use Rattle.tv_managed.specs.Crashes.{LeavesSafely, StepsSafely, TriesSafely, TriesStates}
use Rattle.tv_managed.specs.Names.{ManagedNames}
use Rattle.tv_managed.proofs.Synced.{loses_kept, loses_none, loses_on, loses_then, loses_tried}
use Rattle.tv_managed.proofs.Tracking.{track_same}
use Rattle.tv_managed.specs.TrackLaws.{track_then}
use Rattle.tv_managed.proofs.Collections.{put_twice}
use Rattle.tv_managed.proofs.Tried.{tried_name, tried_none, tried_on, tried_quiet, tried_then}

-- how many names a collection has left, where there is one
abbrev pub left_of : Option Collection → ℕ
left_of None = 0
left_of (Some c) = length c.untried

-- a collection that was begun stands as it stands
pub at_standing : (names : ManagedNames) (c : Collection) → collection_at (standing names c).collections names.collections.next ≡ Some c
at_standing names c = put_found names.collections.unfinished names.collections.next c

stands_on : (names : ManagedNames) (c later : Collection) → record (standing names c) { collections = with_collection (standing names c).collections names.collections.next later } ≡ standing names later
stands_on names c later =
    let On : List (ℕ × Collection) → ManagedNames = λ es. record names { collections = record { unfinished = es; next = names.collections.next + 1 } } in
    ap On (put_twice names.collections.unfinished names.collections.next c later)

tried_as : (rest done failed : List (List ℕ)) (name : List ℕ) (left : List (List ℕ)) (gone : Bool)
    → having_tried (record { untried = rest; done = done; failed = failed }) name left gone ≡ record { untried = left; done = done ++ cond gone (name ∷ []) []; failed = failed ++ cond gone [] (name ∷ []) }
tried_as rest done failed name left true = rw (append-nil failed) refl
tried_as rest done failed name left false = rw (append-nil done) refl

with_standing : ℕ → Collection → ManagedNames → ManagedNames
with_standing number c names = record names { collections = with_collection names.collections number c }

-- one more was tried
pub some_more : {D W C : Type 0} (g : Ghosts D W C) (before : ManagedNames) (names : List (List ℕ)) {first old new : D × ManagedNames} (gone : Bool) (name : List ℕ) (left : List (List ℕ)) (t : TriesSafely g before names first old) (next : t.some.rest ≡ name ∷ left)
    (at : collection_at old.1.collections before.collections.next ≡ Some (record { untried = t.some.rest; done = t.some.deleted; failed = t.some.failed }))
    → NotesFirst g old new (record { collection = record { untried = t.some.rest; done = t.some.deleted; failed = t.some.failed }; name = name; left = left; there = at; first = next }) gone → OnlyDeletes g old new
    → (g.tells_images → LeavesSafely g (TriesStates {E = Memory} (λ it. it) (g.disk old.0) (g.disk new.0) name (Ok gone)) old new) → TriesSafely g before names first new
unfolding with_standing
some_more g before names {first} {old} {new} gone name left so_far next at t only safe =
    let s = so_far.some in
    let c : Collection = record { untried = s.rest; done = s.deleted; failed = s.failed } in
    let put = tried_as s.rest s.deleted s.failed name left gone in
    record {
      some = record {
        front = s.front ++ name ∷ [];
        rest = left;
        deleted = s.deleted ++ cond gone (name ∷ []) [];
        failed = s.failed ++ cond gone [] (name ∷ []);
        split = s.split ∙ ap (λ r. s.front ++ r) next ∙ sym (append_assoc s.front (name ∷ []) left);
        tried = tried_then g s.front (name ∷ []) first old new s.deleted s.failed _ _ s.tried (tried_name g gone name old new t.plain t.tried only.frame);
        names = t.names
            ∙ ap (with_standing before.collections.next (having_tried c name left gone)) s.names
            ∙ stands_on before c (having_tried c name left gone) ∙ ap (standing before) put;
      };
      safe = λ tells.
          let one = safe tells in
          let was_safe = so_far.safe tells in
          record {
            tracks = λ was. let before = was_safe.tracks was in track_then g before (one.tracks before.tracked);
            listed = λ was. one.listed (was_safe.listed was);
            states = loses_on s.deleted _ was_safe.states (loses_tried gone s.deleted one.states);
          };
    }

left_tried : (d : Collection) (name : List ℕ) (left : List (List ℕ)) (gone : Bool) → left_of (Some (having_tried d name left gone)) ≡ length left
left_tried d name left true = refl
left_tried d name left false = refl

-- the collection that stands has the names that are left
left_at : {D W C : Type 0} (g : Ghosts D W C) (before : ManagedNames) (names : List (List ℕ)) (number : ℕ) {first old : D × ManagedNames} → number ≡ before.collections.next → (s : TriesSome g before names first old)
    → collection_at old.1.collections number ≡ Some (record { untried = s.rest; done = s.deleted; failed = s.failed })
left_at g before names number {first} {old} same s =
    ap (λ n. collection_at old.1.collections n) same ∙ ap (λ v. collection_at v.collections before.collections.next) s.names ∙ at_standing before (record { untried = s.rest; done = s.deleted; failed = s.failed })

pub some_next : {D W C : Type 0} (g : Ghosts D W C) (before : ManagedNames) (names : List (List ℕ)) (number : ℕ) {first old new : D × ManagedNames} (gone : Bool) → number ≡ before.collections.next → HasLeft old.1.collections number → NotesNext g number old new gone → OnlyDeletes g old new
    → (g.tells_images → StepsSafely {E = Memory} (λ it. it) g number old new (Ok gone)) → TriesSafely g before names first old → TriesSafely g before names first new
some_next g before names number {first} {old} {new} gone same has tries only safe so_far = by so_far.some.rest refl where
  c : Collection
  c = record { untried = so_far.some.rest; done = so_far.some.deleted; failed = so_far.some.failed }

  at : collection_at old.1.collections number ≡ Some c
  at = left_at g before names number same so_far.some

  some : IsSomeAnd (collection_at old.1.collections number) (λ d. 0 < length d.untried) → 0 < length so_far.some.rest
  some h = subst (λ o. IsSomeAnd o (λ d. 0 < length d.untried)) at h

  by : (r : List (List ℕ)) → so_far.some.rest ≡ r → TriesSafely g before names first new
  by [] none = absurd (omega (arith, some has, ap length none))
  by (name ∷ left) next =
      let now = left_at g before names before.collections.next refl so_far.some in
      some_more g before names gone name left so_far next now
      (subst (λ n. NotesNext g n old new gone) same tries (record { collection = c; name = name; left = left; there = now; first = next })) only
      (λ tells. safe tells (record { collection = c; name = name; left = left; there = at; first = next }))

-- none could be tried, and nothing changed
pub some_wanted : {D W C : Type 0} (g : Ghosts D W C) (before : ManagedNames) (names : List (List ℕ)) (number : ℕ) {first old new : D × ManagedNames} (e : Memory) → number ≡ before.collections.next → HasLeft old.1.collections number → ChangesNothing g old new
    → (g.tells_images → StepsSafely {A = Bool} (λ it. it) g number old new (Err e)) → TriesSafely g before names first old → TriesSafely g before names first new
some_wanted g before names number {first} {old} {new} e same has none safe so_far = by so_far.some.rest refl where
  c : Collection
  c = record { untried = so_far.some.rest; done = so_far.some.deleted; failed = so_far.some.failed }

  at : collection_at old.1.collections number ≡ Some c
  at = left_at g before names number same so_far.some

  some : IsSomeAnd (collection_at old.1.collections number) (λ d. 0 < length d.untried) → 0 < length so_far.some.rest
  some h = subst (λ o. IsSomeAnd o (λ d. 0 < length d.untried)) at h

  by : (r : List (List ℕ)) → so_far.some.rest ≡ r → TriesSafely g before names first new
  by [] empty = absurd (omega (arith, some has, ap length empty))
  by (name ∷ left) next = record {
    some = record {
      front = so_far.some.front;
      rest = so_far.some.rest;
      deleted = so_far.some.deleted;
      failed = so_far.some.failed;
      split = so_far.some.split;
      tried = tried_on g so_far.some.tried (tried_quiet g old new none.frame);
      names = none.frame.names ∙ so_far.some.names;
    };
    safe = λ tells.
        let one = safe tells (record { collection = c; name = name; left = left; there = at; first = next }) in
        let was_safe = so_far.safe tells in
        record {
          tracks = λ was. let before = was_safe.tracks was in track_then g before (one.tracks before.tracked);
          listed = λ was. one.listed (was_safe.listed was);
          states = loses_then was_safe.states (loses_kept so_far.some.deleted one.states.err);
        };
  }

-- and fewer are left
pub fewer_left : {D W C : Type 0} (g : Ghosts D W C) (number : ℕ) (old new : D × ManagedNames) (gone : Bool) → HasLeft old.1.collections number → NotesNext g number old new gone → suc (left_of (collection_at new.1.collections number)) ≤ left_of (collection_at old.1.collections number)
fewer_left g number old new gone has tries = by (collection_at old.1.collections number) refl has where
  tried : (d : Collection) (rest : List (List ℕ)) → d.untried ≡ rest → collection_at old.1.collections number ≡ Some d → 0 < length d.untried → suc (left_of (collection_at new.1.collections number)) ≤ length d.untried
  tried d [] none at some = absurd (omega (arith, ap length none))
  tried d (name ∷ left) next at some =
      let t = tries (record { collection = d; name = name; left = left; there = at; first = next }) in
      let now : collection_at new.1.collections number ≡ Some (having_tried d name left gone) = ap (λ v. collection_at v.collections number) t.names ∙ put_found old.1.collections.unfinished number _ in
      omega (arith, ap left_of now, left_tried d name left gone, ap length next)

  by : (o : Option Collection) → collection_at old.1.collections number ≡ o → IsSomeAnd o (λ d. 0 < length d.untried) → suc (left_of (collection_at new.1.collections number)) ≤ left_of o
  by None at some = absurd some
  by (Some d) at some = tried d d.untried refl at some

-- no name was tried yet
pub some_none : {D W C : Type 0} (g : Ghosts D W C) (before : ManagedNames) (names : List (List ℕ)) (old : D × ManagedNames) → old.1 ≡ standing before (begun names) → Kept g.told (g.view old.0) (g.view old.0) → TriesSafely g before names old old
some_none g before names old is kept = record {
  some = record { front = []; rest = names; deleted = []; failed = []; split = refl; tried = tried_none g old old kept (λ tells n ne. refl); names = is };
  safe = λ tells. record { tracks = track_same g; listed = λ was. was; states = loses_none [] _ };
}
