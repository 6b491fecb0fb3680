-- What calls spare: a name that is taken, what is needed, and what failed.
use Rattle.std.proofs.Common.{◌≡◌, ◌<◌, ◌≤◌, ◌++◌, ◌&&◌, ◌⊎◌, inl, inr, ℕ, true, false, true≢false, not, List, [], ◌∷◌, length, Option, Result, Ok, Err, None, Some, refl, sym, ap, subst, ◌∙◌, ⊎_elim, arith}
use Rattle.std.specs.Option.{IsSomeAnd}
use Rattle.std.specs.Prelude.{IfErr, IfOk}
use Rattle.std.proofs.lemmas.Bool.{or_right}
use Rattle.tv_base.specs.declared.open_errors.OpenWriteError.{OpenWriteError}
use Rattle.tv_base.specs.declared.open_errors.OpenWriteError.TheVariants as write
use Rattle.tv_formats.specs.Disk.{Disk, IsImage, MayLeave, MayRead, Possible, Within, possible_now}
use Rattle.tv_formats.specs.Files.{Reads}
use Rattle.tv_formats.specs.Names.{has}
use Rattle.tv_formats.specs.Collections.{Collection, Collections, begun, collectable, collection_at, held, with_begun}
use Rattle.tv_formats.proofs.CollectedNames.{has_append, has_without}
use Rattle.tv_formats.proofs.Numbered.{put_found}
use Rattle.tv_device.specs.Images.{KeepsDisk}
use Rattle.tv_device.specs.View.{Kept, OnlyReads}
use Rattle.tv_device.specs.declared.directory.Directory.{Ghosts}
use Rattle.tv_managed.specs.Collecting.{Among, Begins, Ended, EndsCollection, KeepsFailed, Leaves, NextName, Spares, TookNoneOf, Tries, names_of, taken_by}
use Rattle.tv_managed.specs.Crashes.{CollectsNames, IsSettledBut, LeavesWhatMight, StandsFor}
use Rattle.tv_managed.specs.Frames.{KeepsNames}
use Rattle.tv_managed.specs.Managed.{CreateFaults, Creates, is_taken}
use Rattle.tv_managed.specs.Names.{ManagedNames}
use Rattle.tv_managed.specs.declared.collection.GarbageCollectionResult.{GarbageCollectionResult}

-- where the answer is that the name is taken, nothing changed
pub spares_taken : {A D W C : Type 0} (g : Ghosts D W C) {old new : D × ManagedNames} {name : List ℕ} (result : Result A OpenWriteError) → g.told.content → Creates g old new name result → CreateFaults g old new name result → Kept g.told (g.view old.0) (g.view new.0)
    → IfErr result (λ error. is_taken error ≡ true → KeepsNames (OnlyReads g.told) g.view old new)
spares_taken g (Ok x) tells creates faults kept = tt
spares_taken g (Err (write.FileAlreadyExists path)) tells creates faults kept = λ taken.
    let same = creates.there tells (faults.cause.1.0 tells) in
    record { names = same.1; below = record { kept = kept; content = λ _. same.0 } }
spares_taken g (Err (write.Leaving path)) tells creates faults kept = λ taken. creates.held faults.cause.1.0
spares_taken g (Err (write.IoError fault path)) tells creates faults kept = λ taken. absurd (true≢false (sym taken))
spares_taken g (Err write.Memory) tells creates faults kept = λ taken. absurd (true≢false (sym taken))

-- what is needed isn't taken
untaken : (needed managed : List (List ℕ)) (n : List ℕ) → has needed n ≡ true → has (collectable needed managed) n ≡ false
untaken needed managed n h = has_without needed managed n ∙ ap (λ b. not b && has managed n) h

pub held_needed : (living others : List (List ℕ)) (n : List ℕ) → has others n ≡ true → has (living ++ others) n ≡ true
held_needed living others n h = has_append living others n ∙ or_right (has living n) (has others n) h

-- a collection that began stands under its number
pub begun_at : (taken : List (List ℕ)) (old new : ManagedNames) (number : ℕ) → Begins taken old new number → collection_at new.collections number ≡ Some (begun taken)
begun_at taken old new number begins =
    ap (λ v. collection_at v.collections number) begins.names
    ∙ ap (λ k. collection_at (with_begun old.collections taken) k) begins.numbered
    ∙ put_found old.collections.unfinished old.collections.next (begun taken)

-- and took none of these names, which were needed
pub took_none : (spared living : List (List ℕ)) (old new : ManagedNames) (number : ℕ) → ((n : List ℕ) → has spared n ≡ true → has (living ++ held old.collections) n ≡ true) → Begins (taken_by living old) old new number → TookNoneOf spared new number
took_none spared living old new number needed begins =
    (begun (taken_by living old), begun_at (taken_by living old) old new number begins, λ n h. untaken (living ++ held old.collections) old.managed n (needed n h))

-- so it isn't among the names that are tried
pub not_among : {S A E : Type 0} (spared : List (List ℕ)) (answered : S → Type 0) (living : S → List (List ℕ)) (names : List (List ℕ)) (old new : ManagedNames) (result : Result A E) → ((set : S) → answered set → (n : List ℕ) → has spared n ≡ true → has (living set ++ held old.collections) n ≡ true)
    → Among answered living old new names result → (n : List ℕ) → has spared n ≡ true → has names n ≡ false
not_among spared answered living names old new result needed among n h =
    ⊎_elim (λ none. ap (λ l. has l n) none.1) (λ some. ap (λ l. has l n) some.2 ∙ untaken (living some.0 ++ held old.collections) old.managed n (needed some.0 some.1 n h)) among

-- a collection at once, whatever it answered
pub spares_needed : {S A E D W C : Type 0} (g : Ghosts D W C) (spared : List (List ℕ)) (answered : S → Type 0) (living : S → List (List ℕ)) (names : List (List ℕ)) {old new : D × ManagedNames} {result : Result A E}
    → ((set : S) → answered set → (n : List ℕ) → has spared n ≡ true → has (living set ++ held old.1.collections) n ≡ true) → Leaves g names old new result → Among answered living old.1 new.1 names result
    → g.told.content → Spares spared (g.view old.0).reads (g.view new.0).reads
spares_needed g spared answered living names {old} {new} {result} needed leaves among tells n h other =
    leaves.spared tells n (not_among spared answered living names old.1 new.1 result needed among n h) other

-- at each moment a crash may leave what it might before, or each name that was needed as it stood
pub stands_or_before : (spared names : List (List ℕ)) (text : List ℕ) (old : Disk) (possible : Possible) (image : Reads) → ((n : List ℕ) → has spared n ≡ true → has names n ≡ false) → Within (possible_now old) possible ⊎ IsSettledBut old.now names text possible → IsImage possible image
    → MayLeave old old.moment image ⊎ StandsFor spared old.now image
stands_or_before spared names text old possible image untried synced left =
    ⊎_elim
    (λ within. inl (record { each = λ n. let it = left.each n in (it.0, within.each n it.0 it.1, it.2) }))
    (λ settled. inr (λ n h other.
    let it = left.each n in
    let stood : it.0 ≡ old.now n = ⊎_elim (λ e. e) (λ lost. ⊎_elim (λ l. absurd (true≢false (sym l.0 ∙ untried n h))) (λ l. absurd (other l.0)) lost) (settled.each n it.0 it.1) in
    subst (λ s. MayRead s (image n)) stood it.2))
    synced

-- and so it does each name that is told as failed
pub failed_stand : {E D W C : Type 0} (g : Ghosts D W C) (names : List (List ℕ)) {old new : D × ManagedNames} (result : Result GarbageCollectionResult E) → CollectsNames g names old new result → g.tells_images
    → IfOk result (λ told. (x : ℕ) (image : Reads) → (g.disk old.0).moment ≤ x → x ≤ (g.disk new.0).moment → MayLeave (g.disk new.0) x image
    → MayLeave (g.disk old.0) (g.disk old.0).moment image ⊎ StandsFor (names_of told.failed_to_delete_files.items) (g.disk old.0).now image)
failed_stand g names {old} (Ok told) did tells = λ x image from upto left.
    stands_or_before (names_of told.failed_to_delete_files.items) _ _ (g.disk old.0) _ image (λ n h. ap (λ l. has l n) (sym did.told) ∙ did.tries.apart n h) ((did.safe tells).states.synced.each x from upto) left
failed_stand g names (Err e) did tells = tt

-- ---- a step that was refused

-- a call that changed nothing leaves what might be left before
pub leaves_what_might : {old new : Disk} → KeepsDisk old new → LeavesWhatMight old new
leaves_what_might keeps image left = record { each = λ n. let it = left.each n in (it.0, keeps.states.possible.no_more.each n it.0 it.1, it.2) }

-- a collection that has a name left has a first one
pub first_left : {collections : Collections} {number : ℕ} (o : Option Collection) → collection_at collections number ≡ o → IsSomeAnd o (λ c. 0 < length c.untried) → NextName collections number
first_left None there some = absurd some
first_left {collections} {number} (Some c) there some = by c.untried refl where
  by : (names : List (List ℕ)) → c.untried ≡ names → NextName collections number
  by [] none = absurd (omega (arith, some, ap length none))
  by (name ∷ left) first = record { collection = c; name = name; left = left; there = there; first = first }

-- what is left of the managed names has those that failed
still_there : (deleted managed : List (List ℕ)) (n : List ℕ) → has deleted n ≡ false → has managed n ≡ true → has (collectable deleted managed) n ≡ true
still_there deleted managed n free h = has_without deleted managed n ∙ ap (λ b. not b && has managed n) free ∙ h

-- the end of a collection gives no number back
pub next_stays : {E D W C : Type 0} (g : Ghosts D W C) (number : ℕ) (c : Collection) {old new : D × ManagedNames} (result : Result GarbageCollectionResult E) → collection_at old.1.collections number ≡ Some c → EndsCollection g number old new result → new.1.collections.next ≡ old.1.collections.next
next_stays g number c (Ok told) at ends = ap (λ v. v.collections.next) (ends.ok c at).names
next_stays g number c (Err e) at ends = ap (λ v. v.collections.next) ends.err

pub ended_keeps : (number : ℕ) (c : Collection) (old new : ManagedNames) (result : GarbageCollectionResult) → Ended number c old new result → KeepsFailed old new result
ended_keeps number c old new result ended n h failed =
    ap (λ v. has v.managed n) ended.names ∙ still_there c.done old.managed n (ap (λ l. has l n) (sym ended.deleted) ∙ ended.apart n failed) h

pub tries_keeps : {D W C : Type 0} (g : Ghosts D W C) (names : List (List ℕ)) (old new : D × ManagedNames) (result : GarbageCollectionResult) → Tries g names old new result → KeepsFailed old.1 new.1 result
tries_keeps g names old new result tries n h failed =
    ap (λ v. has v.managed n) tries.managed ∙ still_there (names_of result.deleted_files.items) old.1.managed n (tries.apart n failed) h
