-- What the steps of a collection leave of the files of a store.
use Rattle.std.proofs.Common.{◌≡◌, ℕ, ◌+◌, ◌<◌, inl, inr, Bool, true, false, true≢false, cond, not, ◌&&◌, ◌||◌, List, [], ◌∷◌, ◌++◌, length, Option, Some, None, Result, Ok, Err, ◌⊎◌, refl, sym, ap, subst, ◌∙◌, arith, ⊎_elim}
use Rattle.std.specs.Prelude.{IfOk, IsErrAnd, OnErr, IsSome}
use Rattle.std.proofs.Math.Logic.{⊎_map}
use Rattle.std.specs.Option.{IsSomeAnd}
use Rattle.std.proofs.lemmas.Bool.{false_from_ne_true}
use Rattle.tv_base.specs.declared.error.TantivyError.{TantivyError}
use Rattle.tv_base.specs.declared.error.TantivyError.TheVariants as errors
use Rattle.tv_base.specs.declared.open_errors.LockError.TheVariants as lock
use Rattle.tv_formats.specs.Collections.{Collection, Collections, collection_at, done_of, failed_of, having_tried, held, taken, with_collection}
use Rattle.tv_formats.specs.Files.{Rose, RoseBy}
use Rattle.tv_machine.specs.Machine.{refused_in}
use Rattle.tv_formats.specs.Names.{has, is, is_plain, is_undotted, meta_name, at}
use Rattle.tv_formats.proofs.CollectedNames.{done_within, has_append}
use Rattle.tv_formats.proofs.Entries.{is_text, isnt_one}
use Rattle.tv_formats.proofs.Options.{some_value}
use Rattle.tv_machine.proofs.Collects.{failed_within}
use Rattle.tv_device.specs.declared.directory.Directory.{Ghosts}
use Rattle.tv_managed.specs.Collecting.{EndsCollection as EndsManaged, Among, Begins, CollectCause, CollectFaults, IsLast, Leaves, SparesWriters, Steps, TakesNoLock, TriesName, is_done, meta_lock_name, taken_by, tried_name}
use Rattle.tv_managed.specs.Names.{ManagedNames}
use Rattle.tv_managed.specs.declared.collection.CollectStep.{CollectStep}
use Rattle.tv_managed.specs.declared.collection.GarbageCollectionResult.{GarbageCollectionResult}
use Rattle.tv_store.proofs.Listings.{list_is_dotted}
use Rattle.tv_store.specs.CollectingCalls.{FinishesCollection, TriesNext, gone_of}
use Rattle.tv_catalog.specs.Kept.{HasUntried}
use Rattle.tv_catalog.specs.Effects.{collection_after}
use Rattle.tv_catalog.specs.Exhausted.{SomePassesEnd}
use Rattle.tv_store.specs.FileCalls.{GcFaults}
use Rattle.tv_store.specs.Kept.{FilesState, names_below}
use Rattle.tv_store.specs.StoreCauses.{EventCause, IsBusy, LockingCause}
use Rattle.tv_store.proofs.Held.{held_begun, held_ended, held_standing, held_taken, held_tried}
use Rattle.tv_store.proofs.Removals.{among_spares, isnt_plain, living_spared}

never : (a b : Bool) → (a ≡ true → b ≡ true) → b ≡ false → a ≡ false
never a b h e = false_from_ne_true a (λ t. true≢false (sym (h t) ∙ e))

-- ---- beginnings and ends

-- a collection that begins doesn't take `meta.json`, which is living
pub begun_spares : {E : Type 0} (living : List (List ℕ)) (old new : ManagedNames) (result : Result ℕ E) → IfOk result (Begins (taken_by living old) old new) → OnErr result (new ≡ old)
    → has living meta_name ≡ true → has (held old.collections) meta_name ≡ false → has (held new.collections) meta_name ≡ false
begun_spares living old new (Ok number) begins err lives spared =
    ap (λ names. has (held names.collections) meta_name) begins.names
    ∙ never _ (has (taken_by living old) meta_name || has (held old.collections) meta_name) (held_begun meta_name old.collections (taken_by living old))
    (ap (λ b. b || has (held old.collections) meta_name) (living_spared living old meta_name lives) ∙ spared)
begun_spares living old new (Err e) begins err lives spared = ap (λ names. has (held names.collections) meta_name) err ∙ spared

-- what an unfinished collection took of some names that don't have this one isn't it
partly_spared : (names front rest : List (List ℕ)) (outcomes : List Bool) (n : List ℕ) → names ≡ front ++ rest → has names n ≡ false → has (taken (record { untried = rest; done = done_of front outcomes; failed = failed_of front outcomes })) n ≡ false
partly_spared names front rest outcomes n split spared =
    grind (
      arith,
      has_append (done_of front outcomes ++ failed_of front outcomes) rest n,
      has_append (done_of front outcomes) (failed_of front outcomes) n,
      done_within front outcomes n,
      failed_within front outcomes n,
      has_append front rest n,
      ap (λ (ns : List (List ℕ)). has ns n) split,
      spared,
    )

-- a collection at once, whatever it answers, leaves no `meta.json` held, which is living
pub collected_spares : {S A E D W C : Type 0} (g : Ghosts D W C) (answered : S → Type 0) (sets : S → List (List ℕ)) (living names : List (List ℕ)) (old new : D × ManagedNames) (result : Result A E)
    → ((set : S) → answered set → sets set ≡ living) → Among answered sets old.1 new.1 names result → Leaves g names old new result → has living meta_name ≡ true → has (held old.1.collections) meta_name ≡ false → has (held new.1.collections) meta_name ≡ false
collected_spares g answered sets living names old new (Ok a) is among l lives spared = ap (λ names. has (held names.collections) meta_name) l.ok ∙ spared
collected_spares {A = A} g answered sets living names old new (Err e) is among l lives spared =
    elim l.err [
      | inl same ↦ ap (λ names. has (held names.collections) meta_name) same.0 ∙ spared
      | inr begun ↦
          let c : Collection = record { untried = l.rest; done = done_of l.front l.outcomes; failed = failed_of l.front l.outcomes } in
          ap (λ names. has (held names.collections) meta_name) begun
          ∙ never _ (has (taken c) meta_name || has (held old.1.collections) meta_name) (held_standing meta_name old.1.collections c (old.1.collections.next + 1))
          (ap (λ b. b || has (held old.1.collections) meta_name) (partly_spared names l.front l.rest l.outcomes meta_name l.split (among_spares {A = A} answered sets living names old.1 new.1 (Err e) meta_name is among lives)) ∙ spared)
    ]

-- the end of a collection fails as an event does
pub end_cause : (refused quiet : Type 0) (e : TantivyError) → CollectCause ⊥ ⊥ refused quiet e → TakesNoLock e → EventCause refused quiet ⊥ e
end_cause refused quiet (errors.IoError fault) cause free = cause
end_cause refused quiet (errors.LockFailure why text) cause free = absurd free
end_cause refused quiet errors.Memory cause free = cause
end_cause refused quiet errors.Exhausted cause free = absurd cause
end_cause refused quiet other cause free = absurd cause

-- what a collection has done isn't `meta.json`, where that isn't held
done_spares : (collections : Collections) (number : ℕ) (c : Collection) → collection_at collections number ≡ Some c → has (held collections) meta_name ≡ false → has c.done meta_name ≡ false
done_spares collections number c there spared =
    let free : has (taken c) meta_name ≡ false = never _ (has (held collections) meta_name) (held_taken meta_name collections number c there) spared in
    grind (arith, has_append (c.done ++ c.failed) c.untried meta_name, has_append c.done c.failed meta_name, free)

module _ {O W C : Type 0} (g : Ghosts O W C) (number : ℕ) (old : FilesState O) (first : O × ManagedNames) (same : first ≡ names_below old) (some : IsSome (collection_at old.collections number)) (spared : has (held old.collections) meta_name ≡ false) where
  -- a collection ended, and `meta.json` isn't held
  pub end_spares : (new : O × ManagedNames) (result : GarbageCollectionResult) → EndsManaged {E = TantivyError} g number first new (Ok result) → has (held new.1.collections) meta_name ≡ false
  end_spares new result ends =
      let c = some_value _ some in
      let did = (subst (λ o. EndsManaged {E = TantivyError} g number o new (Ok result)) same ends).ok c.0 c.1 in
      ap (λ names. has (held names.collections) meta_name) did.names ∙ never _ (has (held old.collections) meta_name) (held_ended meta_name old.collections number) spared

  pub ends_so : (new : FilesState O) (result : GarbageCollectionResult) → EndsManaged {E = TantivyError} g number first (names_below new) (Ok result) → FinishesCollection g number old new
  ends_so new result ends =
      let c = some_value _ some in
      let whole = subst (λ o. EndsManaged {E = TantivyError} g number o (names_below new) (Ok result)) same ends in
      let did = whole.ok c.0 c.1 in
      record {
        collection = c.0;
        there = c.1;
        managed = ap (λ names. names.managed) did.names;
        collections = ap (λ names. names.collections) did.names;
        spares = done_spares old.collections number c.0 c.1 spared;
        list = whole.saves.list;
      }

-- ---- a step

-- A collection tried the first name that it had left.
pub record Next {D W C : Type 0} (g : Ghosts D W C) (number : ℕ) (name : List ℕ) (is_done : Bool) (old new : D × ManagedNames) : Type 0 where
  pub collection : Collection
  pub left_names : List (List ℕ)
  pub there : collection_at old.1.collections number ≡ Some collection
  pub first : collection.untried ≡ name ∷ left_names
  pub plain : is_plain name ≡ true
  pub names : new.1 ≡ record old.1 { collections = with_collection old.1.collections number (having_tried collection name left_names is_done) }
  pub tried : TriesName g name old new is_done

first_of : (names : List (List ℕ)) → 0 < length names → (name : List ℕ) × (left : List (List ℕ)) × (names ≡ name ∷ left)
first_of [] h = absurd (omega (arith, h))
first_of (name ∷ left) h = (name, left, refl)

next_of : (o : Option Collection) → IsSomeAnd o (λ c. 0 < length c.untried) → (c : Collection) × (o ≡ Some c) × (0 < length c.untried)
next_of None h = absurd h
next_of (Some c) h = (c, refl, h)

pub tried_next : {D W C : Type 0} (g : Ghosts D W C) (number : ℕ) (step given : CollectStep) (named : List ℕ) (old new first : D × ManagedNames) → old ≡ first → step ≡ given → named ≡ tried_name given → HasUntried first.1.collections number
    → Steps g number old new (Ok step) → Next g number named (is_done given) first new
tried_next g number step given named old new first same is telling some steps =
    let c = next_of (collection_at first.1.collections number) some in
    let n = first_of c.0.untried c.2 in
    let did = (subst (λ s. Steps g number first new (Ok s)) is (subst (λ o. Steps g number o new (Ok step)) same steps)).ok (record { collection = c.0; name = n.0; left = n.1; there = c.1; first = n.2 }) in
    subst (λ (name : List ℕ). Next g number name (is_done given) first new) (sym (telling ∙ did.told)) (record {
      collection = c.0;
      left_names = n.1;
      there = c.1;
      first = n.2;
      plain = did.noted.plain;
      names = did.noted.names;
      tried = did.noted.tried;
    })

has_one : (x n : List ℕ) → has (x ∷ []) n ≡ is x n
has_one x n = elim (is x n) as (λ b. (b || false) ≡ b) [ true ↦ refl | false ↦ refl ]

module _ {D W C : Type 0} (g : Ghosts D W C) (number : ℕ) (name : List ℕ) (is_done : Bool) (old new : D × ManagedNames) (next : Next g number name is_done old new) where
  -- `meta.json` is held no more than it was
  pub next_spares : has (held old.1.collections) meta_name ≡ false → has (held new.1.collections) meta_name ≡ false
  next_spares spared =
      ap (λ names. has (held names.collections) meta_name) next.names
      ∙ never _ (has (held old.1.collections) meta_name) (held_tried meta_name old.1.collections number next.collection name next.left_names is_done next.there next.first) spared

  -- so it wasn't tried
  isnt_meta : has (held old.1.collections) meta_name ≡ false → is name meta_name ≡ false
  isnt_meta spared =
      let c = next.collection in
      let free : has (taken c) meta_name ≡ false = never _ (has (held old.1.collections) meta_name) (held_taken meta_name old.1.collections number c next.there) spared in
      grind (arith, has_append (c.done ++ c.failed) c.untried meta_name, ap (λ (names : List (List ℕ)). has names meta_name) next.first, free)

  spares : (b : Bool) → is_done ≡ b → has (held old.1.collections) meta_name ≡ false → has (gone_of name b) meta_name ≡ false
  spares true is spared = has_one name meta_name ∙ isnt_meta spared
  spares false is spared = refl

  pub next_keeps_meta : has (held old.1.collections) meta_name ≡ false → has (gone_of name is_done) meta_name ≡ false
  next_keeps_meta spared = spares is_done refl spared

  dotted : (b : Bool) (n : List ℕ) → is_undotted n ≡ false → has (gone_of name b) n ≡ false
  dotted true n dot = has_one name n ∙ isnt_plain name n next.plain dot
  dotted false n dot = refl

  -- nor was the list, whose name has a dot in front
  pub next_keeps_dotted : (n : List ℕ) → is_undotted n ≡ false → has (gone_of name is_done) n ≡ false
  next_keeps_dotted n dot = dotted is_done n dot

  counted : (b : Bool) → is_done ≡ b → RoseBy (refused_in (b ∷ [])) (g.view old.0).refusals (g.view new.0).refusals
  counted true is = inl (omega (arith, next.tried.done is))
  counted false is = elim (next.tried.failed is) [ inl less ↦ inl (omega (arith, less)) | inr last ↦ inr (omega (arith, last)) ]

  pub next_counted : RoseBy (refused_in (is_done ∷ [])) (g.view old.0).refusals (g.view new.0).refusals
  next_counted = counted is_done refl

  gone : (b : Bool) → is_done ≡ b → g.told.content → (n : List ℕ) → has (gone_of name b) n ≡ true → (g.view new.0).reads n ≡ None
  gone true is tells n h = ap (g.view new.0).reads (sym (is_text name n (sym (has_one name n) ∙ h))) ∙ next.tried.gone tells is
  gone false is tells n h = absurd cc

  pub next_gone : g.told.content → (n : List ℕ) → has (gone_of name is_done) n ≡ true → (g.view new.0).reads n ≡ None
  next_gone tells n h = gone is_done refl tells n h

  others : (b : Bool) → is_done ≡ b → g.told.content → (n : List ℕ) → has (gone_of name b) n ≡ false → (g.view new.0).reads n ≡ (g.view old.0).reads n
  others true is tells n h = next.tried.others tells n (isnt_one name n h)
  others false is tells n h = next.tried.same tells is n

  pub next_others : g.told.content → (n : List ℕ) → has (gone_of name is_done) n ≡ false → (g.view new.0).reads n ≡ (g.view old.0).reads n
  next_others tells n h = others is_done refl tells n h

  spared_writers : (b : Bool) → is_done ≡ b → g.told.content → SparesWriters (gone_of name b) g.state_of (g.view old.0).lives (g.view new.0).lives
  spared_writers true is tells w other lives = next.tried.alive tells w (isnt_one name (g.state_of w).name other) lives
  spared_writers false is tells w other lives = next.tried.kept tells is w lives

  -- a writer lives on unless its file is gone
  pub next_writers : g.told.content → SparesWriters (gone_of name is_done) g.state_of (g.view old.0).lives (g.view new.0).lives
  next_writers tells = spared_writers is_done refl tells

-- so a step does to the files of a store what it should
pub tries_so : {O W C : Type 0} (g : Ghosts O W C) (number : ℕ) (name : List ℕ) (is_done : Bool) (old new : FilesState O) → Next g number name is_done (names_below old) (names_below new) → has (held old.collections) meta_name ≡ false
    → ((n : List ℕ) → at new.open_files n ≡ cond (has (gone_of name is_done) n) None (at old.open_files n)) → ((n : List ℕ) → has new.left n ≡ (not (has (gone_of name is_done) n) && has old.left n)) → TriesNext g number old new name is_done
tries_so g number name is_done old new next spared open_files left = record {
  collection = next.collection;
  left_names = next.left_names;
  there = next.there;
  first = next.first;
  collections = ap (λ names. names.collections) next.names;
  managed = ap (λ names. names.managed) next.names;
  counted = next_counted g number name is_done (names_below old) (names_below new) next;
  gone = next_gone g number name is_done (names_below old) (names_below new) next;
  others = next_others g number name is_done (names_below old) (names_below new) next;
  open_files = open_files;
  left = left;
  spares = next_keeps_meta g number name is_done (names_below old) (names_below new) next spared;
  listed = λ n is. next_keeps_dotted g number name is_done (names_below old) (names_below new) next n (list_is_dotted n is);
}

-- ---- why a collection fails

gc_cause : (tells is_held refused quiet spent spent2 : Type 0) (e : TantivyError) → (tells → CollectCause is_held (Unit {0}) (Unit {0}) (Unit {0}) e) → (spent → quiet × spent2) → CollectCause ((tells × quiet) ⊎ refused) spent refused quiet e
    → LockingCause (IsBusy tells is_held refused) refused quiet spent2 e
gc_cause tells is_held refused quiet spent spent2 (errors.IoError fault) busy k cause = cause
gc_cause tells is_held refused quiet spent spent2 (errors.LockFailure lock.LockBusy text) busy k (why, unsaid) = (record { told = λ t. (busy t).0; untold = ⊎_map (λ both. both.0) (λ rose. rose) why }, unsaid)
gc_cause tells is_held refused quiet spent spent2 (errors.LockFailure (lock.IoError fault) text) busy k cause = cause
gc_cause tells is_held refused quiet spent spent2 (errors.LockFailure lock.Memory text) busy k cause = cause
gc_cause tells is_held refused quiet spent spent2 errors.Exhausted busy k cause = k cause
gc_cause tells is_held refused quiet spent spent2 errors.Memory busy k cause = cause
gc_cause tells is_held refused quiet spent spent2 other busy k cause = absurd cause

-- that of the directory is that of the files of a store
pub gc_faults : {A O W C : Type 0} (g : Ghosts O W C) (old : FilesState O) (now new : O × ManagedNames) (result : Result A TantivyError) → now ≡ names_below old → CollectFaults g now new result
    → GcFaults g (SomePassesEnd (collection_after old.collections)) old.outside new.0 result
gc_faults {A} {O} g old now new result same h = subst (λ (d : O × ManagedNames). GcFaults g (SomePassesEnd (collection_after d.1.collections)) d.0 new.0 result) same (seen result h) where
  seen : (r : Result A TantivyError) → CollectFaults g now new r → GcFaults g (SomePassesEnd (collection_after now.1.collections)) now.0 new.0 r
  seen (Ok a) h = record { quiet = h.quiet; free = h.free; fits = λ spent. ⊎_elim h.numbered (λ never. never) spent; cause = tt }
  seen (Err e) h = record {
    quiet = tt;
    free = λ t. tt;
    fits = tt;
    cause =
        gc_cause g.told.locks ((g.view now.0).locks meta_lock_name ≡ true) (Rose (g.view now.0).faults (g.view new.0).faults) ((g.view new.0).faults ≡ (g.view now.0).faults)
        (IsLast now.1.collections.next × ((g.view new.0).faults ≡ (g.view now.0).faults)) (SomePassesEnd (collection_after now.1.collections)) e
        h.busy (λ last. (last.1, inl last.0)) h.cause;
  }

-- an error is handed on
pub gc_fails : {A B O W C : Type 0} (g : Ghosts O W C) (spent : Type 0) (old new : O) (result : Result A TantivyError) (error : TantivyError) → IsErrAnd result (λ e. e ≡ error) → GcFaults {A = B} g spent old new (Err error) → GcFaults g spent old new result
gc_fails g spent old new (Ok a) error is h = absurd is
gc_fails g spent old new (Err e) error is h = record {
  quiet = tt;
  free = λ t. tt;
  fits = tt;
  cause = subst (LockingCause (IsBusy g.told.locks ((g.view old).locks meta_lock_name ≡ true) (Rose (g.view old).faults (g.view new).faults)) (Rose (g.view old).faults (g.view new).faults) ((g.view new).faults ≡ (g.view old).faults) spent) (sym is) h.cause;
}
