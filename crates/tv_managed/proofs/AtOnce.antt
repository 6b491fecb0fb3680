-- What a collection at once did, from its beginning to its end.
use Rattle.std.proofs.Common.{◌≡◌, ◌+◌, ◌-◌, ◌<◌, ◌||◌, ◌++◌, ℕ, Bool, true, false, true≢false, List, [], None, Some, Option, Result, Ok, Err, inl, inr, ⊎_elim, refl, sym, ap, subst, ◌∙◌, arith, append-nil}
use Rattle.std.specs.Prelude.{OnErr, OnOk, length}
use Rattle.std.specs.Result.{IsErr}
use Rattle.std.specs.BTreeMap.{insert_entry}
use Rattle.std.specs.List.{flat_map}
use Rattle.std.specs.Ordering.{nat_cmp}
use Rattle.std.proofs.lemmas.Bool.{false_from_ne_true, or_left, or_parts}
use Rattle.std.proofs.lemmas.Result.{IfOk-from_err, on_err_weaker}
use Rattle.tv_formats.specs.Collections.{Collection, begun, collection_at, done_of, without}
use Rattle.tv_formats.specs.Disk.{Disk, Throughout, possible_now, TouchesOnly}
use Rattle.tv_formats.specs.Files.{Same}
use Rattle.tv_formats.specs.Listing.{Lists, list_text}
use Rattle.tv_formats.specs.Names.{is, has, list_name}
use Rattle.tv_formats.proofs.CollectedNames.{done_within, has_append}
use Rattle.tv_formats.proofs.Entries.{is_itself, is_text}
use Rattle.tv_formats.proofs.DiskLaws.{weaker, touches_then}
use Rattle.tv_formats.proofs.Numbered.{put_found}
use Rattle.tv_formats.proofs.Results.{on_err}
use Rattle.tv_device.specs.View.{Kept, OnlyReads}
use Rattle.tv_device.specs.declared.directory.Directory.{Ghosts}
use Rattle.tv_managed.specs.Collecting.{Begins, Ended, EndsCollection, FailsAtMost, Leaves, OnlyDeletes, TellsApart, Tried, Tries, ending, names_of, standing}
use Rattle.tv_managed.specs.Crashes.{AnyOrList, CollectsNames, EndsSafely, Forgets, IsCovered, LeavesSafely, SettlesStates, ShortensStates, TriesSafely}
use Rattle.tv_managed.specs.Managed.{Covers}
use Rattle.tv_managed.specs.Names.{ManagedNames, done_names}
use Rattle.tv_managed.specs.declared.collection.GarbageCollectionResult.{GarbageCollectionResult}
use Rattle.tv_managed.proofs.Collections.{more_done, none_done, put_and_out, put_twice}
use Rattle.tv_managed.proofs.Synced.{IsSynced, TriesSynced, lists_synced, settles_synced, settles_touch, tries_synced}
use Rattle.tv_managed.proofs.Tracking.{covered_done, track_names}
use Rattle.tv_managed.specs.TrackLaws.{track_then}
use Rattle.tv_managed.proofs.Tried.{tried_none, tried_on, tried_then}

-- ---- the names

-- what is done once a collection stands under the next number
standing_done : (names : ManagedNames) (d : Collection) (n : List ℕ) → collection_at names.collections names.collections.next ≡ None → has (done_names (standing names d).collections) n ≡ (has (done_names names.collections) n || has d.done n)
standing_done names d n free =
    let es = names.collections.unfinished in
    let k = names.collections.next in
    ap (λ (l : List (ℕ × Collection)). has (flat_map (λ e. e.1.done) l) n) (sym (put_twice es k (begun []) d))
    ∙ more_done (insert_entry nat_cmp es k (begun [])) k (begun []) d n (has d.done n) (put_found es k (begun [])) refl
    ∙ ap (λ b. b || has d.done n) (none_done es k (begun []) n free refl)

-- the list that reads has the names that it need have
covers_standing : (names : ManagedNames) (d : Collection) (read : Option (List ℕ)) → collection_at names.collections names.collections.next ≡ None → Covers read names → Covers read (standing names d)
covers_standing names d read free was = (was.0, was.1, λ n h none. was.2 n h (or_parts _ _ (sym (standing_done names d n free) ∙ none)).0)

-- all that is kept in memory, without these names, and with this number as the next
abbrev pub left_with : ManagedNames → List (List ℕ) → ℕ → ManagedNames
left_with names deleted k = record { managed = without deleted names.managed; collections = record { unfinished = names.collections.unfinished; next = k } }

-- the end of a collection that stood under the next number
pub ended_names : (names now : ManagedNames) (number : ℕ) (d : Collection) → number ≡ names.collections.next → collection_at names.collections names.collections.next ≡ None → now ≡ ending (standing names d) number d → now ≡ left_with names d.done (names.collections.next + 1)
ended_names names now number d same free is =
    let With : List (ℕ × Collection) → ManagedNames = λ es. record { managed = without d.done names.managed; collections = record { unfinished = es; next = names.collections.next + 1 } } in
    is ∙ ap (λ k. ending (standing names d) k d) same ∙ ap With (put_and_out names.collections.unfinished names.collections.next d free)

-- ---- what was tried

-- a name that isn't among those that were to be tried isn't deleted
pub untried : (taken front rest : List (List ℕ)) (outcomes : List Bool) (n : List ℕ) → taken ≡ front ++ rest → has taken n ≡ false → has (done_of front outcomes) n ≡ false
untried taken front rest outcomes n split none =
    false_from_ne_true _ (λ h. true≢false (sym (ap (λ l. has l n) split ∙ has_append front rest n ∙ or_left (has front n) (has rest n) (done_within front outcomes n h)) ∙ none))

leaves_of : {A E D W C : Type 0} (g : Ghosts D W C) (taken front rest deleted failed : List (List ℕ)) {old new : D × ManagedNames} (result : Result A E) → taken ≡ front ++ rest → Tried g front old new deleted failed
    → OnOk result (new.1 ≡ record old.1 { managed = without deleted old.1.managed }) → OnErr result (new.1 ≡ standing old.1 (record { untried = rest; done = deleted; failed = failed })) → Leaves g taken old new result
leaves_of g taken front rest deleted failed {old} {new} result split t ok err =
    let had : (n : List ℕ) (b : Bool) → has (done_of front t.outcomes) n ≡ b → has deleted n ≡ b = λ n b h. ap (λ l. has l n) t.deleted_is ∙ h in
    let missed : (n : List ℕ) → has taken n ≡ false → has deleted n ≡ false = λ n h. had n false (untried taken front rest t.outcomes n split h) in
    record {
      front = front;
      rest = rest;
      outcomes = t.outcomes;
      split = split;
      each = t.each;
      ok = subst (λ l. OnOk result (new.1 ≡ record old.1 { managed = without l old.1.managed })) t.deleted_is ok;
      err = on_err_weaker result (λ stands. inr stands) (subst (λ l. OnErr result (new.1 ≡ standing old.1 (record { untried = rest; done = done_of front t.outcomes; failed = l }))) t.failed_is (subst (λ l. OnErr result (new.1 ≡ standing old.1 (record { untried = rest; done = l; failed = failed }))) t.deleted_is err));
      gone = λ tell n h. t.gone tell n (had n true h);
      others = λ tell n h other. t.others tell n (had n false h) other;
      spared = λ tell n h other. t.others tell n (missed n h) other;
      alive = λ tell w h l. t.alive tell w (had (g.state_of w).name false h) l;
      ended = λ tell w o h some. t.ended tell w o (had (g.state_of w).name true h) some;
      counted = subst (λ (l : List (List ℕ)). FailsAtMost (length l) (g.view old.0).refusals (g.view new.0).refusals) t.failed_is t.counted;
      calm = λ none. t.calm (t.failed_is ∙ none);
      fits = t.fits;
    }

tries_of : {D W C : Type 0} (g : Ghosts D W C) (taken : List (List ℕ)) (old new : D × ManagedNames) (result : GarbageCollectionResult)
    → new.1 ≡ record old.1 { managed = without (names_of result.deleted_files.items) old.1.managed } → Tried g taken old new (names_of result.deleted_files.items) (names_of result.failed_to_delete_files.items) → TellsApart result → Tries g taken old new result
tries_of g taken old new result left t apart = record {
  outcomes = t.outcomes;
  each = t.each;
  deleted = t.deleted_is;
  failed = t.failed_is;
  managed = left;
  gone = t.gone;
  others = t.others;
  alive = t.alive;
  ended = t.ended;
  counted = t.counted;
  calm = t.calm;
  apart = apart;
}

-- where nothing was deleted, each name reads what it read
same_where_none : {D W C : Type 0} (g : Ghosts D W C) {front deleted failed : List (List ℕ)} {old new : D × ManagedNames} → Tried g front old new deleted failed → g.told.content → (g.view new.0).reads list_name ≡ (g.view old.0).reads list_name → deleted ≡ []
    → Same (g.view old.0).reads (g.view new.0).reads
same_where_none g {old = old} {new = new} t tells list none n =
    elim (is n list_name) as (λ b. is n list_name ≡ b → (g.view new.0).reads n ≡ (g.view old.0).reads n) [
      | true ↦ λ e. subst (λ m. (g.view new.0).reads m ≡ (g.view old.0).reads m) (sym (is_text n list_name e)) list
      | false ↦ λ e. t.others tells n (ap (λ l. has l n) none) (λ same. true≢false (sym (subst (λ m. is n m ≡ true) same (is_itself n)) ∙ e))
    ] refl

-- ---- the way to the end

-- what was done before the end of a collection that took these names
pub record Far {D W C : Type 0} (g : Ghosts D W C) (taken : List (List ℕ)) (old new : D × ManagedNames) : Type 0 where
  pub front : List (List ℕ)
  pub rest : List (List ℕ)
  pub deleted : List (List ℕ)
  pub failed : List (List ℕ)
  pub free : collection_at old.1.collections old.1.collections.next ≡ None
  pub split : taken ≡ front ++ rest
  pub tried : Tried g front old new deleted failed
  pub names : new.1 ≡ standing old.1 (record { untried = rest; done = deleted; failed = failed })
  pub list : g.told.content → (g.view new.0).reads list_name ≡ (g.view old.0).reads list_name
  pub quiet : (g.view new.0).faults ≡ (g.view old.0).faults
  pub safe : g.tells_images → LeavesSafely g (TriesSynced deleted (g.disk old.0) (g.disk new.0)) old new

pub far : {E D W C : Type 0} (g : Ghosts D W C) (taken : List (List ℕ)) {old began new : D × ManagedNames} (number : ℕ) → Begins taken old.1 began.1 number → OnlyReads g.told (g.view old.0) (g.view began.0) → (g.view began.0).faults ≡ (g.view old.0).faults
    → (g.tells_images → LeavesSafely g (SettlesStates {E = E} (g.disk old.0) (g.disk began.0) (Ok number)) old began)
    → ((before : ManagedNames) (names : List (List ℕ)) → began.1 ≡ standing before (begun names) → number ≡ before.collections.next → TriesSafely g before names began new) → OnlyDeletes g began new → Far g taken old new
far g taken {old} {began} {new} number begins reads calm settles tries only =
    let did = tries old.1 taken begins.names begins.numbered in
    let some = did.some in
    record {
      front = some.front;
      rest = some.rest;
      deleted = some.deleted;
      failed = some.failed;
      free = subst (λ k. collection_at old.1.collections k ≡ None) begins.numbered begins.free;
      split = some.split;
      tried = tried_then g [] _ old began new [] [] _ _ (tried_none g old began reads.kept (λ tell n other. reads.content tell n)) some.tried;
      names = some.names;
      list = λ tell. only.list tell ∙ reads.content tell list_name;
      quiet = only.faults ∙ calm;
      safe = λ tells.
          let first = settles tells in
          let second = did.safe tells in
          record {
            tracks = λ was. let tracked = first.tracks was in track_then g tracked (second.tracks tracked.tracked);
            listed = λ was. second.listed (first.listed was);
            states = tries_synced some.deleted first.states second.states;
          };
    }

-- the collection that stands then
abbrev pub last_of : {D W C : Type 0} (g : Ghosts D W C) {taken : List (List ℕ)} {old new : D × ManagedNames} → Far g taken old new → Collection
last_of g f = record { untried = f.rest; done = f.deleted; failed = f.failed }

pub at_far : {D W C : Type 0} (g : Ghosts D W C) {taken : List (List ℕ)} {old new : D × ManagedNames} (number : ℕ) → number ≡ old.1.collections.next → (f : Far g taken old new) → collection_at new.1.collections number ≡ Some (last_of g f)
at_far g {old = old} {new = new} number same f =
    ap (λ k. collection_at new.1.collections k) same
    ∙ ap (λ v. collection_at v.collections old.1.collections.next) f.names
    ∙ put_found old.1.collections.unfinished old.1.collections.next _

covers_far : {D W C : Type 0} (g : Ghosts D W C) {taken : List (List ℕ)} {old new : D × ManagedNames} → Far g taken old new → g.told.content → Covers ((g.view old.0).reads list_name) old.1 → Covers ((g.view new.0).reads list_name) new.1
covers_far g {old = old} {new = new} f tells was =
    subst (Covers ((g.view new.0).reads list_name)) (sym f.names) (covers_standing old.1 _ _ f.free (subst (λ r. Covers r old.1) (sym (f.list tells)) was))

-- where the managed names stay, none is forgotten
forgets_none : {D W C : Type 0} (g : Ghosts D W C) (old new : D × ManagedNames) → new.1.managed ≡ old.1.managed → Forgets g old new
forgets_none g old new same n h lost s of_name = absurd (true≢false (sym h ∙ ap (λ l. has l n) (sym same) ∙ lost))

-- ---- a collection that was given up

-- it wasn't begun
pub collects_none : {A E F D W C : Type 0} (g : Ghosts D W C) {old new : D × ManagedNames} {began : Result A F} (result : Result GarbageCollectionResult E) → IsErr result → Tried g [] old new [] [] → new.1 ≡ old.1 → (g.told.content → (g.view new.0).reads list_name ≡ (g.view old.0).reads list_name)
    → (g.tells_images → LeavesSafely g (SettlesStates (g.disk old.0) (g.disk new.0) began) old new) → CollectsNames g [] old new result
collects_none g {old} {new} result is t same list safe = record {
  leaves = record {
    front = [];
    rest = [];
    outcomes = [];
    split = refl;
    each = refl;
    ok = IfOk-from_err result _ is;
    err = on_err result (inl (same, refl));
    gone = λ tell n h. absurd (true≢false (sym h));
    others = λ tell n h other. t.others tell n refl other;
    spared = λ tell n h other. t.others tell n refl other;
    alive = λ tell w h l. t.alive tell w refl l;
    ended = λ tell w o h some. absurd (true≢false (sym h));
    counted = t.counted;
    calm = λ none. t.calm refl;
    fits = t.fits;
  };
  tries = IfOk-from_err result _ is;
  told = IfOk-from_err result _ is;
  saves = record {
    list = λ tells was. IfOk-from_err result _ is;
    covers = λ tells was. subst (Covers ((g.view new.0).reads list_name)) (sym same) (subst (λ r. Covers r old.1) (sym (list tells)) was);
  };
  saves_none = λ tells. IfOk-from_err result _ is;
  safe = λ tells.
      let settles = (safe tells).states in
      record {
        tracks = (safe tells).tracks;
        listed = IfOk-from_err result _ is;
        states = record { touches = settles_touch _ settles; synced = settles_synced [] _ settles; forgets = λ was. forgets_none g old new (ap (λ v. v.managed) same) };
      };
}

-- the names that are done, told otherwise
synced_as : {deleted done : List (List ℕ)} {old new : Disk} → deleted ≡ done → TriesSynced deleted old new → TriesSynced done old new
synced_as {old = old} {new = new} same tries = subst (λ l. TriesSynced l old new) same tries

-- its names weren't all tried
pub collects_far : {E D W C : Type 0} (g : Ghosts D W C) (taken : List (List ℕ)) {old new : D × ManagedNames} (result : Result GarbageCollectionResult E) → IsErr result → Far g taken old new → CollectsNames g taken old new result
unfolding leaves_of
collects_far g taken {old} {new} result is f = record {
  leaves = leaves_of g taken f.front f.rest f.deleted f.failed result f.split f.tried (IfOk-from_err result _ is) (on_err result f.names);
  tries = IfOk-from_err result _ is;
  told = IfOk-from_err result _ is;
  saves = record { list = λ tells was. IfOk-from_err result _ is; covers = λ tells was. covers_far g f tells was };
  saves_none = λ tells. IfOk-from_err result _ is;
  safe = λ tells.
      let tries = synced_as f.tried.deleted_is (f.safe tells).states in
      record { tracks = (f.safe tells).tracks; listed = IfOk-from_err result _ is; states = record { touches = tries.touches; synced = tries.synced _; forgets = λ was. forgets_none g old new (ap (λ v. v.managed) f.names) } };
}

-- the list alone was touched
list_touched : {D W C : Type 0} (g : Ghosts D W C) (done : List (List ℕ)) {left : List (List ℕ)} {old new : D × ManagedNames} → ShortensStates g left old new → TouchesOnly (AnyOrList done) (g.disk old.0) (g.disk new.0)
list_touched g done states = record {
  moments = weaker states.moments (λ p adds. record { each = λ n other s is. ⊎_elim (λ before. before) (λ q. absurd (other (inr q.0))) (adds.each n s is) });
  now = record { each = λ n other. states.now.each n (λ it. other (inr it)) };
}

-- the list was cut to the names that are left, or may have been
cut_synced : {D W C : Type 0} (g : Ghosts D W C) {taken done : List (List ℕ)} {old mid new : D × ManagedNames} (f : Far g taken old mid) → TriesSynced done (g.disk old.0) (g.disk mid.0) → ShortensStates g (without f.deleted mid.1.managed) mid new → f.deleted ≡ done
    → Throughout (IsSynced (g.disk old.0) done (list_text (without done old.1.managed))) (g.disk old.0) (g.disk new.0)
cut_synced g {done = done} {old = old} {new = new} f tries cut same =
    subst (λ left. Throughout (IsSynced (g.disk old.0) done (list_text left)) (g.disk old.0) (g.disk new.0)) (ap (λ v. without f.deleted v.managed) f.names ∙ ap (λ l. without l old.1.managed) same) (lists_synced tries cut.moments)

-- it wasn't ended
pub collects_unended : {E F D W C : Type 0} (g : Ghosts D W C) (taken : List (List ℕ)) (number : ℕ) {old mid new : D × ManagedNames} (e : F) (result : Result GarbageCollectionResult E) → IsErr result → number ≡ old.1.collections.next → Far g taken old mid
    → EndsCollection {E = F} g number mid new (Err e) → Kept g.told (g.view mid.0) (g.view new.0) → (g.tells_images → EndsSafely {A = GarbageCollectionResult} g number mid new (Err e)) → CollectsNames g taken old new result
unfolding leaves_of
collects_unended g taken number {old} {mid} {new} e result is same f ends kept ended =
    let tried = tried_on g f.tried (tried_none g mid new kept ends.others) in
    record {
      leaves = leaves_of g taken f.front f.rest f.deleted f.failed result f.split tried (IfOk-from_err result _ is) (on_err result (ends.err ∙ f.names));
      tries = IfOk-from_err result _ is;
      told = IfOk-from_err result _ is;
      saves = record { list = λ tells was. IfOk-from_err result _ is; covers = λ tells was. ends.saves.covers tells (covers_far g f tells was) };
      saves_none = λ tells. IfOk-from_err result _ is;
      safe = λ tells.
          let last = ended tells (last_of g f) (at_far g number same f) in
          let tries = synced_as tried.deleted_is (f.safe tells).states in
          record {
            tracks = λ was. let first = (f.safe tells).tracks was in track_then g first (last.tracks first.tracked);
            listed = IfOk-from_err result _ is;
            states = record {
              touches = touches_then tries.touches (list_touched g _ last.states);
              synced = cut_synced g f tries last.states tried.deleted_is;
              forgets = λ was. forgets_none g old new (ap (λ v. v.managed) (ends.err ∙ f.names));
            };
          };
    }

-- ---- a collection that came to its end

-- the names with the number given back
abbrev pub given_back : ManagedNames → ManagedNames
given_back names = record names { collections = record names.collections { next = names.collections.next - 1 } }

ended_far : {D W C : Type 0} (g : Ghosts D W C) (taken : List (List ℕ)) (number : ℕ) {old mid : D × ManagedNames} {now : ManagedNames} {result : GarbageCollectionResult} → number ≡ old.1.collections.next → (f : Far g taken old mid) → Ended number (last_of g f) mid.1 now result
    → now ≡ left_with old.1 f.deleted (old.1.collections.next + 1)
ended_far g taken number {old} {mid} {now} same f ended = ended_names old.1 now number (last_of g f) same f.free (ended.names ∙ ap (λ v. ending v number (last_of g f)) f.names)

last_names : (names now last : ManagedNames) (deleted : List (List ℕ)) → now ≡ left_with names deleted (names.collections.next + 1) → last ≡ given_back now → last ≡ record names { managed = without deleted names.managed }
last_names names now last deleted is back =
    let With : ℕ → ManagedNames = λ k. record { managed = without deleted names.managed; collections = record { unfinished = names.collections.unfinished; next = k } } in
    let once : names.collections.next + 1 - 1 ≡ names.collections.next = omega arith in
    back ∙ ap given_back is ∙ ap With once

-- the number was given back, which no unfinished collection has
pub may_give_back : {E D W C : Type 0} (g : Ghosts D W C) (taken : List (List ℕ)) (number : ℕ) {old mid new : D × ManagedNames} (result : GarbageCollectionResult) → number ≡ old.1.collections.next → Far g taken old mid → EndsCollection {E = E} g number mid new (Ok result)
    → (0 < new.1.collections.next) × (collection_at new.1.collections (new.1.collections.next - 1) ≡ None)
may_give_back g taken number {old} {mid} {new} result same f ends =
    let is = ended_far g taken number same f (ends.ok (last_of g f) (at_far g number same f)) in
    let next : old.1.collections.next + 1 - 1 ≡ old.1.collections.next = omega arith in (
      omega (arith, ap (λ v. v.collections.next) is),
      ap (λ v. collection_at v.collections (v.collections.next - 1)) is ∙ ap (λ k. collection_at old.1.collections k) next ∙ f.free,
    )

-- all names were tried
tried_all : {D W C : Type 0} (g : Ghosts D W C) (taken : List (List ℕ)) {old mid new : D × ManagedNames} (f : Far g taken old mid) → f.rest ≡ [] → Tried g [] mid new [] [] → Tried g taken old new f.deleted f.failed
tried_all g taken {old} {mid} {new} f none more =
    subst (λ names. Tried g names old new f.deleted f.failed) (sym (f.split ∙ ap (λ r. f.front ++ r) none ∙ append-nil f.front)) (tried_on g f.tried more)

pub collects_all : {E F D W C : Type 0} (g : Ghosts D W C) (taken : List (List ℕ)) (number : ℕ) {old mid : D × ManagedNames} {new : D} {now last : ManagedNames} (result : GarbageCollectionResult) → number ≡ old.1.collections.next → (f : Far g taken old mid)
    → ((d : Collection) → collection_at mid.1.collections number ≡ Some d → d.untried ≡ []) → last ≡ given_back now → Kept g.told (g.view mid.0) (g.view new) → EndsCollection {E = F} g number mid (new, now) (Ok result) → (g.tells_images → EndsSafely {E = F} g number mid (new, now) (Ok result))
    → CollectsNames {E = E} g taken old (new, last) (Ok result)
unfolding leaves_of
collects_all g taken number {old} {mid} {new} {now} {last} result same f all back kept ends ended =
    let at = at_far g number same f in
    let told = ends.ok (last_of g f) at in
    let is = ended_far g taken number same f told in
    let last_is = last_names old.1 now last f.deleted is back in
    let tried : Tried g taken old (new, last) f.deleted f.failed = tried_all g taken f (all (last_of g f) at) (tried_none g mid (new, last) kept ends.others) in
    let managed : last.managed ≡ now.managed = ap (λ v. v.managed) last_is ∙ sym (ap (λ v. v.managed) is) in
    record {
      leaves = leaves_of g taken taken [] f.deleted f.failed (Ok result) (sym (append-nil taken)) tried last_is tt;
      tries = tries_of g taken old (new, last) result (rw told.deleted last_is) (rw (told.deleted, told.failed) tried) told.apart;
      told = told.deleted ∙ tried.deleted_is;
      saves = record {
        list = λ tells was. subst (Lists ((g.view new).reads list_name)) (sym managed) (ends.saves.list tells (subst (Lists ((g.view mid.0).reads list_name)) (sym (ap (λ v. v.managed) f.names)) (subst (λ r. Lists r old.1.managed) (sym (f.list tells)) was)));
        covers = λ tells was.
            let there : Covers ((g.view new).reads list_name) (left_with old.1 f.deleted (old.1.collections.next + 1)) = subst (Covers ((g.view new).reads list_name)) is (ends.saves.covers tells (covers_far g f tells was)) in
            subst (Covers ((g.view new).reads list_name)) (sym last_is) there;
      };
      saves_none = λ tells quiet n.
          ends.saves_none tells quiet n ∙ same_where_none g f.tried tells (f.list tells) (sym told.deleted ∙ ap names_of quiet) n;
      safe = λ tells.
          let end = ended tells (last_of g f) at in
          let tries = synced_as tried.deleted_is (f.safe tells).states in
          record {
            tracks = λ was.
                let first = (f.safe tells).tracks was in
                let second = track_then g first (end.tracks first.tracked) in
                let there : IsCovered (possible_now (g.disk new)) (g.disk new).now (left_with old.1 f.deleted (old.1.collections.next + 1)) = subst (IsCovered (possible_now (g.disk new)) (g.disk new).now) is second.tracked in
                let back : IsCovered (possible_now (g.disk new)) (g.disk new).now (record (left_with old.1 f.deleted (old.1.collections.next + 1)) { collections = old.1.collections }) = covered_done (λ n h free. free) there.gone there in
                track_then g second (track_names g (subst (IsCovered (possible_now (g.disk new)) (g.disk new).now) (sym last_is) back) second.tracked);
            listed = λ was n h. end.listed ((f.safe tells).listed was) n (ap (λ l. has l n) (sym managed) ∙ h);
            states = record {
              touches = touches_then tries.touches (list_touched g _ end.states);
              synced = cut_synced g f tries end.states tried.deleted_is;
              forgets = λ was n h lost.
                  end.states.forgets ((f.safe tells).tracks was).tracked n (ap (λ v. has v.managed n) f.names ∙ h) (ap (λ l. has l n) (sym managed) ∙ lost);
            };
          };
    }
