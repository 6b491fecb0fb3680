-- Files that a crash can't hurt, and how they go on so.
use Rattle.std.proofs.Common.{◌≡◌, ◌⊎◌, ℕ, true, List, Some, Result, Ok, Err, append-nil, is_some, refl, sym, ap, subst, ◌∙◌, inl, inr, ⊎_elim, arith}
use Rattle.std.proofs.lemmas.Result.{IfOk-weaker}
use Rattle.std.specs.Prelude.{◌∷◌, [], IfOk, OnOk}
use Rattle.std.specs.List.{flat_map}
use Rattle.tv_base.specs.declared.error.TantivyError.{TantivyError}
use Rattle.tv_crashes.specs.Stored.{HasOneState, IsSafe, IsStored, Requires, StateMeans, sealed_bytes, stored_of}
use Rattle.tv_crashes.proofs.StoredImages.{fewer_safe, safe_or}
use Rattle.tv_crashes.proofs.StoredSound.{sealed_file}
use Rattle.tv_device.specs.Images.{KeepsDisk, StandsNow}
use Rattle.tv_device.specs.View.{OnlyReads}
use Rattle.tv_device.specs.declared.directory.Directory.{Ghosts}
use Rattle.tv_formats.proofs.CollectedNames.{required_of}
use Rattle.tv_formats.proofs.DiskLaws.{at_end, fewer_listed, fewer_within, started, weaker, within_step}
use Rattle.tv_formats.proofs.Required.{required_by_one}
use Rattle.tv_formats.proofs.Results.{any_err, on_ok}
use Rattle.tv_formats.specs.Commits.{Commit, IndexForm, required_by}
use Rattle.tv_formats.specs.Disk.{Absent, Disk, DiskState, Possible, Sealed, Throughout, Unsealed, Within, possible_now}
use Rattle.tv_formats.specs.Listed.{ListsEachFile}
use Rattle.tv_formats.specs.Listing.{IsListFile}
use Rattle.tv_formats.specs.Meaning.{Means}
use Rattle.tv_formats.specs.Names.{has, is_undotted, meta_name}
use Rattle.tv_formats.specs.Segments.{all_required, segment_names}
use Rattle.tv_formats.specs.declared.segment.LiveSegment.{LiveSegment}
use Rattle.tv_machine.proofs.CollectionStates.{required_living}
use Rattle.tv_machine.proofs.HeldStates.{living_parts}
use Rattle.tv_machine.specs.Index.{IsFileOf}
use Rattle.tv_machine.specs.Living.{living}
use Rattle.tv_machine.specs.State.{Catalog, SealedFile, State, file_at}
use Rattle.tv_managed.specs.Crashes.{AreListed, IsTracked, KeepsTrack}
use Rattle.tv_managed.specs.TrackLaws.{listed_read, track_read}
use Rattle.tv_catalog.specs.Actions.{after}
use Rattle.tv_store.specs.Durable.{IsDurable, LeavesStored}
use Rattle.tv_store.specs.Kept.{FilesState, names_below}
use Rattle.tv_store.specs.Performing.{FilesHold}
use Rattle.tv_store.specs.Stays.{KeepsFiles}
use Rattle.tv_catalog.specs.declared.action.Action.{Action}
use Rattle.tv_catalog.specs.declared.action.Reply.{Reply}
use Rattle.tv_store.proofs.Listings.{undotted_isnt_list}

-- what live segments require is living
pub live_required : (s : State) (n : List ℕ) → has (all_required s.catalog.live) n ≡ true → has (living s.catalog) n ≡ true
live_required s n needed =
    let named : has (flat_map segment_names s.catalog.live) n ≡ true =
    subst (λ (segments : List (List ℕ × LiveSegment)). has (flat_map segment_names segments) n ≡ true) (append-nil s.catalog.live) (required_of s.catalog.live [] n needed) in
    grind (arith, living_parts s.catalog n, named)

-- ---- the same is stored

means_as : {form other : IndexForm} (s t : State) (meta : DiskState) → other ≡ form → t.catalog.commit ≡ s.catalog.commit → StateMeans meta (stored_of form s) → StateMeans meta (stored_of other t)
means_as s t Absent made same means = means
means_as s t Unsealed made same means = means
means_as {form} {other} s t (Sealed text) made same means =
    subst (λ (f : IndexForm). Means f.settings f.schema text t.catalog.commit) (sym made) (subst (λ (c : Commit). Means form.settings form.schema text c) (sym same) means)

-- the commit is the same, and its files have the same bytes
pub stored_as : {form other : IndexForm} {possible : Possible} (s t : State) → other ≡ form → t.catalog.commit ≡ s.catalog.commit → ((n : List ℕ) → Requires (stored_of form s) n → sealed_bytes (file_at t n) ≡ sealed_bytes (file_at s n))
    → IsStored (stored_of form s) (stored_of form s) possible → IsStored (stored_of other t) (stored_of other t) possible
stored_as {form} {other} {possible} s t made same bytes was = record {
  each = λ meta is.
      let of = ⊎_elim (λ of. of) (λ of. of) (was.each meta is) in
      inl (
        means_as s t meta made same of.0,
        record {
          each = λ n needs.
              let needed : Requires (stored_of form s) n = subst (λ (c : Commit). has (required_by (c ∷ [])) n ≡ true) same needs in
              let here = of.1.each n needed in
              (here.0, bytes n needed ∙ here.1, here.2);
        },
      );
}

-- the catalog is the same, and the same living files are sealed
pub record KeepsSealed (s t : State) : Type 0 where
  pub catalog : t.catalog ≡ s.catalog
  pub bytes : (n : List ℕ) → has (living s.catalog) n ≡ true → sealed_bytes (file_at t n) ≡ sealed_bytes (file_at s n)

pub keeps_all : (s : State) → KeepsSealed s s
keeps_all s = record { catalog = refl; bytes = λ n needed. refl }

-- what holds of each answer holds of a result's
pub any_answer : {A E : Type 0} {P : A → Type 0} (result : Result A E) → ((answer : A) → P answer) → IfOk result P
any_answer (Ok answer) each = each answer
any_answer (Err error) each = tt

-- what follows at Ok from what holds anyway
pub given_ok : {A E : Type 0} (P Q : Type 0) (result : Result A E) → P → OnOk result (P → Q) → OnOk result Q
given_ok P Q (Ok answer) p follows = follows p
given_ok P Q (Err error) p follows = tt

-- ---- the disk was only read

module _ {O W C : Type 0} (g : Ghosts O W C) (files new : FilesState O) (s : State) (d : IsDurable g files s) where
  -- what is stored was stored at each moment
  pub read_run : KeepsDisk (g.disk files.outside) (g.disk new.outside) → Throughout (IsSafe (stored_of files.form s) (stored_of files.form s)) (g.disk files.outside) (g.disk new.outside)
  read_run keeps =
      weaker (within_step keeps.time keeps.states.possible.no_more)
      (λ p within. fewer_safe _ _ (possible_now (g.disk files.outside)) p within (record { listed = d.tracked.forgets_none; stored = d.stored }))

  -- and a crash can't hurt the files still
  pub read_durable : new.form ≡ files.form → (names_below new).1 ≡ (names_below files).1 → KeepsDisk (g.disk files.outside) (g.disk new.outside) → IsDurable g new s
  read_durable made names keeps = record {
    tracked = (track_read g names keeps d.tracked).tracked;
    listed = listed_read g (names_below files) (names_below new) names keeps d.listed;
    stored = stored_as s s made refl (λ n needs. refl) (at_end (read_run keeps)).stored;
    sealed = λ n bytes needed there. keeps.states.now n ∙ d.sealed n bytes needed there;
  }

module _ {O W C : Type 0} (g : Ghosts O W C) (files : FilesState O) (s : State) (stands : StandsNow (g.view files.outside) (g.disk files.outside)) (h : FilesHold g files s) (d : IsDurable g files s) where
  -- what is stored is `meta.json`, and what the commit requires
  abbrev pub Needs : List ℕ → Type 0
  Needs n = (n ≡ meta_name) ⊎ Requires (stored_of files.form s) n

  -- living files stand as they stood
  abbrev pub Stand : FilesState O → Type 0
  Stand new = (n bytes : List ℕ) → has (living s.catalog) n ≡ true → IsFileOf n → (g.disk files.outside).now n ≡ Sealed bytes → (g.disk new.outside).now n ≡ Sealed bytes

  -- a required file has one possible state
  pub one_state : HasOneState (possible_now (g.disk files.outside)) (stored_of files.form s)
  one_state = ⊎_elim (λ of. of.1) (λ of. of.1) (d.stored.each ((g.disk files.outside).now meta_name) (stands.possible meta_name))

  -- and it is living
  pub is_living : (n : List ℕ) → Requires (stored_of files.form s) n → has (living s.catalog) n ≡ true
  is_living n needs = required_living s n (ap (λ (names : List (List ℕ)). has names n) (sym (required_by_one s.catalog.commit)) ∙ needs)

  pub is_file : (n bytes : List ℕ) → file_at s n ≡ Some (SealedFile bytes) → IsFileOf n
  is_file n bytes there = h.names n (ap is_some there)

  -- what is stored is there
  pub is_there : (n : List ℕ) → Needs n → (g.disk files.outside).now n ≡ Absent → ⊥
  is_there n (inl is) absent =
      let of = ⊎_elim (λ of. of.0) (λ of. of.0) (d.stored.each ((g.disk files.outside).now meta_name) (stands.possible meta_name)) in
      subst (λ t. StateMeans t (stored_of files.form s)) (ap (g.disk files.outside).now (sym is) ∙ absent) of
  is_there n (inr needs) absent =
      let here = one_state.each n needs in
      let e : Absent ≡ Sealed here.0 = sym absent ∙ here.2 ((g.disk files.outside).now n) (stands.possible n) in
      absurd cc

  -- and isn't the list
  pub isnt_list : (n : List ℕ) → Needs n → IsListFile n → ⊥
  isnt_list n (inl is) = undotted_isnt_list n (ap is_undotted is)
  isnt_list n (inr needs) = let here = one_state.each n needs in undotted_isnt_list n (is_file n here.0 (sealed_file (file_at s n) here.0 here.1)).0

  -- it is safe where no state of it is possible besides
  pub safe_of : {possible : Possible} → ListsEachFile possible → ((n : List ℕ) → Needs n → (t : DiskState) → possible n t → possible_now (g.disk files.outside) n t)
      → IsSafe (stored_of files.form s) (stored_of files.form s) possible
  safe_of lists within = record {
    listed = lists;
    stored = record {
      each = λ meta is.
          let of = ⊎_elim (λ of. of) (λ of. of) (d.stored.each meta (within meta_name (inl refl) meta is)) in
          inl (
            of.0,
            record {
              each = λ n needs. let here = of.1.each n needs in (here.0, here.1, λ t now. here.2 t (within n (inr needs) t now));
            },
          );
    };
  }

  pub safe_now : IsSafe (stored_of files.form s) (stored_of files.form s) (possible_now (g.disk files.outside))
  safe_now = record { listed = d.tracked.forgets_none; stored = d.stored }

  -- and so at each moment of a run
  pub safe_run : {states : Possible → Type 0} {new : Disk} → Throughout ListsEachFile (g.disk files.outside) new → Throughout states (g.disk files.outside) new
      → ((possible : Possible) → states possible → (n : List ℕ) → Needs n → (t : DiskState) → possible n t → possible_now (g.disk files.outside) n t)
      → Throughout (IsSafe (stored_of files.form s) (stored_of files.form s)) (g.disk files.outside) new
  safe_run lists runs within = record { later = lists.later; past = lists.past; each = λ x from to. safe_of (lists.each x from to) (within _ (runs.each x from to)) }

  -- one in which nothing is done
  pub safe_still : {new : Disk} → new ≡ g.disk files.outside → Throughout (IsSafe (stored_of files.form s) (stored_of files.form s)) (g.disk files.outside) new
  safe_still same = subst (λ new. Throughout (IsSafe (stored_of files.form s) (stored_of files.form s)) (g.disk files.outside) new) (sym same) (started _ (fewer_safe _ _) (g.disk files.outside) safe_now)

  -- an action that saves nothing
  pub leaves_stored : (action : Action) (new : FilesState O) (result : Result Reply TantivyError)
      → Throughout (IsSafe (stored_of files.form s) (stored_of files.form s)) (g.disk files.outside) (g.disk new.outside)
      → IfOk result (λ reply. IsDurable g new (after s action reply)) → LeavesStored g action files new s result
  leaves_stored action new result run durable = record {
    moments = λ deletes. weaker run (λ p safe. safe_or safe);
    durable = durable;
    spared = any_answer result (λ reply none. run);
    memory = any_err result (λ e is. run);
  }

  -- a crash can't hurt the files with another state, of the same commit
  pub durable_so : (new : FilesState O) (t : State) → new.form ≡ files.form → t.catalog.commit ≡ s.catalog.commit → IsTracked g (names_below new) → AreListed g (names_below new)
      → IsSafe (stored_of files.form s) (stored_of files.form s) (possible_now (g.disk new.outside)) → ((n : List ℕ) → Requires (stored_of files.form s) n → sealed_bytes (file_at t n) ≡ sealed_bytes (file_at s n))
      → ((n bytes : List ℕ) → has (all_required t.catalog.live) n ≡ true → file_at t n ≡ Some (SealedFile bytes) → (g.disk new.outside).now n ≡ Sealed bytes) → IsDurable g new t
  durable_so new t made same tracked listed safe bytes sealed = record { tracked = tracked; listed = listed; stored = stored_as s t made same bytes safe.stored; sealed = sealed }

  -- in which the same living files are sealed
  durable_then : (new : FilesState O) (t : State) → new.form ≡ files.form → KeepsSealed s t → IsTracked g (names_below new) → AreListed g (names_below new)
      → IsSafe (stored_of files.form s) (stored_of files.form s) (possible_now (g.disk new.outside)) → Stand new → IsDurable g new t
  durable_then new t made keeps tracked listed safe stood =
      durable_so new t made (ap (λ (c : Catalog). c.commit) keeps.catalog) tracked listed safe (λ n needs. keeps.bytes n (is_living n needs)) (λ n bytes needed there.
      let required : has (all_required s.catalog.live) n ≡ true = ap (λ (c : Catalog). has (all_required c.live) n) (sym keeps.catalog) ∙ needed in
      let was = sealed_file (file_at s n) bytes (sym (keeps.bytes n (live_required s n required)) ∙ ap sealed_bytes there) in
      stood n bytes (live_required s n required) (is_file n bytes was) (d.sealed n bytes required was))

  -- an action that saves nothing, and seals no file
  pub stores_on : (action : Action) (new : FilesState O) (result : Result Reply TantivyError) (states : Possible → Type 0) → new.form ≡ files.form → KeepsTrack g (names_below files) (names_below new)
      → OnOk result (AreListed g (names_below new)) → Throughout states (g.disk files.outside) (g.disk new.outside)
      → ((possible : Possible) → states possible → (n : List ℕ) → Needs n → (t : DiskState) → possible n t → possible_now (g.disk files.outside) n t)
      → Stand new → IfOk result (λ reply. KeepsSealed s (after s action reply)) → LeavesStored g action files new s result
  stores_on action new result states made tracks listed runs within stood keeps =
      let run = safe_run {states = states} tracks.moments runs within in
      leaves_stored action new result run (IfOk-weaker result _ _ (λ reply both. durable_then new (after s action reply) made both.1 tracks.tracked both.0 (at_end run) stood) (both_so _ _ result listed keeps)) where
        both_so : (P : Type 0) (Q : Reply → Type 0) (r : Result Reply TantivyError) → OnOk r P → IfOk r Q → IfOk r (λ reply. P × Q reply)
        both_so P Q (Ok reply) p q = (p, q)
        both_so P Q (Err error) p q = tt

  -- one that does nothing
  pub untouched_stored : (action : Action) (result : Result Reply TantivyError) → IfOk result (λ reply. KeepsSealed s (after s action reply)) → LeavesStored g action files files s result
  untouched_stored action result keeps =
      let disk = g.disk files.outside in
      stores_on action files result (Within (possible_now disk)) refl (record { tracked = d.tracked; moments = started _ fewer_listed disk d.tracked.forgets_none }) (on_ok result d.listed)
      (started _ (fewer_within (possible_now disk)) disk (record { each = λ n t is. is })) (λ p within n needs t is. within.each n t is) (λ n bytes needed file now. now) keeps

  -- ---- actions that only ask

  -- the disk was only read, and the names that are kept stay
  pub disk_stays : (action : Action) (new : FilesState O) (result : Result Reply TantivyError) → new.form ≡ files.form → (names_below new).1 ≡ (names_below files).1
      → KeepsDisk (g.disk files.outside) (g.disk new.outside) → IfOk result (λ reply. KeepsSealed s (after s action reply)) → LeavesStored g action files new s result
  disk_stays action new result made names keeps same =
      stores_on action new result (Within (possible_now (g.disk files.outside))) made (track_read g names keeps d.tracked) (on_ok result (listed_read g (names_below files) (names_below new) names keeps d.listed))
      (within_step keeps.time keeps.states.possible.no_more) (λ p within n needs t is. within.each n t is) (λ n bytes needed file now. keeps.states.now n ∙ now) same

  -- nor did anything else change
  pub asked_stored : (action : Action) (new : FilesState O) (result : Result Reply TantivyError) → KeepsFiles (OnlyReads g.told) g.view files new → KeepsDisk (g.disk files.outside) (g.disk new.outside)
      → IfOk result (λ reply. KeepsSealed s (after s action reply)) → LeavesStored g action files new s result
  asked_stored action new result frame keeps same =
      disk_stays action new result frame.managed.form (rw (frame.managed.names, frame.managed.collections) refl) keeps same
