-- How a step of a collection keeps track.
use Rattle.std.proofs.Common.{◌≡◌, ◌≢◌, ⊎_elim, ℕ, Bool, true, false, true≢false, ◌&&◌, ◌||◌, List, [], ◌∷◌, refl, sym, ap, subst, ◌∙◌, Some, Result, Ok, Err}
use Rattle.std.specs.Prelude.{IfOk}
use Rattle.std.proofs.lemmas.Result.{IfOk-weaker}
use Rattle.std.proofs.Math.Bool.{or-false}
use Rattle.std.proofs.lemmas.Bool.{and_parts, or_cases, or_parts}
use Rattle.tv_formats.specs.Disk.{Absent}
use Rattle.tv_formats.specs.Names.{has, is, is_plain, list_name}
use Rattle.tv_formats.specs.Collections.{Collection, Collections, collection_at, having_tried, with_collection}
use Rattle.tv_formats.proofs.Entries.{is_text}
use Rattle.tv_formats.proofs.CollectedNames.{has_append}
use Rattle.tv_formats.proofs.Results.{on_err}
use Rattle.tv_device.specs.declared.directory.Directory.{Ghosts}
use Rattle.tv_managed.specs.Collecting.{TriesName, is_done}
use Rattle.tv_managed.specs.Crashes.{KeepsTrack, LeavesSafely, TriesState, TriesStates}
use Rattle.tv_managed.specs.Names.{ManagedNames, done_names}
use Rattle.tv_managed.specs.declared.collection.CollectStep.{CollectStep}
use Rattle.tv_managed.proofs.Collections.{more_done}
use Rattle.tv_managed.proofs.Giving.{track_deleted}
use Rattle.tv_managed.proofs.Touching.{adds_run, gained_one, gained_same, keeps_same}
use Rattle.tv_managed.proofs.Tracking.{covered_done, listed_file, track_names, track_same}
use Rattle.tv_managed.specs.TrackLaws.{track_then}

-- a plain name isn't the list's
pub plain_other : (name : List ℕ) → is_plain name ≡ true → name ≢ list_name
plain_other name plain same = true≢false (sym plain ∙ ap is_plain same)

tried_done : (d : Collection) (name : List ℕ) (left : List (List ℕ)) (gone : Bool) (n : List ℕ) → has (having_tried d name left gone).done n ≡ (has d.done n || (gone && is name n))
tried_done d name left true n = has_append d.done (name ∷ []) n ∙ ap (λ b. has d.done n || b) (or-false (is name n))
tried_done d name left false n = sym (or-false (has d.done n))

-- what is done after a name was tried
pub done_after : (cs : Collections) (number : ℕ) (d : Collection) (name : List ℕ) (left : List (List ℕ)) (gone : Bool) (n : List ℕ) → collection_at cs number ≡ Some d
    → has (done_names (with_collection cs number (having_tried d name left gone))) n ≡ (has (done_names cs) n || (gone && is name n))
done_after cs number d name left gone n at = more_done cs.unfinished number d (having_tried d name left gone) n (gone && is name n) at (tried_done d name left gone n)

-- a name was tried, and that was noted
pub step_safely : {F E D W C : Type 0} (g : Ghosts D W C) (number : ℕ) (d : Collection) (name : List ℕ) (left : List (List ℕ)) (gone : Bool) {old : D × ManagedNames} {new : D} {now : ManagedNames} → TriesState {E = E} (g.disk old.0) (g.disk new) name (Ok gone) → is_plain name ≡ true
    → collection_at old.1.collections number ≡ Some d → now ≡ record old.1 { collections = with_collection old.1.collections number (having_tried d name left gone) }
    → LeavesSafely g (TriesStates {E = F} (λ it. it) (g.disk old.0) (g.disk new) name (Ok gone)) old (new, now)
step_safely g number d name left gone {old} {new} {now} tries plain at so = record {
  tracks = λ was.
      let first : KeepsTrack g old (new, old.1) = track_deleted g tries.time tries.no_more tries.stays (plain_other name plain) was in
      let later = with_collection old.1.collections number (having_tried d name left gone) in
      let second : KeepsTrack g (new, old.1) (new, record old.1 { collections = later }) = track_names g
      (covered_done
      (λ n h none. (or_parts _ _ (sym (done_after old.1.collections number d name left gone n at) ∙ none)).0)
      (λ n undotted h. ⊎_elim
      (λ before. first.tracked.gone n undotted before)
      (λ it. let two = and_parts gone (is name n) it in subst (λ m. (g.disk new).now m ≡ Absent) (is_text name n two.1) (tries.gone two.0))
      (or_cases _ _ (sym (done_after old.1.collections number d name left gone n at) ∙ h)))
      first.tracked)
      first.tracked in
      subst (λ v. KeepsTrack g old (new, v)) (sym so) (track_then g first second);
  listed = listed_file g old new now (ap (λ v. v.managed) so) tries.no_more (plain_other name plain);
  states = record {
    moments = adds_run (gained_one tries.time tries.no_more);
    now = record { each = tries.others };
    gone = tries.gone;
    refused = tries.refused;
    err = tt;
  };
}

-- no name could be tried
pub step_none : {A E F D W C : Type 0} (says_done : A → Bool) (g : Ghosts D W C) (name : List ℕ) {old new : D × ManagedNames} (e : E) (result : Result A F) → TriesState {E = E} (g.disk old.0) (g.disk new.0) name (Err e) → is_plain name ≡ true → new.1 ≡ old.1 → IfOk result (λ answer. ⊥)
    → LeavesSafely g (TriesStates says_done (g.disk old.0) (g.disk new.0) name result) old new
step_none says_done g name {old} {new} e result tries plain same none = record {
  tracks = λ was. subst (λ v. KeepsTrack g old (new.0, v)) (sym same) (track_deleted g tries.time tries.no_more tries.stays (plain_other name plain) was);
  listed = listed_file g old new.0 new.1 (ap (λ v. v.managed) same) tries.no_more (plain_other name plain);
  states = record {
    moments = adds_run (gained_one tries.time tries.no_more);
    now = record { each = tries.others };
    gone = IfOk-weaker result _ _ (λ answer h. absurd h) none;
    refused = IfOk-weaker result _ _ (λ answer h. absurd h) none;
    err = on_err result tries.err;
  };
}

-- no name was found
pub step_same : {A F D W C : Type 0} (says_done : A → Bool) (g : Ghosts D W C) (name : List ℕ) (old : D × ManagedNames) (result : Result A F) → IfOk result (λ answer. ⊥) → LeavesSafely g (TriesStates says_done (g.disk old.0) (g.disk old.0) name result) old old
step_same says_done g name old result none = record {
  tracks = track_same g;
  listed = λ was. was;
  states = record {
    moments = adds_run (gained_same _ (g.disk old.0));
    now = record { each = λ n other. refl };
    gone = IfOk-weaker result _ _ (λ answer h. absurd h) none;
    refused = IfOk-weaker result _ _ (λ answer h. absurd h) none;
    err = on_err result (keeps_same (g.disk old.0));
  };
}

-- an outcome that was noted, as a step tells it
pub step_told : {E F D W C : Type 0} (g : Ghosts D W C) (name : List ℕ) {old new : D × ManagedNames} (gone : Bool) (step : CollectStep) → is_done step ≡ gone → LeavesSafely g (TriesStates {E = E} (λ it. it) (g.disk old.0) (g.disk new.0) name (Ok gone)) old new
    → LeavesSafely g (TriesStates {E = F} is_done (g.disk old.0) (g.disk new.0) name (Ok step)) old new
step_told g name gone step same safe = record {
  tracks = safe.tracks;
  listed = safe.listed;
  states = record {
    moments = safe.states.moments;
    now = safe.states.now;
    gone = λ done. safe.states.gone (sym same ∙ done);
    refused = λ no. safe.states.refused (sym same ∙ no);
    err = tt;
  };
}

-- and where it could not be noted
pub step_wanted : {E F D W C : Type 0} (g : Ghosts D W C) (name : List ℕ) {old new : D × ManagedNames} (e : E) (result : Result CollectStep F) → IfOk result (λ step. ⊥) → LeavesSafely g (TriesStates {A = Bool} (λ it. it) (g.disk old.0) (g.disk new.0) name (Err e)) old new
    → LeavesSafely g (TriesStates is_done (g.disk old.0) (g.disk new.0) name result) old new
step_wanted g name e result none safe = record {
  tracks = safe.tracks;
  listed = safe.listed;
  states = record {
    moments = safe.states.moments;
    now = safe.states.now;
    gone = IfOk-weaker result _ _ (λ answer h. absurd h) none;
    refused = IfOk-weaker result _ _ (λ answer h. absurd h) none;
    err = on_err result safe.states.err;
  };
}

-- what trying a name gave, beside other names in memory
pub tries_named : {D W C : Type 0} (g : Ghosts D W C) {name : List ℕ} {old new : D × ManagedNames} {gone : Bool} (now : ManagedNames) (said : Bool) → said ≡ gone → TriesName g name old new gone → TriesName g name old (new.0, now) said
tries_named g {name} {old} {new} {gone} now said same t = subst (λ b. TriesName g name old (new.0, now) b) (sym same) (record {
  gone = t.gone;
  others = t.others;
  same = t.same;
  done = t.done;
  failed = t.failed;
  alive = t.alive;
  kept = t.kept;
  ended = t.ended;
  fits = t.fits;
})
