-- How the calls that make, write, seal and delete a file keep track.
use Rattle.std.proofs.Common.{◌≡◌, ◌≢◌, inl, inr, ℕ, true, false, true≢false, List, Option, None, refl, sym, ap, subst, ◌∙◌, Result, Ok, Err}
use borrow.Table.Steps.{cases}
use Rattle.tv_formats.specs.Disk.{DiskState, Absent, Unsealed, Sealed, Disk, possible_now, MayRead, MayAdd, Elapses, IsSettled, OnlyMoves, Throughout}
use Rattle.tv_formats.proofs.DiskLaws.{at_end, fewer_listed, weaker, within_step}
use Rattle.std.specs.Prelude.{IfErr, OnOk}
use Rattle.tv_formats.specs.Names.{has, is, is_undotted, list_name}
use Rattle.tv_formats.proofs.Entries.{is_itself, is_text}
use Rattle.tv_base.specs.Causes.{IoCause, OpenWriteCause}
use Rattle.tv_base.specs.declared.io.IoError.{IoError}
use Rattle.tv_base.specs.declared.io.IoError.TheVariants as io
use Rattle.tv_base.specs.declared.open_errors.OpenWriteError.{OpenWriteError}
use Rattle.tv_base.specs.declared.open_errors.OpenWriteError.TheVariants as write
use Rattle.tv_base.specs.declared.open_errors.DeleteError.{DeleteError}
use Rattle.tv_base.specs.declared.open_errors.DeleteError.TheVariants as delete
use Rattle.tv_device.specs.Images.{DeletesState, GivesState, KeepsDisk, KeepsOtherStates, Settles}
use Rattle.tv_device.specs.declared.directory.Directory.{Ghosts}
use Rattle.tv_managed.specs.Crashes.{CreatesSafely, Gains, GivesSafely, IsCovered, IsFree, IsGiven, IsNewList, IsTracked, KeepsTrack, LeavesSafely, ListsName, OrItsList, SettlesStates}
use Rattle.tv_managed.specs.Managed.{registering}
use Rattle.tv_managed.specs.Names.{ManagedNames, done_names}
use Rattle.tv_managed.proofs.Listing.{has_registered}
use Rattle.tv_managed.specs.TrackLaws.{covered_within, track_then, within_then}
use Rattle.tv_managed.proofs.Touching.{gained_more, gained_none, gained_one, gained_then}
use Rattle.tv_managed.proofs.Tracking.{listed_by_file, track_file, track_from}

-- a call that only reads, and begins with the struct taken apart
pub read_from : {D W C : Type 0} (g : Ghosts D W C) {old inside new : D × ManagedNames} → inside ≡ old → LeavesSafely g (KeepsDisk (g.disk inside.0) (g.disk new.0)) inside new → LeavesSafely g (KeepsDisk (g.disk old.0) (g.disk new.0)) old new
read_from g {new = new} same safe = subst (λ v. LeavesSafely g (KeepsDisk (g.disk v.0) (g.disk new.0)) v new) same safe

-- a file that is managed and not done is made, or given its bytes
pub track_given : {D W C : Type 0} (g : Ghosts D W C) {old : D × ManagedNames} {new : D} {name : List ℕ} {state : DiskState} → Elapses (g.disk old.0) (g.disk new) → MayAdd (possible_now (g.disk old.0)) (possible_now (g.disk new)) name state → KeepsOtherStates (g.disk old.0) (g.disk new) name
    → name ≢ list_name → (is_undotted name ≡ true → (has old.1.managed name ≡ true) × (has (done_names old.1.collections) name ≡ false)) → IsTracked g old → KeepsTrack g old (new, old.1)
track_given g {old} time adds others other on was =
    track_file g time adds other (λ undotted there. on undotted)
    (λ n undotted h. others n (λ same. true≢false (sym h ∙ ap (has (done_names old.1.collections)) same ∙ (on (ap is_undotted (sym same) ∙ undotted)).1)) ∙ was.gone n undotted h)
    was

-- ---- deletes

-- what is absent stays so
pub deleted_stays : {A : Type 0} (result : Result A DeleteError) (old new : Disk) (name : List ℕ) → DeletesState old new name result → (n : List ℕ) → old.now n ≡ Absent → new.now n ≡ Absent
deleted_stays (Ok x) old new name deletes n absent = cases (is n name)
    (λ e. ap new.now (is_text n name e) ∙ deletes.ok.1.now)
    (λ e. deletes.ok.1.others n (λ same. true≢false (sym (subst (λ m. is n m ≡ true) same (is_itself n)) ∙ e)) ∙ absent)
deleted_stays (Err (delete.FileDoesNotExist path)) old new name deletes n absent = deletes.err.1.1.now n ∙ absent
deleted_stays (Err (delete.IoError fault path)) old new name deletes n absent = deletes.err.2.now n ∙ absent
deleted_stays (Err delete.Memory) old new name deletes n absent = deletes.err.now n ∙ absent

-- a delete keeps track
pub track_deleted : {D W C : Type 0} (g : Ghosts D W C) {old : D × ManagedNames} {new : D} {name : List ℕ} → Elapses (g.disk old.0) (g.disk new) → MayAdd (possible_now (g.disk old.0)) (possible_now (g.disk new)) name Absent
    → ((n : List ℕ) → (g.disk old.0).now n ≡ Absent → (g.disk new).now n ≡ Absent) → name ≢ list_name → IsTracked g old → KeepsTrack g old (new, old.1)
track_deleted g time adds stays other was = track_file g time adds other (λ undotted there. absurd there) (λ n undotted h. stays n (was.gone n undotted h)) was

-- ---- states of a file and of the list

-- At each moment a name may be in this state, and the list may have the name; other files stand as they stood.
pub record GivenSo (old new : Disk) (names : ManagedNames) (name : List ℕ) (state : DiskState) : Type 0 where
  pub moments : Throughout (Gains (IsGiven names name state) (possible_now old)) old new
  pub now : OnlyMoves (OrItsList names name) old new

-- a name is listed, and then its file is made, or given its bytes, by a call that begins with the struct taken apart
pub given_safely : {D W C : Type 0} (g : Ghosts D W C) {old listed inside : D × ManagedNames} {new : D} {name : List ℕ} {state : DiskState} → ListsName g old listed name → inside ≡ listed → listed.1 ≡ registering old.1 name → name ≢ list_name
    → (is_undotted name ≡ true → has (done_names old.1.collections) name ≡ false) → Elapses (g.disk inside.0) (g.disk new) → MayAdd (possible_now (g.disk inside.0)) (possible_now (g.disk new)) name state → KeepsOtherStates (g.disk inside.0) (g.disk new) name
    → LeavesSafely g (GivenSo (g.disk old.0) (g.disk new) old.1 name state) old (new, inside.1)
given_safely g {old} {inside = inside} {new} {name} {state} lists same names other free time adds others =
    let on : is_undotted name ≡ true → (has inside.1.managed name ≡ true) × (has (done_names inside.1.collections) name ≡ false) = λ undotted. (
      ap (λ v. has v.1.managed name) same ∙ ap (λ v. has v.managed name) names ∙ has_registered old.1.managed name undotted,
      ap (λ v. has (done_names v.1.collections) name) same ∙ ap (λ v. has (done_names v.collections) name) names ∙ free undotted,
    ) in
    record {
      tracks = λ was. let first = lists.tracks was in track_then g first (track_from g same (track_given g time adds others other on) first.tracked);
      listed = λ was. listed_by_file g {inside = inside} {new = new} same adds other (lists.listed was);
      states = record {
        moments = gained_then (gained_more (λ n s it. inr it) lists.moments)
            (gained_more (λ n s it. inl it) (gained_one (subst (λ v. Elapses (g.disk v.0) (g.disk new)) same time) (subst (λ v. MayAdd (possible_now (g.disk v.0)) (possible_now (g.disk new)) name state) same adds)));
        now = record { each = λ n untouched. others n (λ e. untouched (inl e)) ∙ ap (λ v. (g.disk v.0).now n) same ∙ lists.now.each n (λ e. untouched (inr e)) };
      };
    }

-- the name was listed alone, or not even that
pub listed_safely : {D W C : Type 0} (g : Ghosts D W C) (state : DiskState) {old new : D × ManagedNames} {name : List ℕ} → ListsName g old new name → LeavesSafely g (GivenSo (g.disk old.0) (g.disk new.0) old.1 name state) old new
listed_safely g state lists = record {
  tracks = lists.tracks;
  listed = lists.listed;
  states = record { moments = gained_more (λ n s it. inr it) lists.moments; now = record { each = λ n other. lists.now.each n (λ e. other (inr e)) } };
}

-- the list alone gained a state
abbrev pub GainsList : Disk → Disk → ManagedNames → List ℕ → Type 0
GainsList old new names name = Throughout (Gains (IsNewList names name) (possible_now old)) old new

-- so it is behind a call that changed nothing, and begins with the struct taken apart
pub gains_still : {D W C : Type 0} (g : Ghosts D W C) {old listed inside : D × ManagedNames} {new : D} {name : List ℕ} → ListsName g old listed name → inside ≡ listed → KeepsDisk (g.disk inside.0) (g.disk new) → GainsList (g.disk old.0) (g.disk new) old.1 name
gains_still g {new = new} lists same keeps = gained_then lists.moments (gained_none _ (subst (λ v. KeepsDisk (g.disk v.0) (g.disk new)) same keeps))

-- ---- a name that is given its bytes

pub gives_safely : {A D W C : Type 0} (g : Ghosts D W C) {old new : D × ManagedNames} {name : List ℕ} {state : DiskState} {result : Result A IoError} → LeavesSafely g (GivenSo (g.disk old.0) (g.disk new.0) old.1 name state) old new
    → IfErr result (IoCause (Unit {0}) (GainsList (g.disk old.0) (g.disk new.0) old.1 name)) → OnOk result ((g.disk new.0).now name ≡ state) → GivesSafely g name state old new result
gives_safely g safe memory stands = record {
  tracks = safe.tracks;
  listed = safe.listed;
  states = record { moments = safe.states.moments; now = safe.states.now; memory = memory; stands = stands };
}

-- an error of the call that lists the name
pub wanted_list : {X : Type 0} (refused quiet : Type 0) (e : IoError) → IoCause refused quiet e → X → IoCause (Unit {0}) X e
wanted_list refused quiet (io.Fault fault) h x = (h.0, tt)
wanted_list refused quiet io.Memory h x = x

-- and of the one behind it
pub wanted_given : {A D W C : Type 0} (g : Ghosts D W C) {old listed inside : D × ManagedNames} {new : D} {name : List ℕ} {state : DiskState} (result : Result A IoError) → ListsName g old listed name → inside ≡ listed → GivesState (g.disk inside.0) (g.disk new) name state result
    → IfErr result (IoCause (Unit {0}) (GainsList (g.disk old.0) (g.disk new) old.1 name))
wanted_given g (Ok x) lists same gives = tt
wanted_given g (Err (io.Fault fault)) lists same gives = (gives.err.0, tt)
wanted_given g (Err io.Memory) lists same gives = gains_still g lists same (record { states = gives.err; time = gives.time })

-- ---- a file that is made

-- what doesn't read has no file
pub absent_unread : (s : DiskState) (read : Option (List ℕ)) → MayRead s read → read ≡ None → s ≡ Absent
absent_unread Absent read may none = refl
absent_unread Unsealed read may none = absurd (cc (none, may))
absent_unread (Sealed bytes) read may none = absurd (cc (none, may))

pub creates_safely : {A D W C : Type 0} (g : Ghosts D W C) {old new : D × ManagedNames} {name : List ℕ} {result : Result A OpenWriteError} → LeavesSafely g (GivenSo (g.disk old.0) (g.disk new.0) old.1 name Unsealed) old new → IsFree (g.disk old.0) old.1 name
    → IfErr result (λ e. e ≡ write.Memory → GainsList (g.disk old.0) (g.disk new.0) old.1 name) → OnOk result ((g.disk new.0).now name ≡ Unsealed) → CreatesSafely g name old new result
creates_safely g safe free memory stands = record {
  tracks = safe.tracks;
  listed = safe.listed;
  states = record {
    moments = gained_more (λ n s it. (free, it)) safe.states.moments;
    now = record { each = λ n other. safe.states.now.each n (λ it. other (free, it)) };
    memory = memory;
    stands = stands;
  };
}

-- what holds where memory was wanted
pub wanted_opened : (name : List ℕ) (there refused quiet : Type 0) {e : OpenWriteError} → OpenWriteCause name there refused quiet e → e ≡ write.Memory → quiet
wanted_opened name there refused quiet h memory = subst (OpenWriteCause name there refused quiet) memory h

-- ---- states of which there are no more

-- behind a call that only read
pub settles_asked : {A E : Type 0} {old asked new : Disk} {result : Result A E} → KeepsDisk old asked → SettlesStates asked new result → SettlesStates old new result
settles_asked asks settles = record { moments = within_then (within_step asks.time asks.states.possible.no_more) settles.moments; now = λ n. settles.now n ∙ asks.states.now n; ok = settles.ok }

pub settles_none : {A E : Type 0} {old asked : Disk} {result : Result A E} → KeepsDisk old asked → OnOk result (IsSettled asked) → SettlesStates old asked result
settles_none asks ok = record { moments = within_step asks.time asks.states.possible.no_more; now = asks.states.now; ok = ok }

-- behind a sync
pub settled_so : {A E B F : Type 0} {old new : Disk} {synced : Result B F} {result : Result A E} → Settles old new synced → OnOk result (IsSettled new) → SettlesStates old new result
settled_so sync ok = record { moments = within_step sync.time sync.no_more; now = sync.now; ok = ok }

-- and track is kept
pub track_settles : {A E D W C : Type 0} (g : Ghosts D W C) {old new : D × ManagedNames} {result : Result A E} → SettlesStates (g.disk old.0) (g.disk new.0) result → IsCovered (possible_now (g.disk new.0)) (g.disk new.0).now new.1 → IsTracked g old → KeepsTrack g old new
track_settles g settles now was = record { tracked = now; moments = weaker settles.moments (λ p within. fewer_listed _ p within was.forgets_none) }

pub covered_settles : {A E D W C : Type 0} (g : Ghosts D W C) {old : D × ManagedNames} (new : D × ManagedNames) {result : Result A E} → SettlesStates (g.disk old.0) (g.disk new.0) result → IsTracked g old → IsCovered (possible_now (g.disk new.0)) (g.disk new.0).now old.1
covered_settles g new settles was = covered_within (at_end settles.moments) (λ n undotted h. settles.now n ∙ was.gone n undotted h) was
