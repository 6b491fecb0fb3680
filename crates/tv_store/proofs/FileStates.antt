-- What the calls on the files of a store leave to a crash, by what the calls on their directory leave.
use Rattle.std.proofs.Common.{◌≡◌, ◌≢◌, ◌++◌, ◌||◌, [], true, false, true≢false, ℕ, Bool, List, Result, Ok, Err, inl, refl, sym, ap, subst, ◌∙◌, arith}
use Rattle.std.specs.Prelude.{IsErr, OnOk}
use Rattle.tv_base.specs.declared.open_errors.OpenWriteError.{OpenWriteError}
use Rattle.tv_device.specs.Images.{KeepsDisk}
use Rattle.tv_device.specs.declared.directory.Directory.{Ghosts}
use Rattle.tv_formats.specs.Collections.{done_of}
use Rattle.tv_formats.specs.Disk.{Disk, possible_now}
use Rattle.tv_formats.specs.Names.{has, list_name}
use Rattle.tv_formats.proofs.CollectedNames.{done_within, has_append}
use Rattle.tv_formats.proofs.DiskLaws.{fewer_listed, fewer_within, same, started, touches_same, weaker}
use Rattle.tv_formats.proofs.Results.{no_answer, on_err, on_ok}
use Rattle.tv_machine.specs.Index.{IsFileOf}
use Rattle.tv_managed.specs.Collecting.{Among}
use Rattle.tv_managed.specs.Crashes.{AnyOrList, CollectsNames, CollectsStates, CreatesSafely, EndsSafely, LeavesSafely, SealsStates, ShortensSafely, StepsSafely}
use Rattle.tv_managed.specs.Names.{ManagedNames}
use Rattle.tv_managed.specs.Writers.{IsSummed}
use Rattle.tv_managed.specs.declared.collection.GarbageCollectionResult.{GarbageCollectionResult}
use Rattle.tv_managed.specs.declared.writer.ManagedWriter.{ManagedWriter}
use Rattle.tv_store.specs.FileStates.{CollectsSafely, OpensStates, SealsAs}
use Rattle.tv_store.specs.Kept.{FilesState, names_below}
use Rattle.tv_store.proofs.Listings.{undotted_isnt_list}
use Rattle.tv_store.proofs.Removals.{among_spares}

-- nothing was done
pub disk_same : (disk : Disk) → KeepsDisk disk disk
disk_same disk = record {
  states = record { now = λ n. refl; possible = same (possible_now disk) };
  time = record { later = omega arith; past = λ x le. same (disk.possible x); inside = λ x from to. absurd (omega arith) };
}

-- the file of a segment isn't the list
pub isnt_list_name : (name : List ℕ) → IsFileOf name → name ≢ list_name
isnt_list_name name file is = undotted_isnt_list name file.0 is

not_done : (names front rest : List (List ℕ)) (outcomes : List Bool) (n : List ℕ) → names ≡ front ++ rest → has names n ≡ false → has (done_of front outcomes) n ≡ false
not_done names front rest outcomes n split free =
    elim (has (done_of front outcomes) n) as (λ b. has (done_of front outcomes) n ≡ b → b ≡ false) [
      | true ↦ λ done.
          let there : has names n ≡ true =
          ap (λ (ns : List (List ℕ)). has ns n) split ∙ has_append front rest n ∙ ap (λ (b : Bool). b || has rest n) (done_within front outcomes n done) in
          absurd (true≢false (sym there ∙ free))
      | false ↦ λ free. refl
    ] refl

-- a call that only reads
pub read_below : {O W C : Type 0} (g : Ghosts O W C) {below old : O × ManagedNames} {new : O} → below ≡ old → KeepsDisk (g.disk below.0) (g.disk new) → KeepsDisk (g.disk old.0) (g.disk new)
read_below g {new = new} is keeps = subst (λ d. KeepsDisk (g.disk d.0) (g.disk new)) is keeps

module _ {O W C : Type 0} (g : Ghosts O W C) {below old new : O × ManagedNames} (is : below ≡ old) where
  -- a file was made, or was to be
  pub opened_below : {A : Type 0} (result : Result A OpenWriteError) {text name : List ℕ} → text ≡ name → CreatesSafely g text below new result → LeavesSafely g (OpensStates (g.disk old.0) (g.disk new.0) old.1 name) old new
  opened_below result {text} {name} named safe =
      let here = subst (λ n. CreatesSafely g n old new result) named (subst (λ d. CreatesSafely g text d new result) is safe) in
      record { tracks = here.tracks; listed = here.listed; states = record { moments = here.states.moments; now = here.states.now } }

  -- a file was sealed, or was to be
  pub sealed_below : {A B E F : Type 0} (w : ManagedWriter O W C) (sealing : Result A E) (result : Result B F) {name body : List ℕ} → (g.state_of w.writer).name ≡ name → (g.state_of w.writer).written ≡ body
      → (g.view below.0).lives w.writer ≡ true → IsSummed g.state_of w → ((P : Type 0) → OnOk sealing P → OnOk result P)
      → LeavesSafely g (SealsStates g below.0 new.0 w sealing) below new → LeavesSafely g (SealsAs (g.disk old.0) (g.disk new.0) name body result) old new
  sealed_below w sealing result {name} {body} named written lives summed handed safe =
      subst (λ d. LeavesSafely g (SealsAs (g.disk d.0) (g.disk new.0) name body result) d new) is
      (subst (λ b. LeavesSafely g (SealsAs (g.disk below.0) (g.disk new.0) name b result) below new) written
      (subst (λ n. LeavesSafely g (SealsAs (g.disk below.0) (g.disk new.0) n (g.state_of w.writer).written result) below new) named (record {
        tracks = safe.tracks;
        listed = safe.listed;
        states = record { moments = safe.states.moments summed; now = safe.states.touches.now; ok = handed _ (safe.states.stands lives summed) };
      })))

  -- a collection tried a name
  pub tried_below : {A B E F : Type 0} (number : ℕ) (says_done : A → Bool) (says : B → Bool) (x : A) (y : B) → says_done x ≡ says y → StepsSafely {E = E} says_done g number below new (Ok x) → StepsSafely {E = F} says g number old new (Ok y)
  tried_below {E = E} number says_done says x y told safe next =
      let here = subst (λ d. StepsSafely {E = E} says_done g number d new (Ok x)) is safe next in
      record {
        tracks = here.tracks;
        listed = here.listed;
        states = record {
          moments = here.states.moments;
          now = here.states.now;
          gone = λ done. here.states.gone (told ∙ done);
          refused = λ kept. here.states.refused (told ∙ kept);
          err = tt;
        };
      }

  -- or it tried none
  pub untried_below : {A B E F : Type 0} (number : ℕ) (says_done : A → Bool) (says : B → Bool) (error : E) (result : Result B F) → IsErr result → StepsSafely says_done g number below new (Err error) → StepsSafely says g number old new result
  untried_below number says_done says error result failed safe next =
      let here = subst (λ d. StepsSafely says_done g number d new (Err error)) is safe next in
      record {
        tracks = here.tracks;
        listed = here.listed;
        states = record {
          moments = here.states.moments;
          now = here.states.now;
          gone = no_answer result _ failed;
          refused = no_answer result _ failed;
          err = on_err result here.states.err;
        };
      }

  -- a collection ended, or was to
  pub ended_below : {A B E F : Type 0} (number : ℕ) (ending : Result A E) (result : Result B F) → ((P : Type 0) → OnOk ending P → OnOk result P) → EndsSafely g number below new ending → EndsSafely g number old new result
  ended_below number ending result handed safe c there =
      let here = subst (λ d. EndsSafely g number d new ending) is safe c there in
      record { tracks = here.tracks; listed = handed _ here.listed; states = here.states }

module _ {O W C : Type 0} (g : Ghosts O W C) (living : List (List ℕ)) (old new : FilesState O) where
  -- names were tried
  pub collected_below : {S E B F : Type 0} (answered : S → Type 0) (sets : S → List (List ℕ)) (names : List (List ℕ)) (below : O × ManagedNames) (collecting : Result GarbageCollectionResult E) (result : Result B F) → below ≡ names_below old
      → ((set : S) → answered set → sets set ≡ living) → ((P : Type 0) → OnOk collecting P → OnOk result P) → g.tells_images
      → CollectsNames g names below (names_below new) collecting → Among answered sets below.1 (names_below new).1 names collecting → CollectsSafely g living old new result
  collected_below answered sets names below collecting result is answers handed tells collects among =
      let leaves = collects.leaves in
      let done = done_of leaves.front leaves.outcomes in
      let safe = subst (λ d. ShortensSafely g (CollectsStates g done d (names_below new)) d (names_below new) collecting) is (collects.safe tells) in
      record {
        done = done;
        spares = λ n h. not_done names leaves.front leaves.rest leaves.outcomes n leaves.split (among_spares answered sets living names below.1 (names_below new).1 collecting n answers among h);
        leaves = record { tracks = safe.tracks; listed = handed _ safe.listed; states = safe.states };
      }

-- none was
pub collected_none : {A E O W C : Type 0} (g : Ghosts O W C) (living : List (List ℕ)) (files : FilesState O) (result : Result A E) → CollectsSafely g living files files result
collected_none g living files result =
    let disk = g.disk files.outside in
    record {
      done = [];
      spares = λ n h. refl;
      leaves = record {
        tracks = λ was. record { tracked = was; moments = started _ fewer_listed disk was.forgets_none };
        listed = on_ok result (λ was. was);
        states = record {
          touches = touches_same disk (AnyOrList []);
          synced = weaker (started _ (fewer_within (possible_now disk)) disk (record { each = λ n s is. is })) (λ p within. inl within);
          forgets = λ tracked n managed forgotten. absurd (true≢false (sym managed ∙ forgotten));
        };
      };
    }
