-- What a crash may leave at each moment of an opening: a sync, a wrap, a read, and a save where an index is made.
use Rattle.std.proofs.Common.{◌≡◌, ⊎_elim, inl, inr, ℕ, List, Result, Ok, Err, subst, sym}
use Rattle.std.specs.Prelude.{IfErr, IfOk, IsErr, IsErrAnd, MatchResult}
use Rattle.tv_formats.specs.Names.{meta_name}
use Rattle.tv_base.specs.Errors.{of_io}
use Rattle.tv_base.specs.declared.error.TantivyError.{TantivyError}
use Rattle.tv_base.specs.declared.error.TantivyError.TheVariants as errors
use Rattle.tv_base.specs.declared.io.IoError.{IoError}
use Rattle.tv_base.specs.declared.io.IoError.TheVariants as io
use Rattle.tv_formats.specs.Disk.{Disk, IsSettled, possible_now, Throughout}
use Rattle.tv_formats.specs.Listed.{ImagesListTheirFiles}
use Rattle.tv_formats.proofs.DiskLaws.{goes_on_run, weaker, within_step}
use Rattle.tv_formats.proofs.ListedImages.{images_list}
use Rattle.tv_formats.proofs.Results.{any_err, no_ok, on_ok}
use Rattle.tv_device.specs.Images.{KeepsDisk, Settles}
use Rattle.tv_device.specs.declared.directory.Directory.{Ghosts}
use Rattle.tv_managed.specs.Crashes.{LeavesSafely, WrapsDisk}
use Rattle.tv_managed.specs.Names.{ManagedNames}
use Rattle.tv_managed.specs.declared.managed_directory.Refused.{Refused}
use Rattle.tv_managed.specs.TrackLaws.{listed_read, track_read, track_then}
use Rattle.tv_index.specs.CrashLaws.{fewer_imaged, looks_kept, looks_make, looks_settled, looks_then, made_behind, relisted_behind, settled_within}
use Rattle.tv_index.specs.Crashes.{IsOldOrMade, IsOldOrRelisted, MakesNone, MakesSafely, MakesStates, MayMake, OnlyLooks, SavesStates, giving, TracksFrom}
use Rattle.tv_index.proofs.SavedSafely.{err_wants, of_memory}

-- an error that is handed on
pub failed_match : {A E : Type 0} (result : Result A E) (given : E) (P : A → Type 0) (Q : E → Type 0) → IsErrAnd result (λ e. e ≡ given) → Q given → MatchResult result P Q
failed_match (Ok a) given P Q h q = absurd h
failed_match (Err e) given P Q h q = subst Q (sym h) q

-- what is settled stays so behind a call that only reads
kept_settled : {old new : Disk} → KeepsDisk old new → IsSettled old → IsSettled new
kept_settled keeps was = settled_within keeps.states.possible.no_more keeps.states.now was

-- ---- a sync, a wrap and reads

module _ {D W C : Type 0} (g : Ghosts D W C) {before mid : D} where
  pub looks_further : {now : D} → OnlyLooks g before mid → KeepsDisk (g.disk mid) (g.disk now) → OnlyLooks g before now
  looks_further looks keeps = looks_then g looks (looks_kept g keeps)

  -- a directory is wrapped behind a sync that succeeded, or comes back
  pub looks_wrapped : {A E F : Type 0} (back : F → D) (x : A) → Settles {E = E} (g.disk before) (g.disk mid) (Ok x) → (result : Result (D × ManagedNames) F) → IfOk result (WrapsDisk g mid) → IfErr result (λ f. KeepsDisk (g.disk mid) (g.disk (back f)))
      → MatchResult result (λ managed. OnlyLooks g before managed.0 × TracksFrom g before managed) (λ f. OnlyLooks g before (back f))
  looks_wrapped {E = E} back x settles (Ok managed) wraps refused = (
    looks_further (looks_settled g settles) wraps.keeps,
    record {
      settled = kept_settled wraps.keeps settles.ok;
      tracked = λ images. wraps.tracked (λ file of_list. settles.ok.each file) (fewer_imaged _ _ settles.no_more images);
      listed = λ images. wraps.listed (λ file of_list. settles.ok.each file) (fewer_imaged _ _ settles.no_more images);
    },
  )
  looks_wrapped back x settles (Err f) wraps refused = looks_further (looks_settled g settles) refused

-- what the managed directory reads behind that
pub looks_read : {D W C : Type 0} (g : Ghosts D W C) {before : D} {mid now : D × ManagedNames} → OnlyLooks g before mid.0 × TracksFrom g before mid → now.1 ≡ mid.1 → KeepsDisk (g.disk mid.0) (g.disk now.0) → OnlyLooks g before now.0 × TracksFrom g before now
looks_read g {mid = mid} {now = now} looks names keeps = (
  looks_further g looks.0 keeps,
  record {
    settled = kept_settled keeps looks.1.settled;
    tracked = λ images. (track_read g names keeps (looks.1.tracked images)).tracked;
    listed = λ images. listed_read g mid now names keeps (looks.1.listed images);
  },
)

-- ---- a save

module _ {D W C : Type 0} (g : Ghosts D W C) (text : List ℕ) where
  -- a read of the directory
  pub makes_read : {A : Type 0} {old new : D × ManagedNames} (made : Type 0) (result : Result A TantivyError) → new.1 ≡ old.1 → KeepsDisk (g.disk old.0) (g.disk new.0) → LeavesSafely g (MakesStates (g.disk old.0) (g.disk new.0) made text result) old new
  makes_read {old = old} {new = new} made result names keeps = record {
    tracks = track_read g names keeps;
    listed = listed_read g old new names keeps;
    states = record {
      moments = weaker (within_step keeps.time keeps.states.possible.no_more) (λ p within. inl within);
      memory = any_err result (λ e is. weaker (within_step keeps.time keeps.states.possible.no_more) (λ p within. inl within));
      settled = on_ok result (kept_settled keeps);
    };
  }

  module _ {B : Type 0} {old new : D × ManagedNames} (made : Type 0) (is_so : made) where
    moments_saved : {E : Type 0} {wanted : E} {result : Result B E} → LeavesSafely g (SavesStates (g.disk old.0) (g.disk new.0) old.1 (giving meta_name text) wanted result) old new → Throughout (IsOldOrMade made (g.disk old.0) text) (g.disk old.0) (g.disk new.0)
    moments_saved safe =
        weaker safe.states.moments (λ p states. ⊎_elim inl
        (λ gains. inr (record { each = λ n s is. ⊎_elim inl (λ given. inr (is_so, ⊎_elim inl (λ listed. inr listed.0.0) given)) (gains.each n s is) })) states)

    -- the text was saved
    pub makes_saved : {A : Type 0} (a : A) (b : B) → LeavesSafely g (SavesStates (g.disk old.0) (g.disk new.0) old.1 (giving meta_name text) io.Memory (Ok b)) old new → LeavesSafely g (MakesStates (g.disk old.0) (g.disk new.0) made text (Ok a)) old new
    makes_saved a b safe = record {
      tracks = safe.tracks;
      listed = safe.listed;
      states = record { moments = moments_saved {result = Ok b} safe; memory = tt; settled = λ was. safe.states.kept.0 };
    }

    -- or that failed
    pub makes_unsaved : {A : Type 0} (error : IoError) (result : Result A TantivyError) → IsErr result → IsErrAnd result (λ e. e ≡ of_io error) → LeavesSafely g (SavesStates {A = B} (g.disk old.0) (g.disk new.0) old.1 (giving meta_name text) io.Memory (Err error)) old new
        → LeavesSafely g (MakesStates (g.disk old.0) (g.disk new.0) made text result) old new
    makes_unsaved error result failed same safe = record {
      tracks = safe.tracks;
      listed = safe.listed;
      states = record {
        moments = moments_saved {result = Err error} safe;
        memory = err_wants result (of_io error) errors.Memory _ same (λ wants.
            weaker (safe.states.memory (of_memory error wants)) (λ p states. ⊎_elim inl
            (λ gains. inr (record { each = λ n s is. ⊎_elim inl (λ listed. inr (is_so, listed.0.0)) (gains.each n s is) })) states));
        settled = no_ok _ result failed;
      };
    }

  -- and what is made behind a read of the managed directory
  pub makes_behind : {A : Type 0} {old mid new : D × ManagedNames} (made making : Type 0) (result : Result A TantivyError) → (made → making) → mid.1 ≡ old.1 → KeepsDisk (g.disk old.0) (g.disk mid.0) → LeavesSafely g (MakesStates (g.disk mid.0) (g.disk new.0) made text result) mid new
      → LeavesSafely g (MakesStates (g.disk old.0) (g.disk new.0) making text result) old new
  makes_behind {A = A} {old = old} {mid = mid} {new = new} made making result so names keeps safe = record {
    tracks = λ was. let first = track_read g names keeps was in track_then g first (safe.tracks first.tracked);
    listed = λ was. safe.listed (listed_read g old mid names keeps was);
    states = behind result safe.states;
  } where
    moments : Throughout (IsOldOrMade made (g.disk mid.0) text) (g.disk mid.0) (g.disk new.0) → Throughout (IsOldOrMade making (g.disk old.0) text) (g.disk old.0) (g.disk new.0)
    moments run = made_behind text so (within_step keeps.time keeps.states.possible.no_more) keeps.states.now run

    memory : Throughout (IsOldOrRelisted made (g.disk mid.0)) (g.disk mid.0) (g.disk new.0) → Throughout (IsOldOrRelisted making (g.disk old.0)) (g.disk old.0) (g.disk new.0)
    memory run = relisted_behind so (within_step keeps.time keeps.states.possible.no_more) keeps.states.now run

    behind : (r : Result A TantivyError) → MakesStates (g.disk mid.0) (g.disk new.0) made text r → MakesStates (g.disk old.0) (g.disk new.0) making text r
    behind (Ok a) states = record { moments = moments states.moments; memory = tt; settled = λ was. states.settled (kept_settled keeps was) }
    behind (Err e) states = record { moments = moments states.moments; memory = λ is. memory (states.memory is); settled = tt }

  -- the opening made nothing
  pub made_none : {before now : D} (made : Type 0) (error : TantivyError) → OnlyLooks g before now → MakesNone g made text before now error
  made_none made error looks = record { makes = looks_make g text made looks; memory = λ is. weaker looks.moments (λ p within. inl within) }

  -- the directory was wrapped, and then an index may have been made
  module _ {A : Type 0} {before : D} {mid new : D × ManagedNames} (made making : Type 0) (so : made → making) (looks : OnlyLooks g before mid.0) (tracks : TracksFrom g before mid) where
    made_so : {result : Result A TantivyError} → LeavesSafely g (MakesStates (g.disk mid.0) (g.disk new.0) made text result) mid new → MayMake g making text before new.0
    made_so safe = record {
      moments = made_behind text so looks.moments looks.stands safe.states.moments;
      listed = λ images.
          goes_on_run ImagesListTheirFiles fewer_imaged (weaker looks.moments (λ p within. fewer_imaged (possible_now (g.disk before)) p within images))
          (weaker (safe.tracks (tracks.tracked images)).moments (λ p listed. images_list listed));
    }

    -- it is open
    pub made_opened : (a : A) → LeavesSafely g (MakesStates (g.disk mid.0) (g.disk new.0) made text (Ok a)) mid new → MayMake g making text before new.0 × TracksFrom g before new
    made_opened a safe = (
      made_so {result = Ok a} safe,
      record {
        settled = safe.states.settled tracks.settled;
        tracked = λ images. (safe.tracks (tracks.tracked images)).tracked;
        listed = λ images. safe.listed (tracks.listed images);
      },
    )

    -- it isn't
    pub made_refused : (error : TantivyError) → LeavesSafely g (MakesStates {A = A} (g.disk mid.0) (g.disk new.0) made text (Err error)) mid new → MakesNone g making text before new.0 error
    made_refused error safe = record {
      makes = made_so {result = Err error} safe;
      memory = λ is. relisted_behind so looks.moments looks.stands (safe.states.memory is);
    }

-- what was opened is settled
pub opened_settled : {A D W C : Type 0} (g : Ghosts D W C) (made : Type 0) (text : List ℕ) (before : D) (opened : A → D × ManagedNames) (result : Result A (Refused D)) → MakesSafely g made text before opened result → IfOk result (λ a. IsSettled (g.disk (opened a).0))
opened_settled g made text before opened (Ok a) safe = safe.1.settled
opened_settled g made text before opened (Err refused) safe = tt
