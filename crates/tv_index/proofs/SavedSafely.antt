-- What a crash may leave at each moment of a save: a sync, a write and a sync, one after the other.
use Rattle.std.proofs.Common.{◌≡◌, ⊎_elim, inl, inr, ℕ, List, Result, Ok, Err, refl, sym, subst, ◌∙◌}
use Rattle.std.specs.Prelude.{IfErr, IsErr, IsErrAnd, OnOk}
use Rattle.tv_base.specs.Errors.{of_io}
use Rattle.tv_base.specs.declared.error.TantivyError.{TantivyError}
use Rattle.tv_base.specs.declared.error.TantivyError.TheVariants as errors
use Rattle.tv_base.specs.declared.io.IoError.{IoError}
use Rattle.tv_base.specs.declared.io.IoError.TheVariants as io
use Rattle.tv_base.specs.declared.io.IoFault.{IoFault}
use Rattle.tv_base.specs.Causes.{IoCause}
use Rattle.tv_formats.specs.Disk.{Sealed, Disk, possible_now, IsSettled, Throughout}
use Rattle.tv_formats.specs.Listed.{ListsEachFile}
use Rattle.tv_formats.specs.Names.{meta_name}
use Rattle.tv_formats.proofs.DiskLaws.{HoldsOfFewer, at_end, fewer_listed, fewer_within, goes_on_run, started, weaker, within_step}
use Rattle.tv_formats.proofs.Results.{any_err, no_ok}
use Rattle.tv_device.specs.Images.{Settles}
use Rattle.tv_device.specs.declared.directory.Directory.{Ghosts}
use Rattle.tv_managed.specs.Crashes.{AreListed, Gains, GivesSafely, GivesStates, IsNewList, IsTracked, KeepsTrack, LeavesSafely}
use Rattle.tv_managed.specs.Names.{ManagedNames}
use Rattle.tv_managed.specs.TrackLaws.{track_then}
use Rattle.tv_index.specs.Crashes.{IsOldOrListed, IsOldOrSaved, SavesStates, giving}
use Rattle.tv_index.specs.Laws.{HoldsNoOtherMeta}
use Rattle.tv_index.proofs.PlainFiles.{plain_isnt_list}

fewer_saved : (old : Disk) (names : ManagedNames) (file text : List ℕ) → HoldsOfFewer (IsOldOrSaved old names file text)
fewer_saved old names file text before after within was =
    ⊎_elim (λ no_more. inl (fewer_within (possible_now old) before after within no_more)) (λ gains. inr (record { each = λ n s is. gains.each n s (within.each n s is) })) was

fewer_put : (old : Disk) (names : ManagedNames) (file : List ℕ) → HoldsOfFewer (IsOldOrListed old names file)
fewer_put old names file before after within was =
    ⊎_elim (λ no_more. inl (fewer_within (possible_now old) before after within no_more)) (λ gains. inr (record { each = λ n s is. gains.each n s (within.each n s is) })) was

-- a sync adds no state
synced : {A E : Type 0} {old new : Disk} {result : Result A E} (names : ManagedNames) (file text : List ℕ) → Settles old new result → Throughout (IsOldOrSaved old names file text) old new
synced names file text settles = weaker (within_step settles.time settles.no_more) (λ p within. inl within)

synced_none : {A E : Type 0} {old new : Disk} {result : Result A E} (names : ManagedNames) (file : List ℕ) → Settles old new result → Throughout (IsOldOrListed old names file) old new
synced_none names file settles = weaker (within_step settles.time settles.no_more) (λ p within. inl within)

-- the write behind a sync that succeeded adds the text
written : {A E B : Type 0} {old mid new : Disk} {x : A} {result : Result B IoError} (names : ManagedNames) (file text : List ℕ) → Settles {E = E} old mid (Ok x) → GivesStates mid new names file (Sealed text) result → Throughout (IsOldOrSaved old names file text) old new
written {E = E} {old = old} {mid = mid} {x = x} names file text settles gives =
    goes_on_run _ (fewer_saved old names file text) (synced {E = E} {result = Ok x} names file text settles)
    (weaker gives.moments (λ p gains. inr (record { each = λ n s is. ⊎_elim (λ before. inl (settles.ok.each n s before ∙ settles.now n)) (λ given. inr given) (gains.each n s is) })))

-- where memory was wanted, it adds the list alone
put : {A E : Type 0} {old mid new : Disk} {x : A} (names : ManagedNames) (file : List ℕ) → Settles {E = E} old mid (Ok x) → Throughout (Gains (IsNewList names file) (possible_now mid)) mid new → Throughout (IsOldOrListed old names file) old new
put {E = E} {old = old} {mid = mid} {x = x} names file settles run =
    goes_on_run _ (fewer_put old names file) (synced_none {E = E} {result = Ok x} names file settles)
    (weaker run (λ p gains. inr (record { each = λ n s is. ⊎_elim (λ before. inl (settles.ok.each n s before ∙ settles.now n)) (λ given. inr given) (gains.each n s is) })))

-- and the sync behind it adds none
resynced : {A E : Type 0} {old mid new : Disk} {result : Result A E} (names : ManagedNames) (file text : List ℕ) → Throughout (IsOldOrSaved old names file text) old mid → Settles mid new result → Throughout (IsOldOrSaved old names file text) old new
resynced {old = old} {mid = mid} names file text so_far settles =
    goes_on_run _ (fewer_saved old names file text) so_far (weaker (within_step settles.time settles.no_more) (λ p within. fewer_saved old names file text (possible_now mid) p within (at_end so_far)))

-- ---- the whole save

-- a fact of the error in which memory was wanted
pub err_wants : {A E : Type 0} (result : Result A E) (error wanted : E) (P : Type 0) → IsErrAnd result (λ e. e ≡ error) → (error ≡ wanted → P) → IfErr result (λ e. e ≡ wanted → P)
err_wants (Ok a) error wanted P same f = tt
err_wants (Err e) error wanted P same f = λ is. f (sym same ∙ is)

unless_fault : {P : Type 0} (fault : IoFault) → io.Fault fault ≡ io.Memory → P
unless_fault fault is = absurd cc

where_wanted : (P Q : Type 0) (error : IoError) → IoCause P Q error → error ≡ io.Memory → Q
where_wanted P Q error cause is = subst (IoCause P Q) is cause

pub of_memory : (error : IoError) → of_io error ≡ errors.Memory → error ≡ io.Memory
of_memory (io.Fault fault) is = absurd cc
of_memory io.Memory is = refl

module _ {D W C : Type 0} (g : Ghosts D W C) (file text : List ℕ) where
  -- nothing was done
  pub saves_none : {A E : Type 0} {old : D × ManagedNames} (wanted : E) (result : Result A E) → IsErr result → LeavesSafely g (SavesStates (g.disk old.0) (g.disk old.0) old.1 (giving file text) wanted result) old old
  saves_none {old = old} wanted result failed = record {
    tracks = λ was. record { tracked = was; moments = started ListsEachFile fewer_listed (g.disk old.0) was.forgets_none };
    listed = λ was. was;
    states = record {
      moments = started _ (fewer_saved (g.disk old.0) old.1 file text) (g.disk old.0) (inl (record { each = λ n s is. is }));
      now = record { each = λ n other. refl };
      memory = any_err result (λ e is. started _ (fewer_put (g.disk old.0) old.1 file) (g.disk old.0) (inl (record { each = λ n s is. is })));
      kept = no_ok _ result failed;
    };
  }

  -- the first sync was refused
  pub saves_unsynced : {A B E F : Type 0} {old new : D × ManagedNames} {first : Result B F} (wanted : E) (result : Result A E) → IsErr result → LeavesSafely g (Settles (g.disk old.0) (g.disk new.0) first) old new
      → LeavesSafely g (SavesStates (g.disk old.0) (g.disk new.0) old.1 (giving file text) wanted result) old new
  saves_unsynced {old = old} wanted result failed sync = record {
    tracks = sync.tracks;
    listed = sync.listed;
    states = record {
      moments = synced old.1 file text sync.states;
      now = record { each = λ n other. sync.states.now n };
      memory = any_err result (λ e is. synced_none old.1 file sync.states);
      kept = no_ok _ result failed;
    };
  }

  module _ {X B G : Type 0} {old mid now : D × ManagedNames} {x : X} {wrote : Result B IoError} (sync : LeavesSafely g (Settles {E = G} (g.disk old.0) (g.disk mid.0) (Ok x)) old mid) (names : mid.1 ≡ old.1)
      (write : GivesSafely g file (Sealed text) mid now wrote) where
    gives : GivesStates (g.disk mid.0) (g.disk now.0) old.1 file (Sealed text) wrote
    gives = subst (λ v. GivesStates (g.disk mid.0) (g.disk now.0) v file (Sealed text) wrote) names write.states

    tracked : IsTracked g old → KeepsTrack g old now
    tracked was = let first = sync.tracks was in track_then g first (write.tracks first.tracked)

    listed : AreListed g old → AreListed g now
    listed was = write.listed (sync.listed was)

    unsaved : {A E : Type 0} (wanted : E) (result : Result A E) → IsErr result → IfErr result (λ e. e ≡ wanted → Throughout (IsOldOrListed (g.disk old.0) old.1 file) (g.disk old.0) (g.disk now.0)) → LeavesSafely g (SavesStates (g.disk old.0) (g.disk now.0) old.1 (giving file text) wanted result) old now
    unsaved wanted result failed memory = record {
      tracks = tracked;
      listed = listed;
      states = record {
        moments = written old.1 file text sync.states gives;
        now = record { each = λ n other. gives.now.each n other ∙ sync.states.now n };
        memory = memory;
        kept = no_ok _ result failed;
      };
    }

    resaved : {A E H I : Type 0} {new : D × ManagedNames} {last : Result H I} (wanted : E) (result : Result A E) → LeavesSafely g (Settles (g.disk now.0) (g.disk new.0) last) now new
        → IfErr result (λ e. e ≡ wanted → Throughout (IsOldOrListed (g.disk old.0) old.1 file) (g.disk old.0) (g.disk new.0)) → OnOk result (IsSettled (g.disk new.0) × ((g.disk new.0).now file ≡ Sealed text))
        → LeavesSafely g (SavesStates (g.disk old.0) (g.disk new.0) old.1 (giving file text) wanted result) old new
    resaved wanted result again memory kept = record {
      tracks = λ was. let so_far = tracked was in track_then g so_far (again.tracks so_far.tracked);
      listed = λ was. again.listed (listed was);
      states = record {
        moments = resynced old.1 file text (written old.1 file text sync.states gives) again.states;
        now = record { each = λ n other. again.states.now n ∙ gives.now.each n other ∙ sync.states.now n };
        memory = memory;
        kept = kept;
      };
    }

    -- the second sync was refused
    pub saves_unkept : {A H I : Type 0} {new : D × ManagedNames} {last : Result H I} (result : Result A IoError) (fault : IoFault) → IsErr result → IsErrAnd result (λ e. e ≡ io.Fault fault) → LeavesSafely g (Settles (g.disk now.0) (g.disk new.0) last) now new
        → LeavesSafely g (SavesStates (g.disk old.0) (g.disk new.0) old.1 (giving file text) io.Memory result) old new
    saves_unkept result fault failed same again = resaved io.Memory result again (err_wants result (io.Fault fault) io.Memory _ same (unless_fault fault)) (no_ok _ result failed)

  -- the write was refused
  pub saves_unwritten : {A X B G : Type 0} {old mid now : D × ManagedNames} {x : X} (error : IoError) (sync : LeavesSafely g (Settles {E = G} (g.disk old.0) (g.disk mid.0) (Ok x)) old mid) (names : mid.1 ≡ old.1)
      → GivesSafely {A = B} g file (Sealed text) mid now (Err error) → (result : Result A IoError) → IsErr result → IsErrAnd result (λ e. e ≡ error) → LeavesSafely g (SavesStates (g.disk old.0) (g.disk now.0) old.1 (giving file text) io.Memory result) old now
  saves_unwritten {B = B} {old = old} error sync names write result failed same =
      unsaved {B = B} {wrote = Err error} sync names write io.Memory result failed
      (err_wants result error io.Memory _ same (λ is. put old.1 file sync.states (where_wanted _ _ error (gives {B = B} {wrote = Err error} sync names write).memory is)))

-- each call succeeded
pub saves_kept : {X Y Z A E F H D W C : Type 0} (g : Ghosts D W C) (file text : List ℕ) {old mid now new : D × ManagedNames} {x : X} {y : Y} {z : Z} (wanted : E) (a : A) → LeavesSafely g (Settles {E = F} (g.disk old.0) (g.disk mid.0) (Ok x)) old mid → mid.1 ≡ old.1
    → GivesSafely g file (Sealed text) mid now (Ok y) → LeavesSafely g (Settles {E = H} (g.disk now.0) (g.disk new.0) (Ok z)) now new → LeavesSafely g (SavesStates (g.disk old.0) (g.disk new.0) old.1 (giving file text) wanted (Ok a)) old new
saves_kept g file text wanted a sync names write again = resaved g file text sync names write wanted (Ok a) again tt (again.states.ok, again.states.now file ∙ write.states.stands)

-- ---- another answer, about the same text

module _ {A B D W C : Type 0} (g : Ghosts D W C) {old new : D × ManagedNames} {file text same : List ℕ} where
  pub saves_err : (error : IoError) (result : Result A TantivyError) → IsErr result → IsErrAnd result (λ e. e ≡ of_io error) → text ≡ same → LeavesSafely g (SavesStates {A = B} (g.disk old.0) (g.disk new.0) old.1 (giving file text) io.Memory (Err error)) old new
      → LeavesSafely g (SavesStates (g.disk old.0) (g.disk new.0) old.1 (giving file same) errors.Memory result) old new
  saves_err error result failed given is safe =
      let states = subst (λ t. SavesStates {A = B} (g.disk old.0) (g.disk new.0) old.1 (giving file t) io.Memory (Err error)) is safe.states in
      record {
        tracks = safe.tracks;
        listed = safe.listed;
        states = record {
          moments = states.moments;
          now = states.now;
          memory = err_wants result (of_io error) errors.Memory _ given (λ wants. states.memory (of_memory error wants));
          kept = no_ok _ result failed;
        };
      }

  pub saves_ok : (a : A) (b : B) → text ≡ same → LeavesSafely g (SavesStates (g.disk old.0) (g.disk new.0) old.1 (giving file text) io.Memory (Ok b)) old new → LeavesSafely g (SavesStates (g.disk old.0) (g.disk new.0) old.1 (giving file same) errors.Memory (Ok a)) old new
  saves_ok a b is safe =
      let states = subst (λ t. SavesStates (g.disk old.0) (g.disk new.0) old.1 (giving file t) io.Memory (Ok b)) is safe.states in
      record { tracks = safe.tracks; listed = safe.listed; states = record { moments = states.moments; now = states.now; memory = tt; kept = states.kept } }

-- the same answer, about the same text
pub saves_as : {A E D W C : Type 0} (g : Ghosts D W C) {old new : D × ManagedNames} {file text same : List ℕ} {wanted : E} {result : Result A E} → text ≡ same → LeavesSafely g (SavesStates (g.disk old.0) (g.disk new.0) old.1 (giving file text) wanted result) old new
    → LeavesSafely g (SavesStates (g.disk old.0) (g.disk new.0) old.1 (giving file same) wanted result) old new
saves_as g {old} {new} {file = file} {wanted = wanted} {result = result} is safe = subst (λ t. LeavesSafely g (SavesStates (g.disk old.0) (g.disk new.0) old.1 (giving file t) wanted result) old new) is safe

-- where memory was wanted, `meta.json` stands as it stood, or as it might have been left
pub holds_no_other : {A : Type 0} {old new : Disk} (names : ManagedNames) (text : List ℕ) (result : Result A IoError) → SavesStates old new names (giving meta_name text) io.Memory result → IfErr result (λ e. e ≡ io.Memory → Throughout (HoldsNoOtherMeta old) old new)
holds_no_other names text (Ok a) states = tt
holds_no_other names text (Err e) states = λ is.
    weaker (states.memory is) (λ p which s of_meta. ⊎_elim (λ within. inl (within.each meta_name s of_meta))
    (λ gains. ⊎_elim inr (λ listed. absurd (plain_isnt_list meta_name refl listed.0.0)) (gains.each meta_name s of_meta)) which)
