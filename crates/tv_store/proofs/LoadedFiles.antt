-- The commit that is loaded with its files, and why it isn't.
use Rattle.std.proofs.Common.{◌≡◌, ℕ, List, ◌∷◌, true, Some, None, refl, sym, ap, subst, ◌∙◌}
use Rattle.tv_base.specs.declared.open_errors.OpenReadError.TheVariants as read
use Rattle.tv_base.specs.declared.error.TantivyError.{TantivyError}
use Rattle.tv_base.specs.declared.error.TantivyError.TheVariants as errors
use Rattle.tv_device.specs.View.{OnlyReads, View}
use Rattle.tv_device.specs.declared.directory.Directory.{Ghosts}
use Rattle.tv_formats.specs.Files.{Rose, Same}
use Rattle.tv_formats.specs.Names.{has, is_file_name, meta_name}
use Rattle.tv_formats.specs.Segments.{all_required}
use Rattle.tv_formats.specs.declared.segment.LiveSegment.{LiveSegment}
use Rattle.tv_formats.proofs.CollectedNames.{has_front}
use Rattle.tv_machine.specs.CommitEvents.{is_sealed}
use Rattle.tv_machine.specs.SoundStates.{IsWhole}
use Rattle.tv_machine.specs.State.{State, file_at}
use Rattle.tv_store.proofs.Asking.{kept_by_files}
use Rattle.tv_store.proofs.Holding.{same_holds}
use Rattle.tv_store.proofs.ReaderEvents.{cause_weaker, good_before, has_middle, loading_of, loading_weaker, read_is_sealed, refused_before, sealed_is_there}
use Rattle.tv_store.specs.Applying.{UnloadedFor}
use Rattle.tv_store.specs.Bodies.{FailsAt, RefusesAt, RefusesFirst}
use Rattle.tv_store.specs.Kept.{FilesState, kept_of}
use Rattle.tv_store.specs.Performing.{FilesHold, loading_facts}
use Rattle.tv_store.specs.ReadCauses.{LoadingCause, reading_facts}
use Rattle.tv_store.specs.Stays.{KeepsFiles}

-- what is held stays held behind such a call
pub held_later : {O W C : Type 0} (g : Ghosts O W C) (old new : FilesState O) (s : State) → g.told.content → KeepsFiles (OnlyReads g.told) g.view old new → FilesHold g old s → FilesHold g new s
held_later g old new s tells frame held =
    same_holds (g.view old.outside).reads (g.view new.outside).reads (kept_of s.catalog old) (kept_of s.catalog new) s (frame.managed.below.content tells) (kept_by_files s.catalog frame) held

-- why `meta.json` isn't loaded, as a cause of a call that reads the commit's files
pub load_fails : {O W C : Type 0} (g : Ghosts O W C) (old new : FilesState O) (error : TantivyError) → UnloadedFor g old.form.schema old.outside new.outside error
    → LoadingCause (loading_facts g old new) (UnloadedFor g old.form.schema old.outside new.outside) error
load_fails g old new (errors.OpenReadError (read.FileDoesNotExist path)) h = (
  h.1.0,
  subst (λ (p : List ℕ). is_file_name p ≡ true) (sym h.0) refl,
  λ t s held whole. let text = held.meta in let none : None ≡ Some text.0 = sym (h.1.1 t) ∙ text.1 in absurd cc,
)
load_fails g old new (errors.OpenReadError (read.IoError fault path)) h = absurd h.2
load_fails g old new (errors.OpenReadError other) h = absurd h
load_fails g old new (errors.DataCorruption why) h = h
load_fails g old new (errors.SchemaError text) h = h
load_fails g old new (errors.IoError fault) h = h
load_fails g old new errors.Memory h = h
load_fails g old new other h = absurd h

-- a file of the current commit isn't read, which these segments are in each state that is held
pub commit_fails : {O W C : Type 0} (g : Ghosts O W C) (old mid new : FilesState O) (segments : List (List ℕ × LiveSegment)) (error : TantivyError)
    → KeepsFiles (OnlyReads g.told) g.view old mid → (g.view mid.outside).faults ≡ (g.view old.outside).faults → (g.told.content → (s : State) → FilesHold g old s → segments ≡ s.catalog.commit.segments)
    → FailsAt g.told.content (g.view mid.outside).reads (all_required segments) (Rose (g.view mid.outside).faults (g.view new.outside).faults) ((g.view new.outside).faults ≡ (g.view mid.outside).faults) error
    → LoadingCause (loading_facts g old new) (UnloadedFor g old.form.schema old.outside new.outside) error
commit_fails g old mid new segments error frame quiet are h =
    let tells = g.told.content in
    let first = (g.view old.outside).reads in
    let now = (g.view mid.outside).reads in
    let end = (g.view new.outside).faults in
    let before = (g.view mid.outside).faults in
    let same : tells → Same first now = frame.managed.below.content in
    let sealed : (t : tells) (s : State) → FilesHold g old s → IsWhole s → (n : List ℕ) → has (all_required segments) n ≡ true → is_sealed (file_at s n) ≡ true =
    λ t s held whole n among. whole.each.0 n (subst (λ (es : List (List ℕ × LiveSegment)). has (all_required es) n ≡ true) (are t s held) among) in
    loading_of (loading_facts g old new) (UnloadedFor g old.form.schema old.outside new.outside) error
    (cause_weaker (reading_facts (Rose before end) (end ≡ before) (RefusesFirst tells now (all_required segments)) (λ path. (has (all_required segments) path ≡ true) × (tells → now path ≡ None))) (loading_facts g old new) error
    (λ never. never) (λ rose. subst (λ (x : ℕ). Rose x end) quiet rose) (λ still. still ∙ quiet) (λ never. never)
    (λ error b t s held whole.
    let no : RefusesAt first b.path error = refused_before first now b.path error (same t) (b.refuses t) in
    record {
      front = b.front;
      path = b.path;
      rest = b.rest;
      split = ap all_required (sym (are t s held)) ∙ b.split;
      good = record {
        each = λ n among.
            let good = good_before first now n (same t) (b.good t n among) in
            (good.0, read_is_sealed first (kept_of s.catalog old) s n good.0 held (sealed t s held whole n (subst (λ (ns : List (List ℕ)). has ns n ≡ true) (sym b.split) (has_front b.front (b.path ∷ b.rest) n among))) good.1, good.2);
      };
      bytes = no.bytes;
      sealed = read_is_sealed first (kept_of s.catalog old) s b.path no.bytes held (sealed t s held whole b.path (has_middle (all_required segments) b.front b.rest b.path b.split)) no.there;
      why = no.why;
      no_body = no.no_body;
    })
    (λ path a t s held whole. sealed_is_there first (kept_of s.catalog old) s path held (sealed t s held whole path a.0) (sym (same t path) ∙ a.1 t)) h)

-- why `meta.json` isn't loaded, seen from before a call that changed nothing and after another one
pub unloaded_before : {O W C : Type 0} (g : Ghosts O W C) (schema later : List ℕ) (old mid then new : O) (error : TantivyError) → later ≡ schema → (g.told.content → (g.view old).reads meta_name ≡ (g.view mid).reads meta_name)
    → (Rose (g.view mid).faults (g.view then).faults → Rose (g.view old).faults (g.view new).faults) → ((g.view then).faults ≡ (g.view mid).faults → (g.view new).faults ≡ (g.view old).faults)
    → UnloadedFor g later mid then error → UnloadedFor g schema old new error
unloaded_before g schema later old mid then new error is same f q h = seen error (subst (λ (k : List ℕ). UnloadedFor g k mid then error) is h) where
  seen : (e : TantivyError) → UnloadedFor g schema mid then e → UnloadedFor g schema old new e
  seen (errors.OpenReadError (read.FileDoesNotExist path)) h = (h.0, (q h.1.0, λ t. same t ∙ h.1.1 t))
  seen (errors.OpenReadError (read.IoError fault path)) h = absurd h.2
  seen (errors.OpenReadError other) h = absurd h
  seen (errors.DataCorruption why) h = (q h.0, h.1, (h.2.0, λ t. same t ∙ h.2.1 t, h.2.2))
  seen (errors.SchemaError text) h = (q h.0, h.1, (h.2.0, λ t. same t ∙ h.2.1 t, h.2.2))
  seen (errors.IoError fault) h = (h.0, f h.1)
  seen errors.Memory h = q h
  seen other h = absurd h

-- a read of the commit's files that failed, seen from before a call that changed nothing and after another one
pub read_later : {O W C : Type 0} (g : Ghosts O W C) {keeps : View W → View W → Type 0} (old mid then new : FilesState O) (busy : Type 0) (error : TantivyError)
    → KeepsFiles keeps g.view old mid → (g.told.content → Same (g.view old.outside).reads (g.view mid.outside).reads) → (g.view mid.outside).faults ≡ (g.view old.outside).faults → (g.view new.outside).faults ≡ (g.view then.outside).faults
    → LoadingCause (loading_facts g mid then) (UnloadedFor g mid.form.schema mid.outside then.outside) error
    → LoadingCause (record (loading_facts g old new) { busy = busy }) (UnloadedFor g old.form.schema old.outside new.outside) error
read_later g old mid then new busy error frame same quiet last h =
    let start = (g.view old.outside).faults in
    let before = (g.view mid.outside).faults in
    let after = (g.view then.outside).faults in
    let end = (g.view new.outside).faults in
    let rises : Rose before after → Rose start end = λ rose. subst (λ (x : ℕ). Rose start x) (sym last) (subst (λ (x : ℕ). Rose x after) quiet rose) in
    let stays : after ≡ before → end ≡ start = λ still. last ∙ still ∙ quiet in
    loading_weaker (loading_facts g mid then) (record (loading_facts g old new) { busy = busy })
    (UnloadedFor g mid.form.schema mid.outside then.outside) (UnloadedFor g old.form.schema old.outside new.outside) error
    (λ never. absurd never) rises stays (λ never. never)
    (λ e load. unloaded_before g old.form.schema mid.form.schema old.outside mid.outside then.outside new.outside e (ap (λ f. f.schema) frame.managed.form) (λ t. sym (same t meta_name)) rises stays load)
    (λ e b t s held whole. b t s (same_holds (g.view old.outside).reads (g.view mid.outside).reads (kept_of s.catalog old) (kept_of s.catalog mid) s (same t) (kept_by_files s.catalog frame) held) whole)
    (λ path a t s held whole. a t s (same_holds (g.view old.outside).reads (g.view mid.outside).reads (kept_of s.catalog old) (kept_of s.catalog mid) s (same t) (kept_by_files s.catalog frame) held) whole) h
