-- What an opening finds and leaves, put together from its calls.
use Rattle.std.proofs.Common.{◌≡◌, ◌⊎◌, inl, inr, ℕ, ◌<◌, ◌^◌, List, Option, Some, None, Result, Ok, Err, refl, sym, subst, ◌∙◌, arith}
use Rattle.std.specs.Prelude.{IsSome, IfErr, IsErrAnd}
use Rattle.std.specs.List.Sorted.{IsStrictlySortedBy}
use Rattle.tv_base.specs.Causes.{IoCause}
use Rattle.tv_base.specs.Errors.{of_io}
use Rattle.tv_base.specs.declared.error.TantivyError.{TantivyError}
use Rattle.tv_base.specs.declared.error.TantivyError.TheVariants as errors
use Rattle.tv_base.specs.declared.io.IoError.{IoError}
use Rattle.tv_base.specs.declared.io.IoError.TheVariants as io
use Rattle.tv_device.specs.Calls.{Notes}
use Rattle.tv_device.specs.View.{View, Told, OnlyReads}
use Rattle.tv_device.specs.ViewLaws.{frame_then, reads_then}
use Rattle.tv_device.specs.Watch.{WatchState, MayNote}
use Rattle.tv_device.specs.declared.directory.Directory.{Ghosts}
use Rattle.tv_managed.specs.Frames.{KeptButNotes}
use Rattle.tv_managed.specs.Managed.{KeepsOtherFiles}
use Rattle.tv_managed.specs.Wrapping.{ListRefusal, NotWrapped, Wraps}
use Rattle.tv_managed.specs.declared.managed_directory.Refused.{Refused}
use Rattle.tv_managed.specs.Names.{ManagedNames}
use Rattle.tv_formats.specs.Commits.{Commit, IndexForm, Settings, IsCommit, first_commit, new_form}
use Rattle.tv_formats.specs.Files.{Reads, Rose, Same}
use Rattle.tv_formats.specs.Sound.{FindsCommit}
use Rattle.tv_formats.specs.Meaning.{Means, MeansNothing, MeansOther}
use Rattle.tv_formats.specs.Names.{meta_name}
use Rattle.tv_formats.proofs.SpelledCommits.{means_commit}
use Rattle.tv_metas.specs.Metas.{commit_of, settings_of}
use Rattle.tv_index.specs.NewForms.{FindsOrMakes, IsFirst, LeavesUnmade, NotLoaded, NotOpenedForm, OpensForm, new_text}
use Rattle.tv_index.specs.Opening.{FrameNotesRefused, HasCommit, HasList, IsRefusedBytes, LoadCause, Loads, NotOpened, OfBytes, OpenCause, OpensIndex, TellsMeta}
use Rattle.tv_index.specs.Saving.{FrameNotesUnless, IsUnrefused, LeavesText}
use Rattle.tv_index.specs.SavingLaws.{notes_later}
use Rattle.tv_metas.specs.declared.index_meta.UntrackedIndexMeta.{UntrackedIndexMeta}
use Rattle.tv_index.proofs.Listings.{listing_after, listing_before}
use Rattle.tv_index.proofs.Options.{no_some}

-- ---- commits

first_is_commit : IsCommit first_commit
unfolding IsStrictlySortedBy
first_is_commit = record { ordered = tt; segments = tt; opstamp = omega arith; payload = tt }

pub is_first : (form : IndexForm) (meta : UntrackedIndexMeta) → settings_of meta ≡ form.settings → commit_of meta ≡ first_commit → meta.schema ≡ form.schema → form.settings.blocksize < 2 ^ 64
    → IsFirst form meta
is_first form meta settings commit is small = record {
  settings = settings;
  commit = commit;
  has = record {
    schema_is = is;
    is_commit = subst IsCommit (sym commit) first_is_commit;
    blocksize = subst (λ (s : Settings). s.blocksize < 2 ^ 64) (sym settings) small;
  };
}

pub means_has : (schema bytes : List ℕ) (meta : UntrackedIndexMeta) → Means (settings_of meta) meta.schema bytes (commit_of meta) → meta.schema ≡ schema → HasCommit schema meta
means_has schema bytes meta means is =
    let commit = means_commit (settings_of meta) meta.schema bytes (commit_of meta) means in
    record { schema_is = is; is_commit = commit.0; blocksize = commit.1 }

-- ---- errors

pub failed_as : {A E : Type 0} (result : Result A E) (given : E) (P : E → Type 0) → IsErrAnd result (λ e. e ≡ given) → P given → IfErr result P
failed_as (Ok a) given P h p = tt
failed_as (Err e) given P h p = subst P (sym h) p

-- ---- what calls keep, one after the other

module _ {W : Type 0} {told : Told} {first now next : View W} where
  pub unless_later : {before after : Type 0} → OnlyReads told first now → (before → after) → FrameNotesUnless told after now next → FrameNotesUnless told before first next
  unless_later read still h = record { notes = notes_later read h.notes; unless = λ b. h.unless (still b) ∙ read.kept.watched }

  -- a notice came with the first call, if at all
  pub unless_before : {none : Type 0} → FrameNotesUnless told none first now → OnlyReads told now next → FrameNotesUnless told none first next
  unless_before h read = record {
    notes = record {
      frame = frame_then h.notes.frame read.kept.frame;
      watched = subst (λ (w : WatchState). MayNote meta_name first.watched w) (sym read.kept.watched) h.notes.watched;
    };
    unless = λ is. read.kept.watched ∙ h.unless is;
  }

  refused_later : (error : TantivyError) → OnlyReads told first now → FrameNotesRefused told error now next → FrameNotesRefused told error first next
  refused_later error read = unless_later read still where
    still : TellsMeta told first ⊎ IsUnrefused error → TellsMeta told now ⊎ IsUnrefused error
    still (inl stood) = inl (stood.0, subst IsSome (sym (read.content stood.0 meta_name)) stood.1)
    still (inr other) = inr other

module _ {W : Type 0} {old new : View W} where
  may_note : {A : Type 0} (result : Result A IoError) → Notes old new meta_name result → MayNote meta_name old.watched new.watched
  may_note (Ok a) h = inr h.ok
  may_note (Err (io.Fault fault)) h = h.err.1
  may_note (Err io.Memory) h = inl h.err

  none_noted : {A : Type 0} (result : Result A IoError) → Notes old new meta_name result → IsErrAnd result (λ e. e ≡ io.Memory) → new.watched ≡ old.watched
  none_noted (Ok a) h memory = absurd memory
  none_noted (Err e) h memory = subst (IoCause (MayNote meta_name old.watched new.watched) (new.watched ≡ old.watched)) memory h.err

module _ {W : Type 0} {told : Told} {old new : View W} where
  pub reads_unless : {none : Type 0} → OnlyReads told old new → FrameNotesUnless told none old new
  reads_unless h = record { notes = record { frame = h.kept.frame; watched = inl h.kept.watched }; unless = λ is. h.kept.watched }

  pub notes_unless : {before after : Type 0} → (before → after) → FrameNotesUnless told after old new → FrameNotesUnless told before old new
  notes_unless still h = record { notes = h.notes; unless = λ b. h.unless (still b) }

  -- a write of `meta.json`
  pub wrote : {A : Type 0} (result : Result A IoError) → KeptButNotes told old new meta_name result → FrameNotesUnless told (IsErrAnd result (λ e. e ≡ io.Memory)) old new
  wrote result h = record { notes = record { frame = h.frame; watched = may_note result h.notes }; unless = none_noted result h.notes }

  pub not_written : {A : Type 0} (error : IoError) → KeptButNotes {A = A} told old new meta_name (Err error) → FrameNotesUnless told (error ≡ io.Memory) old new
  not_written error h = wrote (Err error) h

-- the same error is answered
pub same_error : {A : Type 0} (result : Result A IoError) (error : IoError) → IsErrAnd result (λ e. e ≡ error) → IsErrAnd result (λ e. e ≡ io.Memory) → error ≡ io.Memory
same_error (Ok a) error h memory = absurd h
same_error (Err e) error h memory = sym h ∙ memory

pub same_memory : {A : Type 0} (result : Result A TantivyError) (error : IoError) → IsErrAnd result (λ e. e ≡ of_io error) → IsErrAnd result (λ e. e ≡ errors.Memory) → error ≡ io.Memory
same_memory (Ok a) error h memory = absurd h
same_memory (Err e) io.Memory h memory = refl
same_memory (Err e) (io.Fault fault) h memory = absurd cc

-- ---- an index that isn't made

pub loads_none : (schema : List ℕ) (read : Option (List ℕ)) (found : Option UntrackedIndexMeta) → found ≡ None → Loads schema read found → read ≡ None
loads_none schema None found is h = refl
loads_none schema (Some bytes) found is h = absurd (subst (Loads schema (Some bytes)) is h)

pub no_bytes : (error : IoError) → IsRefusedBytes (of_io error) → ⊥
no_bytes (io.Fault fault) h = h
no_bytes io.Memory h = h

pub unrefused_io : (error : IoError) → IsUnrefused (of_io error) → error ≡ io.Memory
unrefused_io (io.Fault fault) h = absurd h
unrefused_io io.Memory h = refl

io_cause : (tells : Type 0) (schema : List ℕ) (read : Option (List ℕ)) (refused quiet : Type 0) {more same : Type 0} (error : IoError) → (more → refused) → (same → quiet) → IoCause more same error → LoadCause tells schema read refused quiet (of_io error)
io_cause tells schema read refused quiet (io.Fault fault) f q h = (h.0, f h.1)
io_cause tells schema read refused quiet io.Memory f q h = q h

module _ {A D W C : Type 0} (g : Ghosts D W C) (old mid new : D × ManagedNames) (form : IndexForm) (result : Result A TantivyError) (error : IoError) where
  pub creates_none : {B : Type 0} → IsErrAnd result (λ e. e ≡ of_io error) → (g.told.content → (g.view old.0).reads meta_name ≡ None) → OnlyReads g.told (g.view old.0) (g.view mid.0) → (g.view mid.0).faults ≡ (g.view old.0).faults
      → (g.told.content → KeepsOtherFiles (g.view mid.0).reads (g.view new.0).reads meta_name) → LeavesText {A = B} g mid.0 new.0 (new_text form) (Err error)
      → IoCause (Rose (g.view mid.0).faults (g.view new.0).faults) ((g.view new.0).faults ≡ (g.view mid.0).faults) error → FrameNotesUnless g.told (error ≡ io.Memory) (g.view mid.0) (g.view new.0)
      → IfErr result (NotLoaded g old new.0 form)
  creates_none h none reads quiet others leaves cause frame = failed_as result (of_io error) (NotLoaded g old new.0 form) h (record {
    left = λ t. record {
      stood = λ some. no_some ((g.view old.0).reads meta_name) (none t) some;
      others = λ n other list. others t n other list ∙ reads.content t n;
      made = λ is. either t is;
    };
    unchanged = λ t bytes. absurd (no_bytes error bytes);
    cause = io_cause g.told.content form.schema ((g.view old.0).reads meta_name) _ _ error (λ rose. subst (λ (n : ℕ). Rose n (g.view new.0).faults) quiet rose) (λ same. same ∙ quiet) cause;
    frame = unless_later reads memory frame;
  }) where
    memory : TellsMeta g.told (g.view old.0) ⊎ IsUnrefused (of_io error) → error ≡ io.Memory
    memory (inl stood) = no_some ((g.view old.0).reads meta_name) (none stood.0) stood.1
    memory (inr other) = unrefused_io error other

    either : g.told.content → (g.view old.0).reads meta_name ≡ None → ((g.view new.0).reads meta_name ≡ None) ⊎ ((g.view new.0).reads meta_name ≡ Some (new_text form))
    either t is = by (leaves.either t) where
      by : ((g.view new.0).reads meta_name ≡ Some (new_text form)) ⊎ ((g.view new.0).reads meta_name ≡ (g.view mid.0).reads meta_name) → ((g.view new.0).reads meta_name ≡ None) ⊎ ((g.view new.0).reads meta_name ≡ Some (new_text form))
      by (inl made) = inr made
      by (inr same) = inl (same ∙ reads.content t meta_name ∙ is)

-- ---- an index that isn't opened

same_unmade : (old new : Reads) (text : List ℕ) → Same old new → LeavesUnmade old new text
same_unmade old new text same = record { stood = λ some. same; others = λ n other list. same n; made = λ none. inl (same meta_name ∙ none) }

later_unmade : (old mid new : Reads) (text : List ℕ) → Same old mid → LeavesUnmade mid new text → LeavesUnmade old new text
later_unmade old mid new text same h = record {
  stood = λ some n. h.stood (subst IsSome (sym (same meta_name)) some) n ∙ same n;
  others = λ n other list. h.others n other list ∙ same n;
  made = λ none. h.made (same meta_name ∙ none);
}

-- behind a sync
module _ {D W C : Type 0} (g : Ghosts D W C) (before mid : D) (synced : OnlyReads g.told (g.view before) (g.view mid)) (still : (g.view mid).faults ≡ (g.view before).faults) where
  pub wraps_later : (wrapped : D × ManagedNames) → Wraps g mid wrapped → Wraps g before wrapped
  wraps_later wrapped w = record {
    names = λ t. listing_before (g.view before).reads (g.view mid).reads wrapped.1.managed (synced.content t) (w.names t);
    collections = w.collections;
    quiet = w.quiet ∙ still;
    frame = reads_then synced w.frame;
  }

  pub refusal_later : (now : D) (error : TantivyError) → ListRefusal g.told (g.view mid) (g.view now) error → ListRefusal g.told (g.view before) (g.view now) error
  refusal_later now (errors.DataCorruption why) k = (k.0, (λ t names list. k.1.0 t names (listing_after (g.view before).reads (g.view mid).reads names (synced.content t) list), k.1.1 ∙ still))
  refusal_later now (errors.IoError fault) k = (k.0, subst (λ (n : ℕ). Rose n (g.view now).faults) still k.1)
  refusal_later now errors.Memory k = k ∙ still
  refusal_later now other k = absurd k

  pub not_wrapped_later : (now : D) (error : TantivyError) → NotWrapped g mid now error → NotWrapped g before now error
  not_wrapped_later now error h = record { cause = refusal_later now error h.cause; frame = reads_then synced h.frame }

module _ {D W C : Type 0} (g : Ghosts D W C) (before : D) (form : IndexForm) where
  -- why the list isn't read, as a cause of an opening
  pub unlisted_cause : (now : D) (e : TantivyError) → ListRefusal g.told (g.view before) (g.view now) e
      → OpenCause g.told.content form.schema (g.view before).reads (Rose (g.view before).faults (g.view now).faults) ((g.view now).faults ≡ (g.view before).faults) e
  unlisted_cause now (errors.DataCorruption why) k = inl (k.1.1, (_, k.0, refl), k.1.0)
  unlisted_cause now (errors.IoError fault) k = k
  unlisted_cause now errors.Memory k = k
  unlisted_cause now other k = absurd k

  not_wrapped : (now : D) (error : TantivyError) → NotWrapped g before now error → NotOpenedForm g before form now error
  not_wrapped now error h = record {
    left = λ t. same_unmade (g.view before).reads (g.view now).reads (new_text form) (h.frame.content t);
    unchanged = λ t bytes. h.frame.content t;
    cause = unlisted_cause now error h.cause;
    frame = reads_unless h.frame;
  }

  pub wrap_fails : {A : Type 0} (result : Result A (Refused D)) (refused : Refused D) → IsErrAnd result (λ r. r ≡ refused) → NotWrapped g before refused.directory refused.error
      → IfErr result (λ r. NotOpenedForm g before form r.directory r.error)
  wrap_fails result refused h none = failed_as result refused (λ r. NotOpenedForm g before form r.directory r.error) h (not_wrapped refused.directory refused.error none)

  module _ (wrapped : D × ManagedNames) (w : Wraps g before wrapped) where
    has_list : g.told.content → HasList (g.view before).reads
    has_list t = (wrapped.1.managed, w.names t)

    -- and why `meta.json` isn't
    pub loaded_cause : (now : D) (error : TantivyError)
        → LoadCause g.told.content form.schema ((g.view wrapped.0).reads meta_name) (Rose (g.view wrapped.0).faults (g.view now).faults) ((g.view now).faults ≡ (g.view wrapped.0).faults) error
        → OpenCause g.told.content form.schema (g.view before).reads (Rose (g.view before).faults (g.view now).faults) ((g.view now).faults ≡ (g.view before).faults) error
    loaded_cause now (errors.DataCorruption why) k =
        inr (has_list, (k.0 ∙ w.quiet, k.1, λ t. subst (OfBytes (MeansNothing (Some form.schema))) (w.frame.content t meta_name) (k.2 t)))
    loaded_cause now (errors.SchemaError text) k =
        (has_list, (k.0 ∙ w.quiet, k.1, λ t. subst (OfBytes (MeansOther form.schema)) (w.frame.content t meta_name) (k.2 t)))
    loaded_cause now (errors.IoError fault) k = (k.0, subst (λ (n : ℕ). Rose n (g.view now).faults) w.quiet k.1)
    loaded_cause now errors.Memory k = k ∙ w.quiet
    loaded_cause now other k = absurd k

    pub not_loaded : (now back : D) (error : TantivyError) → back ≡ now → NotLoaded g wrapped now form error → NotOpenedForm g before form back error
    not_loaded now back error is h = subst (λ (d : D). NotOpenedForm g before form d error) (sym is) (record {
      left = λ t. later_unmade (g.view before).reads (g.view wrapped.0).reads (g.view now).reads (new_text form) (w.frame.content t) (h.left t);
      unchanged = λ t bytes n. h.unchanged t bytes n ∙ w.frame.content t n;
      cause = loaded_cause now error h.cause;
      frame = refused_later error w.frame h.frame;
    })

-- ---- with the settings of an index that says none

finds_default : (schema : List ℕ) (read : Option (List ℕ)) (settings : Settings) (commit : Commit) → FindsOrMakes (new_form schema) read settings commit → FindsCommit schema read settings commit
finds_default schema None settings commit h = h
finds_default schema (Some text) settings commit h = h

module _ {D W C : Type 0} (g : Ghosts D W C) (before : D) (schema : List ℕ) where
  pub opens_default : (form : IndexForm) → form ≡ new_form schema → (now : D × ManagedNames) (meta : UntrackedIndexMeta) → OpensForm g before form now meta → OpensIndex g before schema now meta
  opens_default form is now meta opens = by (subst (λ (f : IndexForm). OpensForm g before f now meta) is opens) where
    by : OpensForm g before (new_form schema) now meta → OpensIndex g before schema now meta
    by h = record {
      has = h.has;
      finds = λ t.
          let f = h.finds t in
          record {
            listed = f.listed;
            listing = f.listing;
            found = subst (λ (l : List ℕ). FindsCommit l ((g.view before).reads meta_name) (settings_of meta) (commit_of meta)) (sym h.has.schema_is)
                (finds_default schema ((g.view before).reads meta_name) (settings_of meta) (commit_of meta) f.found);
            managed_is = f.managed_is;
          };
      left = λ t. let l = h.left t in record { stood = l.stood; others = l.others; made = l.made };
      lists = h.lists;
      collections = h.collections;
      quiet = h.quiet;
      notes = h.notes;
      frame = h.frame;
    }

  pub not_opened_default : (form : IndexForm) → form ≡ new_form schema → (now : D) (error : TantivyError) → NotOpenedForm g before form now error → NotOpened g before schema now error
  not_opened_default form is now error none = by (subst (λ (f : IndexForm). NotOpenedForm g before f now error) is none) where
    by : NotOpenedForm g before (new_form schema) now error → NotOpened g before schema now error
    by h = record {
      left = λ t. let l = h.left t in record { stood = l.stood; others = l.others; made = l.made };
      unchanged = h.unchanged;
      cause = h.cause;
      frame = h.frame;
    }
