-- An index that is made in a directory which was synced and wrapped before, or isn't.
use Rattle.std.proofs.Common.{◌≡◌, ◌⊎◌, inl, inr, ℕ, List, [], Some, Err, refl, ap, subst, ◌∙◌}
use Rattle.tv_base.specs.Causes.{IoCause}
use Rattle.tv_base.specs.declared.executor.Executor.TheVariants.{SingleThread}
use Rattle.tv_base.specs.Errors.{of_io}
use Rattle.tv_base.specs.declared.error.TantivyError.{TantivyError}
use Rattle.tv_base.specs.declared.io.IoError.{IoError}
use Rattle.tv_base.specs.declared.io.IoError.TheVariants as io
use Rattle.tv_device.specs.Watch.{noted}
use Rattle.tv_device.specs.declared.directory.Directory.{Ghosts}
use Rattle.tv_managed.specs.Managed.{KeepsOtherFiles}
use Rattle.tv_managed.specs.Names.{ManagedNames}
use Rattle.tv_managed.specs.Wrapping.{ListRefusal, NotWrapped, Wraps}
use Rattle.tv_formats.specs.Commits.{IndexForm}
use Rattle.tv_formats.specs.Files.{Rose}
use Rattle.tv_formats.specs.Names.{meta_name}
use Rattle.tv_index.specs.Indexes.{CreatesIndex, NotCreated}
use Rattle.tv_index.specs.NewForms.{form_with, new_text}
use Rattle.tv_index.specs.Saving.{FrameNotesUnless, LeavesText, SavesMeta}
use Rattle.tv_index.specs.SavingLaws.{notes_later}
use Rattle.tv_metas.specs.declared.index_settings.IndexSettings.{IndexSettings}
use Rattle.tv_index.proofs.Listings.{listing_after}
use Rattle.tv_index.proofs.Openings.{no_bytes, reads_unless, unless_later, unrefused_io}
use Rattle.tv_index.proofs.SavedSafely.{of_memory}

module _ {D W C : Type 0} (g : Ghosts D W C) (before : D) where
  -- the list wasn't read
  pub not_listed : (form : IndexForm) (now : D) (error : TantivyError) → NotWrapped g before now error → NotCreated g before form now error
  not_listed form now error h = record {
    either = λ t. inr (h.frame.content t meta_name);
    memory = λ t is. h.frame.content t meta_name;
    others = λ t n other list. h.frame.content t n;
    unchanged = λ t bytes n. h.frame.content t n;
    cause = h.cause;
    frame = reads_unless h.frame;
  }

  module _ (mid new : D × ManagedNames) (w : Wraps g before mid) (others : g.told.content → KeepsOtherFiles (g.view mid.0).reads (g.view new.0).reads meta_name) where
    -- it was made
    pub creates : (settings : IndexSettings) (schema : List ℕ) (none : Type 0) → SavesMeta g mid new (new_text (form_with settings schema)) → (g.view new.0).faults ≡ (g.view mid.0).faults
        → FrameNotesUnless g.told none (g.view mid.0) (g.view new.0) → CreatesIndex g before settings schema (record { directory = new; settings = settings; schema = schema; kept = []; executor = SingleThread })
    creates settings schema none saves quiet frame = record {
      settings_is = refl;
      schema_is = refl;
      kept = refl;
      executor = refl;
      saved = saves.saved;
      others = λ t n other list. others t n other list ∙ w.frame.content t n;
      listed = λ t. (mid.1.managed, w.names t, ap (λ (names : ManagedNames). names.managed) saves.names);
      lists = λ t. saves.list t (listing_after (g.view before).reads (g.view mid.0).reads mid.1.managed (w.frame.content t) (w.names t));
      collections = ap (λ (names : ManagedNames). names.collections) saves.names ∙ w.collections;
      quiet = quiet ∙ w.quiet;
      notes = saves.notes ∙ ap (noted meta_name) w.frame.kept.watched;
      frame = notes_later w.frame frame.notes;
    }

    refusal : (error : IoError) → IoCause (Rose (g.view mid.0).faults (g.view new.0).faults) ((g.view new.0).faults ≡ (g.view mid.0).faults) error → ListRefusal g.told (g.view before) (g.view new.0) (of_io error)
    refusal (io.Fault fault) h = (h.0, subst (λ (n : ℕ). Rose n (g.view new.0).faults) w.quiet h.1)
    refusal io.Memory h = h ∙ w.quiet

    -- it wasn't
    pub not_created : {A : Type 0} (form : IndexForm) (error : IoError) → LeavesText {A = A} g mid.0 new.0 (new_text form) (Err error)
        → IoCause (Rose (g.view mid.0).faults (g.view new.0).faults) ((g.view new.0).faults ≡ (g.view mid.0).faults) error → FrameNotesUnless g.told (error ≡ io.Memory) (g.view mid.0) (g.view new.0)
        → NotCreated g before form new.0 (of_io error)
    not_created form error leaves cause frame = record {
      either = λ t. either t (leaves.either t);
      memory = λ t is. subst (IoCause (Unit {0}) ((g.view new.0).reads meta_name ≡ (g.view mid.0).reads meta_name)) (of_memory error is) (leaves.memory t) ∙ w.frame.content t meta_name;
      others = λ t n other list. others t n other list ∙ w.frame.content t n;
      unchanged = λ t bytes. absurd (no_bytes error bytes);
      cause = refusal error cause;
      frame = unless_later w.frame (unrefused_io error) frame;
    } where
      either : g.told.content → ((g.view new.0).reads meta_name ≡ Some (new_text form)) ⊎ ((g.view new.0).reads meta_name ≡ (g.view mid.0).reads meta_name)
          → ((g.view new.0).reads meta_name ≡ Some (new_text form)) ⊎ ((g.view new.0).reads meta_name ≡ (g.view before).reads meta_name)
      either t (inl made) = inl made
      either t (inr same) = inr (same ∙ w.frame.content t meta_name)
