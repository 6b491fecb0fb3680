-- How a run of events that were applied goes on, as far as it is seen by what a crash leaves.
use Rattle.std.proofs.Common.{◌≡◌, ℕ, Bool, List, [], ◌∷◌, ◌++◌, Result, refl, sym, subst, ◌∙◌}
use Rattle.std.proofs.lemmas.List.{append-nil}
use Rattle.tv_formats.proofs.DiskLaws.{started}
use Rattle.tv_formats.specs.Schemas.{stripped}
use Rattle.tv_formats.specs.Sound.{IsSoundDirectory}
use Rattle.tv_base.specs.declared.error.TantivyError.{TantivyError}
use Rattle.tv_machine.specs.Index.{OpenedIndex}
use Rattle.tv_machine.specs.State.{State}
use Rattle.tv_machine.specs.Machine.{Turn, after, step}
use Rattle.tv_events.specs.declared.event.Event.{Event}
use Rattle.tv_crashes.specs.Runs.{HearsNoLine, ReplaySurvives, RunsSafely, RunsWhole, Seen}
use Rattle.tv_crashes.specs.Stored.{IsSafe, stored_of}
use Rattle.tv_crashes.proofs.RunsTold.{and_runs, and_runs_whole, no_turn}
use Rattle.tv_crashes.proofs.StoredImages.{fewer_safe}
use Rattle.tv_device.specs.declared.directory.Directory.{Ghosts}
use Rattle.tv_store.specs.Durable.{IsDurable, store_files}
use Rattle.tv_store.specs.Kept.{StoreState}
use Rattle.tv_store.specs.Surviving.{SurvivesEvent, seen_of}
use Rattle.tv_replay.specs.AppliedEvents.{AppliesWhole}
use Rattle.tv_replay.proofs.Progress.{after-last}

-- what a crash leaves of this event, whatever it answers
abbrev pub EventSurvives : {O W C : Type 0} (g : Ghosts O W C) (now new : StoreState O) (e : Event) → Result (List ℕ) TantivyError → Type 0
EventSurvives g now new e result = (g.tells_images → g.told.content) × SurvivesEvent g now new e result

-- what a crash leaves of a replay of these events
abbrev pub ReplayLeaves : {O W C : Type 0} (g : Ghosts O W C) (before now : O) (schema : List ℕ) → List Turn → Type 0
ReplayLeaves g before now schema turns =
    g.tells_images → g.told.heard → g.told.locks → IsSoundDirectory (stripped schema) (g.disk before) (g.view before).locks → (index : OpenedIndex schema (g.view before).reads)
    → ReplaySurvives index.form (seen_of g before) (seen_of g now) index.state turns

-- nothing more was heard
pub hears_none : {old new : Seen} → new.heard ≡ old.heard → HearsNoLine old new
hears_none {old} {new} same = record { pieces = []; heard = same ∙ sym (append-nil old.heard); none = refl }

module _ {O W C : Type 0} (g : Ghosts O W C) where
  -- before the first event
  pub none_applied : (store : StoreState O) (s : State) → IsDurable g (store_files store) s → AppliesWhole g store store s []
  none_applied store s durable =
      let stored = stored_of store.kept.form s in
      record {
        runs = no_turn s (started (IsSafe stored stored) (fewer_safe stored stored) (g.disk store.outside) (record { listed = durable.tracked.forgets_none; stored = durable.stored })) (hears_none refl);
        durable = durable;
      }

  module _ (old now new : StoreState O) (s : State) (turns : List Turn) (event : Event) (outcomes : List Bool) (form : now.kept.form ≡ old.kept.form) (so_far : AppliesWhole g old now s turns) where
    -- one event more, whose line was told
    pub one_more_whole : RunsWhole now.kept.form (seen_of g now.outside) (seen_of g new.outside) (after s turns) ((event, outcomes) ∷ []) → IsDurable g (store_files new) (step (after s turns) event outcomes).1
        → AppliesWhole g old new s (turns ++ (event, outcomes) ∷ [])
    one_more_whole more durable = record {
      runs = and_runs_whole so_far.runs (subst (λ form. RunsWhole form (seen_of g now.outside) (seen_of g new.outside) (after s turns) ((event, outcomes) ∷ [])) form more);
      durable = subst (IsDurable g (store_files new)) (sym (after-last s turns (event, outcomes))) durable;
    }

    -- or whose line may not have been told
    pub one_more_in_part : RunsSafely now.kept.form (seen_of g now.outside) (seen_of g new.outside) (after s turns) ((event, outcomes) ∷ [])
        → RunsSafely old.kept.form (seen_of g old.outside) (seen_of g new.outside) s (turns ++ (event, outcomes) ∷ [])
    one_more_in_part more =
        and_runs so_far.runs (subst (λ form. RunsSafely form (seen_of g now.outside) (seen_of g new.outside) (after s turns) ((event, outcomes) ∷ [])) form more)
