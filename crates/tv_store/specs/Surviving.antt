-- What a crash may leave of an index at any moment: while it is opened, and while an event is applied.
use Rattle.std.specs.Prelude.{ℕ, ◌≡◌, Bool, List, [], ◌∷◌, Result, IfErr, IfOk, MatchResult, OnErr, OnOk}
use Rattle.tv_base.specs.declared.error.TantivyError.{TantivyError}
use Rattle.tv_base.specs.declared.error.TantivyError.TheVariants as errors
use Rattle.tv_crashes.specs.Runs.{OpensUntold, OpensWhole, RunsSafely, RunsWhole, Seen}
use Rattle.tv_crashes.specs.Stored.{IsSafe, stored_of}
use Rattle.tv_device.specs.declared.directory.Directory.{Ghosts}
use Rattle.tv_formats.specs.Disk.{Throughout}
use Rattle.tv_formats.specs.Schemas.{stripped}
use Rattle.tv_formats.specs.Sound.{IsSoundDirectory}
use Rattle.tv_machine.specs.Index.{OpenedIndex}
use Rattle.tv_machine.specs.Machine.{step}
use Rattle.tv_machine.specs.SoundStates.{IsWhole}
use Rattle.tv_machine.specs.State.{State}
use Rattle.tv_events.specs.declared.event.Event.{Event}
use Rattle.tv_managed.specs.declared.managed_directory.Refused.{Refused}
use Rattle.tv_store.specs.Durable.{IsDurable, store_files}
use Rattle.tv_store.specs.Kept.{IsHeld, StoreState}

-- what is seen of a directory here: its disk, and what it heard
abbrev pub seen_of : {O W C : Type 0} → Ghosts O W C → O → Seen
seen_of g outside = record { disk = g.disk outside; heard = (g.view outside).heard }

-- ---- an event

-- An event was applied from this state. Where it was answered, it is a run of this one event whose line was
-- told, with whatever outcomes of its deletes give this answer and lead to a state that is held; and a crash
-- can't hurt the files, whatever state they hold. After an error it is such a run too, of which perhaps no
-- line was told, whatever deletes are refused. Where memory was wanted, a crash leaves at each moment what
-- the state before it stores.
pub record AppliesSafely {O W C : Type 0} (g : Ghosts O W C) (old new : StoreState O) (event : Event)
    (s : State) (result : Result (List ℕ) TantivyError) : Type 0 where
  pub ok : IfOk result (λ answer. (outcomes : List Bool) → answer ≡ (step s event outcomes).0
      → IsHeld g new (step s event outcomes).1
      → RunsWhole old.kept.form (seen_of g old.outside) (seen_of g new.outside) s ((event, outcomes) ∷ []))
  pub durable : OnOk result ((t : State) → IsHeld g new t → IsDurable g (store_files new) t)
  pub err : OnErr result ((outcomes : List Bool)
      → RunsSafely old.kept.form (seen_of g old.outside) (seen_of g new.outside) s ((event, outcomes) ∷ []))
  pub memory : IfErr result (λ error. error ≡ errors.Memory
      → Throughout (IsSafe (stored_of old.kept.form s) (stored_of old.kept.form s))
      (g.disk old.outside) (g.disk new.outside))

-- The same from each whole state that is held, where a crash can't hurt the files of the store.
abbrev pub SurvivesEvent : {O W C : Type 0} → Ghosts O W C → (old new : StoreState O) → Event
    → Result (List ℕ) TantivyError → Type 0
SurvivesEvent g old new event result =
    g.tells_images → g.told.heard → (s : State) → IsHeld g old s → IsWhole s
    → IsDurable g (store_files old) s → AppliesSafely g old new event s result

-- ---- an opening

-- An index was opened in this directory, and its line told: until then a crash leaves the commit of the
-- start, or that of a new index, and from then on what the opened state stores; and a crash can't hurt its
-- files.
pub record StartsSafely {O W C : Type 0} (g : Ghosts O W C) (outside : O) (schema : List ℕ)
    (store : StoreState O) : Type 0 where
  pub opens : (index : OpenedIndex schema (g.view outside).reads)
      → OpensWhole index.form (seen_of g outside) (seen_of g store.outside) index.state
  pub durable : (index : OpenedIndex schema (g.view outside).reads)
      → IsDurable g (store_files store) index.state

-- An opening was refused: at each moment a crash leaves the commit of the start, or that of a new index; and
-- what it gives back is sound again.
pub record RefusesSafely {O W C : Type 0} (g : Ghosts O W C) (outside : O) (schema : List ℕ)
    (refused : Refused O) : Type 0 where
  pub untold : OpensUntold (stripped schema) (seen_of g outside) (seen_of g refused.directory)
  pub sound : IsSoundDirectory (stripped schema) (g.disk refused.directory) (g.view refused.directory).locks

-- The one or the other, where the directory was sound under the schema that these bytes spell.
abbrev pub SurvivesOpening : {O W C : Type 0} → Ghosts O W C → (outside : O) → (schema : List ℕ)
    → Result (StoreState O) (Refused O) → Type 0
SurvivesOpening g outside schema result =
    g.tells_images → g.told.heard → g.told.locks
    → IsSoundDirectory (stripped schema) (g.disk outside) (g.view outside).locks
    → MatchResult result (StartsSafely g outside schema) (RefusesSafely g outside schema)
