-- A store that isn't shared.
use Rattle.std.proofs.Common.{◌≡◌, ◌⊎◌, inl, inr, ⊎_elim, ◌≤◌, ◌++◌, ℕ, List, [], ◌∷◌, length, true, false, true≢false, refl, sym, ap, subst, ◌∙◌, arith}
use Rattle.tv_base.specs.declared.error.TantivyError.{TantivyError}
use Rattle.tv_base.specs.declared.error.TantivyError.TheVariants as errors
use Rattle.tv_histories.specs.declared.entry.Entry.{Entry}
use Rattle.tv_histories.specs.declared.shared_error.SharedError.{SharedError}
use Rattle.tv_histories.specs.declared.shared_error.SharedError.TheVariants as shared
use Rattle.tv_histories.specs.Receipts.{entry}
use Rattle.tv_machine.specs.State.{Snapshot}
use Rattle.tv_shared.specs.Begins.{IsNotShared, first_event}
use Rattle.tv_shared.specs.Logs.{IsStart, Keeps, Log, log_of}
use Rattle.tv_shared.specs.Moves.{IsNotApplied, IsUnanswered, IsUnpublished, StaysAs, Stops}
use Rattle.tv_shared.specs.Names.{Name}
use Rattle.tv_shared.proofs.Keeping.{as_ended, begins}
use Rattle.tv_shared.proofs.Refusals.{failed_or_memory}
use Rattle.tv_stepping.specs.declared.ending.Ending.TheVariants.{Failed}
use Rattle.tv_stepping.specs.declared.event_store.EventStore.{Ghosts}

no_more : (h old : List Entry) → h ≡ old → old ≡ [] → length h ≤ 1
no_more h old same none = let l = ap length (same ∙ none) in omega arith

one_more : (h old : List Entry) (x : Entry) → h ≡ old ++ x ∷ [] → old ≡ [] → length h ≤ 1
one_more h old x same none = let l = ap length (same ∙ ap (λ o. o ++ x ∷ []) none) in omega arith

module _ {S : Type 0} (g : Ghosts S) (n : Name) where
  -- memory was wanting, with at most one entry
  pub lacks_memory : (old : S) (log : Log S) → length log.history ≤ 1 → Keeps g n log
      → IsNotShared g n old log.store errors.Memory
  lacks_memory old log few k = record {
    cause = inl refl;
    history = log.history;
    few = few;
    published = log.published;
    keeps = as_ended g n log k;
  }

  -- before the first event
  pub lacks_memory_first : (store : S) → IsStart g n store → IsNotShared g n store store errors.Memory
  lacks_memory_first store i =
      lacks_memory store (log_of store [] [] false) (omega arith) (begins g n store [] i refl)

  module _ (old new : Log S) (error : TantivyError) (none : old.history ≡ []) where
    why : Stops g old new first_event error
        → (error ≡ errors.Memory)
        ⊎ ((g.stands new.store ≡ Failed) × g.refused old.store new.store first_event error)
    why stop =
        ⊎_elim (λ (u : StaysAs old new × (error ≡ errors.Memory)). inl u.1)
        (λ (v : IsUnanswered g old new first_event error
        ⊎ (IsUnpublished g old new first_event × (error ≡ errors.Memory))).
        ⊎_elim
        (λ (u : IsUnanswered g old new first_event error).
        ⊎_elim (λ (m : error ≡ errors.Memory). inl m)
        (λ (f : g.stands new.store ≡ Failed). inr (f, u.cause))
        (failed_or_memory (g.stands new.store) error u.stands u.memory))
        (λ (u : IsUnpublished g old new first_event × (error ≡ errors.Memory)). inl u.1) v)
        stop

    few : Stops g old new first_event error → length new.history ≤ 1
    few stop =
        ⊎_elim
        (λ (u : StaysAs old new × (error ≡ errors.Memory)). no_more new.history old.history u.0.history none)
        (λ (v : IsUnanswered g old new first_event error
        ⊎ (IsUnpublished g old new first_event × (error ≡ errors.Memory))).
        ⊎_elim
        (λ (u : IsUnanswered g old new first_event error).
        no_more new.history old.history u.history none)
        (λ (u : IsUnpublished g old new first_event × (error ≡ errors.Memory)).
        one_more new.history old.history (entry first_event u.0.answer) u.0.entered.history none) v)
        stop

    stopped : Keeps g n new → Stops g old new first_event error → IsNotShared g n old.store new.store error
    stopped k stop = record {
      cause = why stop;
      history = new.history;
      few = few stop;
      published = new.published;
      keeps = as_ended g n new k;
    }

  -- the first event failed
  pub not_begun : (old new : Log S) (error : SharedError) (why : TantivyError)
      → IsNotApplied g old new first_event error → ((e : TantivyError) → error ≡ shared.Store e → why ≡ e)
      → old.history ≡ [] → old.has_ended ≡ false → Keeps g n new → IsNotShared g n old.store new.store why
  not_begun old new (shared.Store e) why not same none was k =
      subst (λ (q : TantivyError). IsNotShared g n old.store new.store q) (sym (same e refl))
      (stopped old new e none k not.2)
  not_begun old new (shared.Ended m) why not same none was k = absurd (true≢false (sym not.0 ∙ was))
  not_begun old new (shared.Differs a b) why not same none was k = absurd not
  not_begun old new (shared.Uneven a b) why not same none was k = absurd not
