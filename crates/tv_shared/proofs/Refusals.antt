-- What is known of refused calls after one event more.
use Rattle.std.proofs.Common.{◌≡◌, ◌⊎◌, inl, inr, ⊎_elim, ℕ, List, Ok, Err, refl, subst, ◌∙◌}
use Rattle.std.specs.Prelude.{◌↔◌}
use Rattle.tv_base.specs.declared.error.TantivyError.{TantivyError}
use Rattle.tv_base.specs.declared.error.TantivyError.TheVariants as errors
use Rattle.tv_events.specs.declared.event.Event.{Event}
use Rattle.tv_formats.specs.Files.{Rose}
use Rattle.tv_shared.specs.Counting.{KeepsCount}
use Rattle.tv_shared.specs.Logs.{IsStart}
use Rattle.tv_shared.specs.Moves.{CountsIn}
use Rattle.tv_shared.specs.Names.{Name}
use Rattle.tv_stepping.specs.declared.ending.Ending.{Ending}
use Rattle.tv_stepping.specs.declared.ending.Ending.TheVariants.{Open, Memory, Failed}
use Rattle.tv_stepping.specs.declared.event_store.EventStore.{Ghosts}

open_not_failed : (stands : Ending) → stands ≡ Open → stands ≡ Failed → ⊥
open_not_failed Open o f = cc
open_not_failed Memory o f = cc
open_not_failed Failed o f = cc

memory_not_failed : (stands : Ending) → stands ≡ Memory → stands ≡ Failed → ⊥
memory_not_failed Open m f = cc
memory_not_failed Memory m f = cc
memory_not_failed Failed m f = cc

-- a store that isn't open says that it failed, or the error is want of memory
pub failed_or_memory : (stands : Ending) (error : TantivyError) → (stands ≡ Open → ⊥)
    → ((stands ≡ Memory) ↔ (error ≡ errors.Memory)) → (error ≡ errors.Memory) ⊎ (stands ≡ Failed)
failed_or_memory Open error closed memory = absurd (closed refl)
failed_or_memory Memory error closed memory = inl (memory.0 refl)
failed_or_memory Failed error closed memory = inr refl

module _ {S : Type 0} (g : Ghosts S) (n : Name) where
  -- a store that is just opened
  pub count_first : (store : S) → IsStart g n store → KeepsCount g n store
  count_first store i = record {
    since = i.since;
    quiet = λ _. i.counted;
    sound = i.sound;
    failed = λ _ f. absurd (open_not_failed (g.stands store) i.opened f);
  }

  module _ (old new : S) (event : Event) (k : KeepsCount g n old) (was : g.stands old ≡ Open) where
    -- an event that was applied
    pub count_on : (answer : List ℕ) → CountsIn g old new event (Ok answer) → g.stands new ≡ Open
        → KeepsCount g n new
    count_on answer c opened = record {
      since = c.opened ∙ k.since;
      quiet = λ _. c.quiet ∙ k.quiet was;
      sound = λ s. c.stays (k.sound s);
      failed = λ _ f. absurd (open_not_failed (g.stands new) opened f);
    }

    why : (error : TantivyError) → CountsIn g old new event (Err error)
        → ((g.stands new ≡ Memory) ↔ (error ≡ errors.Memory)) → n.sound → g.stands new ≡ Failed
        → Rose n.faults (g.faults new) ⊎ ((before : S) × (e : Event) × g.spent before e)
    why error c memory s f =
        ⊎_elim (λ (m : error ≡ errors.Memory). absurd (memory_not_failed (g.stands new) (memory.1 m) f))
        (λ (v : Rose (g.faults old) (g.faults new) ⊎ ((error ≡ errors.Exhausted) × g.spent old event)).
        ⊎_elim
        (λ (r : Rose (g.faults old) (g.faults new)).
        inl (subst (λ (before : ℕ). Rose before (g.faults new)) (k.quiet was) r))
        (λ (t : (error ≡ errors.Exhausted) × g.spent old event). inr (old, event, t.1)) v)
        (c.err (k.sound s))

    -- an event that was refused
    pub count_off : (error : TantivyError) → CountsIn g old new event (Err error)
        → ((g.stands new ≡ Memory) ↔ (error ≡ errors.Memory)) → (g.stands new ≡ Open → ⊥)
        → KeepsCount g n new
    count_off error c memory closed = record {
      since = c.opened ∙ k.since;
      quiet = λ o. absurd (closed o);
      sound = λ s. c.stays (k.sound s);
      failed = λ s f. why error c memory s f;
    }
