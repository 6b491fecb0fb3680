-- What users rely on.
use Rattle.std.proofs.Common.{◌≡◌, ◌+◌, ℕ, List, [], ◌∷◌, ◌++◌, length, true, true≢false, Some, Result, Ok, Err, refl, sym, ap, ◌∙◌, append_assoc, length-append, arith}
use Rattle.std.specs.Prelude.{slice_get, IfErr, IfOk, IsErr}
use Rattle.tv_events.specs.declared.event.Event.{Event}
use Rattle.tv_histories.specs.declared.entry.Entry.{Entry}
use Rattle.tv_histories.specs.declared.entry.Receipt.{Receipt}
use Rattle.tv_histories.specs.declared.shared_error.SharedError.{SharedError}
use Rattle.tv_histories.specs.declared.shared_error.SharedError.TheVariants as shared
use Rattle.tv_histories.specs.Receipts.{Stands, entry}
use Rattle.tv_shared.specs.Logs.{Log}
use Rattle.tv_shared.specs.Moves.{Advances, IsNotApplied}
use Rattle.tv_stepping.specs.declared.event_store.EventStore.{Ghosts}

get_last : {A : Type 0} (front : List A) (x : A) → slice_get (front ++ x ∷ []) (length front) ≡ Some x
get_last [] x = refl
get_last (y ∷ front) x = get_last front x

module _ {S : Type 0} (g : Ghosts S) where
  -- a receipt is the entry at its place
  pub stands_there : (old new : Log S) (event : Event) (receipt : Receipt)
      → Advances g old new event receipt → Stands new.history receipt
  stands_there old new event receipt a =
      ap (λ k. slice_get new.history k) a.place
      ∙ ap (λ (h : List Entry). slice_get h (length old.history)) a.entered.history
      ∙ get_last old.history (entry event receipt.answer)
      ∙ ap (λ (e : Event). Some (entry e receipt.answer)) (sym a.same)

  -- one event behind the other
  pub in_order : (old mid new : Log S) (a b : Event) (p q : Receipt) → Advances g old mid a p
      → Advances g mid new b q
      → (new.history ≡ old.history ++ entry a p.answer ∷ entry b q.answer ∷ [])
      × (q.place ≡ length old.history + 1)
  in_order old mid new a b p q first second =
      let l = ap length first.entered.history in
      let place = second.place in (
        second.entered.history
            ∙ ap (λ (h : List Entry). h ++ entry b q.answer ∷ []) first.entered.history
            ∙ append_assoc old.history (entry a p.answer ∷ []) (entry b q.answer ∷ []),
        omega (arith, length-append old.history (entry a p.answer ∷ [])),
      )

  has_ended_then : (old new : Log S) (event : Event) (error : SharedError)
      → IsNotApplied g old new event error → new.has_ended ≡ true
  has_ended_then old new event (shared.Store e) not = not.1
  has_ended_then old new event (shared.Ended m) not = ap (λ (l : Log S). l.has_ended) not.2 ∙ not.0
  has_ended_then old new event (shared.Differs a b) not = absurd not
  has_ended_then old new event (shared.Uneven a b) not = absurd not

  ended_now : (old new : Log S) (event : Event) (answer : Result Receipt SharedError)
      → old.has_ended ≡ true → IfOk answer (Advances g old new event)
      → IfErr answer (IsNotApplied g old new event) → answer ≡ Err (shared.Ended (length new.history))
  ended_now old new event (Ok receipt) ended ok err = absurd (true≢false (sym ended ∙ ok.was_open))
  ended_now old new event (Err (shared.Store e)) ended ok err = absurd (true≢false (sym ended ∙ err.0))
  ended_now old new event (Err (shared.Ended m)) ended ok err =
      ap (λ k. Err (shared.Ended k)) (err.1 ∙ ap (λ (l : Log S). length l.history) (sym err.2))
  ended_now old new event (Err (shared.Differs a b)) ended ok err = absurd err
  ended_now old new event (Err (shared.Uneven a b)) ended ok err = absurd err

  -- after an error
  pub ended_then : (old mid new : Log S) (a b : Event) (first second : Result Receipt SharedError)
      → IfErr first (IsNotApplied g old mid a) → IfOk second (Advances g mid new b)
      → IfErr second (IsNotApplied g mid new b) → IsErr first
      → second ≡ Err (shared.Ended (length new.history))
  ended_then old mid new a b (Ok receipt) second not ok err failed = absurd (true≢false (sym failed))
  ended_then old mid new a b (Err error) second not ok err failed =
      ended_now mid new b second (has_ended_then old mid a error not) ok err
