-- What a race leaves that failed.
use Rattle.std.proofs.Common.{◌≡◌, ◌⊎◌, inl, inr, ⊎_elim, List, Result, Ok, Err, refl, sym, ap, subst, ◌∙◌}
use Rattle.std.specs.Prelude.{IfErr, IfOk, IsErrAnd, true}
use Rattle.tv_base.specs.declared.error.TantivyError.TheVariants as errors
use Rattle.tv_events.specs.declared.event.Event.{Event}
use Rattle.tv_histories.specs.declared.entry.Entry.{Entry}
use Rattle.tv_histories.specs.declared.entry.Receipt.{Receipt}
use Rattle.tv_histories.specs.declared.shared_error.SharedError.{SharedError}
use Rattle.tv_histories.specs.declared.shared_error.SharedError.TheVariants as shared
use Rattle.tv_histories.specs.Races.{IsOfStore, IsUneven}
use Rattle.tv_histories.specs.Receipts.{DiffersFrom}
use Rattle.tv_machine.specs.State.{Snapshot}
use Rattle.tv_shared.specs.Closing.{HasClosed, IsNotClosed}
use Rattle.tv_shared.specs.Raced.{Compares, FailsToSettle, HasFailed, MayFail}
use Rattle.tv_shared.specs.Names.{Name}
use Rattle.tv_stepping.specs.declared.ending.Ending.{Ending}
use Rattle.tv_stepping.specs.declared.ending.Ending.TheVariants.{Failed}
use Rattle.tv_stepping.specs.declared.event_store.EventStore.{Ghosts}

-- a receipt that differs, or want of memory
differs : (ending : Ending) (scripts : List (List Event)) (history : List Entry) (r : Receipt)
    (error : SharedError) → DiffersFrom history r error → MayFail ending scripts history error
differs ending scripts history r (shared.Store error) d = inl (ap (λ e. shared.Store e) d)
differs ending scripts history r (shared.Ended m) d = absurd d
differs ending scripts history r (shared.Differs receipt kept) d =
    inr (inl (subst (λ (q : Receipt). Compares scripts history (shared.Differs q kept)) (sym d.0)
    (d.1, d.2)))
differs ending scripts history r (shared.Uneven a b) d = absurd d

uneven : (ending : Ending) (scripts : List (List Event)) (history : List Entry) (error : SharedError)
    → IsUneven scripts history error → MayFail ending scripts history error
uneven ending scripts history (shared.Store error) u = absurd u
uneven ending scripts history (shared.Ended m) u = absurd u
uneven ending scripts history (shared.Differs receipt kept) u = absurd u
uneven ending scripts history (shared.Uneven a b) u = inr (inl u)

-- the callers have another number of events than the history
pub unsettled : {X A : Type 0} (items : X → List Entry) (scripts : List (List Event))
    (outcome : Result X SharedError) (result : Result A SharedError) (error : SharedError) (h : X)
    (kept : List Entry) → IsErrAnd result (λ e. e ≡ error) → outcome ≡ Ok h → kept ≡ items h
    → IsUneven scripts kept error → IfErr result (FailsToSettle items scripts outcome)
unsettled items scripts outcome (Ok a) error h kept is ok same u = tt
unsettled items scripts outcome (Err e) error h kept is ok same u =
    inr (inr (
      h,
      ok,
      subst (λ (l : List Entry). IsUneven scripts l e) same
          (subst (λ (q : SharedError). IsUneven scripts kept q) (sym is) u),
    ))

module _ {S X : Type 0} (g : Ghosts S) (n : Name) (store : S) (published : List Snapshot)
    (receipts : List Receipt) (scripts : List (List Event)) (items : X → List Entry) where
  -- what always held under the lock, whatever closing answered
  stood : (outcome : Result X SharedError) → IfOk outcome (λ h. HasClosed g n store (items h) published)
      → IfErr outcome (IsNotClosed g n store published receipts)
      → (history : List Entry) × HasClosed g n store history published
  stood (Ok h) ok err = (items h, ok)
  stood (Err error) ok err = (err.0, err.1)

  -- the event of a script failed
  pub event_failed : (outcome : Result X SharedError) (error : SharedError)
      → IfOk outcome (λ h. HasClosed g n store (items h) published)
      → IfErr outcome (IsNotClosed g n store published receipts)
      → (error ≡ shared.Store errors.Memory) ⊎ ((g.stands store ≡ Failed) × IsOfStore error)
      → HasFailed g n store scripts error
  event_failed outcome error ok err why =
      let s = stood outcome ok err in
      record {
        history = s.0;
        published = published;
        closed = s.1;
        cause =
            ⊎_elim (λ (m : error ≡ shared.Store errors.Memory). inl m)
            (λ (f : (g.stands store ≡ Failed) × IsOfStore error). inr (inr f)) why;
      }

  -- no event failed, but no race was found in what closing gave
  pub not_settled : (outcome : Result X SharedError) (error : SharedError)
      → IfOk outcome (λ h. HasClosed g n store (items h) published)
      → IfErr outcome (IsNotClosed g n store published receipts)
      → FailsToSettle items scripts outcome error → HasFailed g n store scripts error
  not_settled (Ok h) error ok err why =
      record {
        history = items h;
        published = published;
        closed = ok;
        cause =
            ⊎_elim (λ (m : error ≡ shared.Store errors.Memory). inl m)
            (λ (v : (Ok h ≡ Err error) ⊎ ((k : X) × (Ok h ≡ Ok k) × IsUneven scripts (items k) error)).
            ⊎_elim (λ (e : Ok h ≡ Err error). cc)
            (λ (t : (k : X) × (Ok h ≡ Ok k) × IsUneven scripts (items k) error).
            let same : h ≡ t.0 = cc in
            uneven (g.stands store) scripts (items h) error
            (subst (λ (k : X). IsUneven scripts (items k) error) (sym same) t.2)) v) why;
      }
  not_settled (Err e) error ok err why =
      record {
        history = err.0;
        published = published;
        closed = err.1;
        cause =
            ⊎_elim (λ (m : error ≡ shared.Store errors.Memory). inl m)
            (λ (v : (Err e ≡ Err error) ⊎ ((k : X) × (Err e ≡ Ok k) × IsUneven scripts (items k) error)).
            ⊎_elim
            (λ (s : Err e ≡ Err error).
            let same : e ≡ error = cc in
            subst (λ (q : SharedError). MayFail (g.stands store) scripts err.0 q) same
            (differs (g.stands store) scripts err.0 err.2.1 e err.2.3))
            (λ (t : (k : X) × (Err e ≡ Ok k) × IsUneven scripts (items k) error). cc) v) why;
      }

module _ {S X : Type 0} (g : Ghosts S) (n : Name) (store now : S) (published : List Snapshot)
    (receipts : List Receipt) (scripts : List (List Event)) (items : X → List Entry)
    (outcome : Result X SharedError)
    (ok : IfOk outcome (λ h. HasClosed g n store (items h) published))
    (err : IfErr outcome (IsNotClosed g n store published receipts)) (same : now ≡ store) where
  -- the same for the store that is taken out
  pub event_failed_out : (ending : Ending) (error : SharedError) → ending ≡ g.stands now
      → (error ≡ shared.Store errors.Memory) ⊎ ((ending ≡ Failed) × IsOfStore error)
      → HasFailed g n now scripts error
  event_failed_out ending error is why =
      subst (λ (s : S). HasFailed g n s scripts error) (sym same)
      (event_failed g n store published receipts scripts items outcome error ok err
      (⊎_elim (λ (m : error ≡ shared.Store errors.Memory). inl m)
      (λ (f : (ending ≡ Failed) × IsOfStore error).
      inr (ap (λ (s : S). g.stands s) (sym same) ∙ sym is ∙ f.0, f.1)) why))

  pub not_settled_out : {A : Type 0} (given : Result X SharedError) → given ≡ outcome
      → (result : Result A SharedError)
      → IfErr result (FailsToSettle items scripts given)
      → IfErr result (λ error. true ≡ true → HasFailed g n now scripts error)
  not_settled_out given taken (Ok a) why = tt
  not_settled_out given taken (Err error) why = λ _.
      subst (λ (s : S). HasFailed g n s scripts error) (sym same)
      (not_settled g n store published receipts scripts items outcome error ok err
      (subst (λ (o : Result X SharedError). FailsToSettle items scripts o error) taken why))
