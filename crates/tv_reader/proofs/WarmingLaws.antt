-- What calls of warmers in order do to each of them.
use Rattle.std.proofs.Common.{◌≡◌, ◌⊎◌, inl, inr, ℕ, Bool, false, List, [], ◌∷◌, Option, Some, None, Result, Ok, Err, IfErr, refl, sym, subst}
use Rattle.std.specs.Prelude.{IsTrue, is_some}
use Rattle.std.specs.List.{list_any}
use Rattle.tv_base.specs.declared.error.TantivyError.{TantivyError}
use Rattle.tv_base.specs.declared.error.TantivyError.TheVariants.{Exhausted, Memory}
use Rattle.tv_reader.specs.Publishing.{UnpublishedBy}
use Rattle.tv_reader.specs.Readers.{CountCause, FilesRead, Noted, OfRead, ReaderState, ReloadState}
use Rattle.tv_reader.specs.Searchers.{CommitRead, CommitShown, shown_as}
use Rattle.tv_reader.specs.Warming.{Called, EndsAtError, HasAnswered, InOrder, Stopped, Warmed, WarmerCall, WarmersState, Warms}

abbrev err_of : {A E : Type 0} → E → Result A E
err_of e = Err e

same_error : {A E : Type 0} (e f : E) → err_of {A = A} e ≡ err_of f → f ≡ e
same_error e f h = cc

module _ {W : Type 0} (errors : W → ℕ) (test : W → TantivyError → Bool) (called_for : W → Option (List WarmerCall)) where
  unchanged : (ws : List (Option W)) → EndsAtError errors ws ws
  unchanged [] = refl
  unchanged (None ∷ rest) = (refl, unchanged rest)
  unchanged (Some a ∷ rest) = inr refl

  ends : (call : WarmerCall) (before now : List (Option W)) (r : Result (Unit {0}) TantivyError) → InOrder (Called errors test called_for call) (Stopped errors test called_for call) before now r → EndsAtError errors before now
  ends call [] now r h = h.0
  ends call (a ∷ rest) [] r h = absurd h
  ends call (None ∷ rest) (b ∷ now) r (inl h) = (h.0, ends call rest now r h.1)
  ends call (None ∷ rest) (b ∷ now) r (inr h) = absurd h.2
  ends call (Some a ∷ rest) (None ∷ now) r (inl h) = absurd h.0
  ends call (Some a ∷ rest) (None ∷ now) r (inr h) = absurd h.2
  ends call (Some a ∷ rest) (Some b ∷ now) r (inl h) = inl (h.0.1, ends call rest now r h.1)
  ends call (Some a ∷ rest) (Some b ∷ now) r (inr h) = inr h.3

  -- a warming ends at the first error
  pub ends_at_error : (shown : CommitShown) (old new : WarmersState W) (r : Result (Unit {0}) TantivyError) → Warms errors test called_for shown old new r → EndsAtError errors old.left new.left
  ends_at_error shown old new r (inl h) =
      subst (λ (s : WarmersState W). EndsAtError errors old.left s.left) (sym h.0) (unchanged old.left)
  ends_at_error shown old new r (inr h) = ends (Warmed shown) old.left new.left r h.2

  answered : (call : WarmerCall) (before now : List (Option W)) (e : TantivyError) → InOrder (Called errors test called_for call) (Stopped errors test called_for call) before now (Err e) → HasAnswered errors test e before now
  answered call [] now e h = absurd (cc (h.1))
  answered call (a ∷ rest) [] e h = absurd h
  answered call (None ∷ rest) (b ∷ now) e (inl h) = answered call rest now e h.1
  answered call (None ∷ rest) (b ∷ now) e (inr h) = absurd h.2
  answered call (Some a ∷ rest) (None ∷ now) e (inl h) = absurd h.0
  answered call (Some a ∷ rest) (None ∷ now) e (inr h) = absurd h.2
  answered call (Some a ∷ rest) (Some b ∷ now) e (inl h) = inr (answered call rest now e h.1)
  answered call (Some a ∷ rest) (Some b ∷ now) e (inr h) =
      inl (h.2.1, subst (λ (f : TantivyError). IsTrue (test b f)) (same_error e h.0 h.1) h.2.2)

  -- why a commit isn't shown
  pub why_unpublished : (commit : CommitRead) (old new : ReaderState) (before after : WarmersState W) (e : TantivyError) → UnpublishedBy errors test called_for commit old new before after e
      → ((e ≡ Exhausted) ⊎ (e ≡ Memory)) ⊎ HasAnswered errors test e before.left after.left
  why_unpublished commit old new before after e (inl h) = counts h.2 where
    counts : CountCause (old.next ≡ 18446744073709551615) e → ((e ≡ Exhausted) ⊎ (e ≡ Memory)) ⊎ HasAnswered errors test e before.left after.left
    counts (inl k) = inl (inl k.0)
    counts (inr k) = inl (inr k)
  why_unpublished commit old new before after e (inr h) = warms h.1 where
    wanted : ((list_any is_some before.left ≡ false) × (err_of {A = Unit {0}} e ≡ Ok tt)) ⊎ (err_of {A = Unit {0}} e ≡ err_of Memory) → (e ≡ Exhausted) ⊎ (e ≡ Memory)
    wanted (inl k) = absurd (cc (k.1))
    wanted (inr k) = inr (sym (same_error e Memory k))

    warms : Warms errors test called_for (shown_as old.next commit) before after (Err e) → ((e ≡ Exhausted) ⊎ (e ≡ Memory)) ⊎ HasAnswered errors test e before.left after.left
    warms (inl k) = inl (wanted k.1)
    warms (inr k) = inr (answered (Warmed (shown_as old.next commit)) before.left after.left e k.2)

  -- why the last commit isn't shown
  pub why_no_reload : {R : Type 0} (Same : Type 0) (Load : TantivyError → Type 0) (Loads : CommitRead → Type 0) (old new : ReaderState) (before after : WarmersState W) (result : Result R TantivyError)
      → IfErr result (λ e. (Same × Load e) ⊎ ((commit : CommitRead) × Loads commit × UnpublishedBy errors test called_for commit old new before after e)) → IfErr result (λ e. Load e ⊎ (((e ≡ Exhausted) ⊎ (e ≡ Memory)) ⊎ HasAnswered errors test e before.left after.left))
  why_no_reload Same Load Loads old new before after (Ok r) h = tt
  why_no_reload Same Load Loads old new before after (Err e) (inl h) = inl h.1
  why_no_reload Same Load Loads old new before after (Err e) (inr h) =
      inr (why_unpublished h.0 old new before after e h.2)

  -- why the commit of a reload isn't shown
  pub why_no_end : {R : Type 0} (reload : Option ReloadState) (old new : ReaderState) (before after : WarmersState W) (result : Result R TantivyError)
      → IfErr result (λ e. OfRead reload (λ commit. UnpublishedBy errors test called_for commit old new before after e)) → IfErr result (λ e. ((e ≡ Exhausted) ⊎ (e ≡ Memory)) ⊎ HasAnswered errors test e before.left after.left)
  why_no_end reload old new before after (Ok r) h = tt
  why_no_end None old new before after (Err e) h = absurd h
  why_no_end (Some (Noted schema commit lock)) old new before after (Err e) h = absurd h
  why_no_end (Some (FilesRead commit)) old new before after (Err e) h = why_unpublished commit old new before after e h
