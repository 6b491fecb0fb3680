-- While the meta lock is held for a reload, the files of the commit that it has noted stay the same.
use Rattle.std.proofs.Common.{◌≡◌, ℕ, true, true≢false, ◌||◌, List, [], ◌∷◌, map, refl, sym, ap, ap₂, ◌∙◌}
use Rattle.std.proofs.lemmas.Bool.{or_left, or_right}
use Rattle.tv_formats.specs.declared.segment.LiveSegment.{LiveSegment}
use Rattle.tv_formats.specs.Commits.{Commit}
use Rattle.tv_formats.specs.Names.{is, has}
use Rattle.tv_formats.specs.Segments.{all_required, required_names}
use Rattle.tv_formats.proofs.CollectedNames.{has_append}
use Rattle.tv_formats.proofs.Entries.{is_itself}
use Rattle.tv_machine.specs.Living.{is_busy}
use Rattle.tv_machine.specs.Machine.{Turn, after, step}
use Rattle.tv_machine.specs.ReaderEvents.{bodies_in, body_in}
use Rattle.tv_machine.specs.Serving.{IsBusyAfterEach}
use Rattle.tv_machine.specs.SoundStates.{IsWhole}
use Rattle.tv_machine.specs.State.{State, file_at}
use Rattle.tv_machine.proofs.Changes.{step_changes}
use Rattle.tv_machine.proofs.KeptFiles.{IsKept, Keeps, keeps_changes, still_sealed}
use Rattle.tv_machine.proofs.WholeStates.{after_whole}

-- of names whose files are the same the bodies are
same_each : (f g : List ℕ → List ℕ) (names : List (List ℕ)) → ((n : List ℕ) → has names n ≡ true → f n ≡ g n) → map f names ≡ map g names
same_each f g [] h = refl
same_each f g (name ∷ names) h =
    ap₂ (λ (x : List ℕ) (l : List (List ℕ)). x ∷ l) (h name (or_left (is name name) (has names name) (is_itself name))) (same_each f g names (λ n there. h n (or_right (is name n) (has names n) there)))

same_bodies_of : (s t : State) (segments : List (List ℕ × LiveSegment)) → ((n : List ℕ) → has (all_required segments) n ≡ true → file_at t n ≡ file_at s n)
    → map (λ e. map (λ name. body_in (file_at t name)) (required_names e.0 e.1)) segments ≡ map (λ e. map (λ name. body_in (file_at s name)) (required_names e.0 e.1)) segments
same_bodies_of s t [] h = refl
same_bodies_of s t (e ∷ segments) h =
    let among : (n : List ℕ) → (has (required_names e.0 e.1) n || has (all_required segments) n) ≡ true → file_at t n ≡ file_at s n = λ n there. h n (has_append (required_names e.0 e.1) (all_required segments) n ∙ there) in
    ap₂ (λ (x : List (List ℕ)) (l : List (List (List ℕ))). x ∷ l)
    (same_each (λ n. body_in (file_at t n)) (λ n. body_in (file_at s n)) (required_names e.0 e.1) (λ n there. ap body_in (among n (or_left _ _ there))))
    (same_bodies_of s t segments (λ n there. among n (or_right _ _ there)))

pub same_bodies : (s t : State) (commit : Commit) → ((n : List ℕ) → has (all_required commit.segments) n ≡ true → file_at t n ≡ file_at s n) → bodies_in t commit ≡ bodies_in s commit
same_bodies s t commit h = same_bodies_of s t commit.segments h

-- the files of such a commit are the same after turns after each of which the lock is held
pub busy_run : (t : State) (turns : List Turn) (commit : Commit) → IsWhole t → IsKept t commit → IsBusyAfterEach t turns → (n : List ℕ) → has (all_required commit.segments) n ≡ true → file_at (after t turns) n ≡ file_at t n
busy_run t [] commit whole kept busy n is = refl
busy_run t (turn ∷ turns) commit whole kept busy n is =
    let u = (step t turn.0 turn.1).1 in
    let keeps : Keeps t u commit = step_changes (λ v. Keeps t v commit) t turn.0 turn.1 (keeps_changes t turn.0 commit whole.collecting kept) in
    let held : is_busy u.catalog ≡ true = busy (turn ∷ []) turns refl (λ none. absurd cc) in
    busy_run u turns commit (after_whole t (turn ∷ []) whole) (record {
      sealed = still_sealed t u commit keeps kept.sealed;
      unheld = keeps.unheld;
      current = λ free. absurd (true≢false (sym held ∙ free));
    }) (λ front rest e some. busy (turn ∷ front) rest (ap (λ (l : List Turn). turn ∷ l) e) (λ none. absurd cc)) n is
    ∙ keeps.same n is
