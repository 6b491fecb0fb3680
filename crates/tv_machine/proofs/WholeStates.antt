-- The files that the kept commits require stay sealed.
use Rattle.std.proofs.Common.{◌≡◌, ℕ, Bool, true, false, not, ◌||◌, cond, List, [], ◌∷◌, Option, Some, None, refl, sym, subst}
use Rattle.std.specs.Prelude.{option_map, find}
use Rattle.std.specs.List.{AllByRecursion}
use Rattle.std.proofs.lemmas.Bool.{not-false}
use Rattle.tv_events.specs.declared.event.Event.{Event}
use Rattle.tv_formats.specs.declared.segment.LiveSegment.{LiveSegment}
use Rattle.tv_formats.specs.Commits.{Commit}
use Rattle.tv_formats.specs.Names.{is, has}
use Rattle.tv_formats.specs.Segments.{name_of, all_required}
use Rattle.tv_machine.specs.State.{State, FileState, SealedFile, Open, Left, file_at, with_file, on_catalog}
use Rattle.tv_machine.specs.CommitEvents.{is_sealed, chosen, first_unsealed, committed}
use Rattle.tv_machine.specs.Living.{kept_commits}
use Rattle.tv_machine.specs.CollectionEvents.{collected, collection_begun, ended, having_deleted, left, released}
use Rattle.tv_machine.specs.DeleteEvents.{having_deleted_docs}
use Rattle.tv_machine.specs.FileEvents.{opened}
use Rattle.tv_machine.specs.ReopenEvents.{reopened}
use Rattle.tv_machine.specs.Machine.{Turn, after}
use Rattle.tv_machine.specs.SoundStates.{HasSealedFiles, IsUnheld, IsWhole}
use Rattle.tv_formats.proofs.Entries.{is_text}
use Rattle.tv_machine.proofs.Changes.{OfEachChange, step_changes, after_kept}
use Rattle.tv_machine.proofs.HeldStates.{collecting_changes}
pub use Rattle.tv_machine.proofs.KeptFiles.{at_all_left, tried_spared}
use Rattle.tv_machine.proofs.KeptFiles.{IsKept, Keeps, all_kept, current_unheld, keeps_changes, still_sealed}
use Rattle.tv_machine.proofs.ReaderMoves.{all_weaker, noticed_unread, unread_moved}

-- where none of some texts passes a test, each of them fails it
none_passes : (test : List ℕ → Bool) (xs : List (List ℕ)) (n : List ℕ) → find test xs ≡ None → has xs n ≡ true → test n ≡ false
none_passes test [] n e h = absurd cc
none_passes test (x ∷ xs) n e h =
    elim (test x) as (λ b. test x ≡ b → cond b (Some x) (find test xs) ≡ None → test n ≡ false) [
      | true ↦ λ t k. absurd cc
      | false ↦ λ t k.
          elim (is x n) as (λ b. is x n ≡ b → (b || has xs n) ≡ true → test n ≡ false) [
            | true ↦ λ same r. subst (λ (m : List ℕ). test m ≡ false) (is_text x n same) t
            | false ↦ λ other r. none_passes test xs n k r
          ] refl h
    ] refl e

-- a commit, all of whose files are sealed
committed_whole : (s : State) (payload : Option (List ℕ)) (segments : List (List ℕ × LiveSegment)) → first_unsealed s segments ≡ None
    → HasSealedFiles (on_catalog s (committed s.catalog payload segments)).1 (committed s.catalog payload segments).1.commit
committed_whole s payload segments e n is = not-false (is_sealed (file_at s n)) (none_passes (λ name. not (is_sealed (file_at s name))) (all_required segments) n e is)

-- what the kept commits require stays sealed, and no collection takes it
pub whole_changes : (s : State) (event : Event) → IsWhole s → OfEachChange IsWhole s event
whole_changes s event h = let k = collecting_changes s event h.collecting in record {
  same = h;
  lives = λ id segment move. record { each = h.each; unheld = h.unheld; collecting = k.lives id segment move };
  reads = λ now move. record {
    each = (h.each.0, unread_moved (HasSealedFiles s) s now move h.each.0 h.each.1);
    unheld = (h.unheld.0, unread_moved (IsUnheld s) s now move h.unheld.0 h.unheld.1);
    collecting = k.reads now move;
  };
  opens = λ id segment component e there absent.
      let kept = kept_in (opened s (name_of id segment.deletes component)).1 (λ commit c. c.opens id segment component e there absent) in
      record { each = kept.0; unheld = kept.1; collecting = k.opens id segment component e there absent };
  puts = λ name body file e good.
      let kept = kept_in (with_file s name file) (λ commit c. c.puts name body file e good) in
      record { each = kept.0; unheld = kept.1; collecting = k.puts name body file e good };
  commits = λ payload ids last e.
      let now = k.commits payload ids last e in record {
        each = (committed_whole s payload (chosen s.catalog ids) e, subst (AllByRecursion (HasSealedFiles s)) (sym (noticed_unread s.catalog)) h.each.1);
        unheld = (current_unheld (on_catalog s (committed s.catalog payload (chosen s.catalog ids))).1 now, subst (AllByRecursion (IsUnheld s)) (sym (noticed_unread s.catalog)) h.unheld.1);
        collecting = now;
      };
  collects = λ outcomes free.
      let kept = kept_in (collected s outcomes).1 (λ commit c. c.collects outcomes free) in
      record { each = kept.0; unheld = kept.1; collecting = k.collects outcomes free };
  releases = λ id segment.
      let kept = kept_in (released s id segment).1 (λ commit c. c.releases id segment) in
      record { each = kept.0; unheld = kept.1; collecting = k.releases id segment };
  deletes = λ id m segment may.
      let kept = kept_in (having_deleted_docs s id m segment).1 (λ commit c. c.deletes id m segment may) in
      record { each = kept.0; unheld = kept.1; collecting = k.deletes id m segment may };
  begins = λ free.
      let kept = kept_in (collection_begun s).1 (λ commit c. c.begins free) in
      record { each = kept.0; unheld = kept.1; collecting = k.begins free };
  tries = λ number c name left is_done step there e.
      let kept = kept_in (having_deleted s number c name left is_done).1 (λ commit d. d.tries number c name left is_done step there e) in
      record { each = kept.0; unheld = kept.1; collecting = k.tries number c name left is_done step there e };
  finishes = λ number c e there.
      let kept = kept_in (ended s number c).1 (λ commit d. d.finishes number c e there) in
      record { each = kept.0; unheld = kept.1; collecting = k.finishes number c e there };
  reopens = λ e.
      let kept = kept_in (reopened s) (λ commit c. c.reopens e) in
      record { each = (kept.0.0, tt); unheld = (kept.1.0, tt); collecting = k.reopens e };
}
  where
    -- the files of the kept commits in a state that keeps them
    kept_in : (t : State) → ((commit : Commit) → OfEachChange (λ u. Keeps s u commit) s event → Keeps s t commit) → AllByRecursion (HasSealedFiles t) (kept_commits s.catalog) × AllByRecursion (IsUnheld t) (kept_commits s.catalog)
    kept_in t one = (
      all_weaker (IsKept s) (HasSealedFiles t) (kept_commits s.catalog) (λ commit kept. still_sealed s t commit (one commit (keeps_changes s event commit h.collecting kept)) kept.sealed) (all_kept s h),
      all_weaker (IsKept s) (IsUnheld t) (kept_commits s.catalog) (λ commit kept. (one commit (keeps_changes s event commit h.collecting kept)).unheld) (all_kept s h),
    )

pub after_whole : (s : State) (turns : List Turn) → IsWhole s → IsWhole (after s turns)
after_whole s turns h = after_kept IsWhole (λ t event outcomes k. step_changes IsWhole t event outcomes (whole_changes t event k)) s turns h

-- ---- sealed files

-- what is sealed was sealed with these bytes before, or is put
pub put_since : {P : Type 0} (b : Bool) (file : FileState) (old : Option FileState) (bytes : List ℕ) → (file ≡ SealedFile bytes → P) → (old ≡ Some (SealedFile bytes) → P) → cond b (Some file) old ≡ Some (SealedFile bytes) → P
put_since true file old bytes here there h = here cc
put_since false file old bytes here there h = there h

pub kept_since : (b : Bool) (file : Option FileState) (bytes : List ℕ) → cond b file None ≡ Some (SealedFile bytes) → file ≡ Some (SealedFile bytes)
kept_since true file bytes e = e
kept_since false file bytes e = absurd cc

pub left_since : (b : Bool) (file : Option FileState) (bytes : List ℕ) → option_map (λ f. cond b (left f) f) file ≡ Some (SealedFile bytes) → file ≡ Some (SealedFile bytes)
left_since b None bytes e = absurd cc
left_since false (Some file) bytes e = e
left_since true (Some (SealedFile other)) bytes e = e
left_since true (Some (Open body)) bytes e = absurd cc
left_since true (Some Left) bytes e = absurd cc
