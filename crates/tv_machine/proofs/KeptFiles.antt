-- What an event leaves of a commit's files: of those of the current commit, and while the meta lock is held of those of whichever commit.
use Rattle.std.proofs.Common.{◌≡◌, ℕ, ◌≤◌, Bool, true, false, true≢false, cond, List, [], ◌∷◌, Option, Some, None, refl, sym, ap, subst, ◌∙◌, arith}
use Rattle.std.specs.Prelude.{is_some, option_map}
use Rattle.std.specs.BTreeMap.{is_at}
use Rattle.std.specs.List.{AllByRecursion}
use Rattle.std.proofs.lemmas.Bool.{false_from_ne_true}
use Rattle.tv_events.specs.declared.event.Event.{Event}
use Rattle.tv_formats.specs.Commits.{Commit}
use Rattle.tv_formats.specs.Names.{byte_cmp, is, has, at}
use Rattle.tv_formats.specs.Segments.{all_required, segment_names}
use Rattle.tv_formats.specs.Collections.{Collection, collection_at, done_of, held}
use Rattle.tv_machine.specs.State.{State, FileState, SealedFile, Open, Left, file_at, with_file}
use Rattle.tv_machine.specs.CommitEvents.{is_sealed}
use Rattle.tv_machine.specs.Living.{is_busy, kept_commits, living, unread_commits}
use Rattle.tv_machine.specs.CollectionEvents.{collected, collection_begun, ended, files_without, garbage, having_deleted, left, with_left}
use Rattle.tv_machine.specs.DeleteEvents.{delete_name}
use Rattle.tv_machine.specs.ReopenEvents.{all_left}
use Rattle.tv_machine.specs.SoundStates.{CollectsSoundly, HasSealedFiles, IsUnheld, IsWhole}
use Rattle.tv_formats.proofs.Entries.{is_itself, is_text, text_at, lookup_put}
use Rattle.tv_formats.proofs.CollectedNames.{at_without}
use Rattle.tv_formats.proofs.HeldNames.{times, some_times, has_times, taken_held, untried_taken}
use Rattle.tv_machine.proofs.Changes.{OfEachChange}
use Rattle.tv_machine.proofs.CollectionStates.{at_left, required_living, living_spared}
use Rattle.tv_machine.proofs.HeldStates.{collecting_changes, ended_held, tried_before}
use Rattle.tv_machine.proofs.ReaderMoves.{all_both, all_of, all_weaker, none_unread}

-- ---- a sealed file

put_same : (b : Bool) (file : FileState) (old : Option FileState) → (b ≡ true → is_sealed old ≡ false) → is_sealed old ≡ true → cond b (Some file) old ≡ old
put_same true file old here h = absurd (true≢false (sym h ∙ here refl))
put_same false file old here h = refl

pub absent_isnt_sealed : (file : Option FileState) → is_some file ≡ false → is_sealed file ≡ false
absent_isnt_sealed None e = refl
absent_isnt_sealed (Some file) e = absurd cc

left_same : (b : Bool) (file : Option FileState) → is_sealed file ≡ true → option_map (λ f. cond b (left f) f) file ≡ file
left_same b None h = refl
left_same false (Some file) h = refl
left_same true (Some (SealedFile bytes)) h = refl
left_same true (Some (Open body)) h = absurd (true≢false (sym h))
left_same true (Some Left) h = absurd (true≢false (sym h))

-- the open files are left
pub at_all_left : (files : List (List ℕ × FileState)) (n : List ℕ) → at (all_left files) n ≡ option_map left (at files n)
at_all_left [] n = refl
at_all_left (e ∷ files) n =
    elim (is_at (byte_cmp n) e.0) as (λ b. cond b (Some (left e.1)) (at (all_left files) n) ≡ option_map left (cond b (Some e.1) (at files n))) [ true ↦ refl | false ↦ at_all_left files n ]

-- ---- a commit whose files stay

-- the files of the commit are sealed and not held, and it is the current one unless the meta lock is held
pub record IsKept (s : State) (commit : Commit) : Type 0 where
  pub sealed : HasSealedFiles s commit
  pub unheld : IsUnheld s commit
  pub current : is_busy s.catalog ≡ false → commit ≡ s.catalog.commit

-- they are the same from one state to the other, and aren't held there
pub record Keeps (s t : State) (commit : Commit) : Type 0 where
  pub same : (n : List ℕ) → has (all_required commit.segments) n ≡ true → file_at t n ≡ file_at s n
  pub unheld : IsUnheld t commit

pub still_sealed : (s t : State) (commit : Commit) → Keeps s t commit → HasSealedFiles s commit → HasSealedFiles t commit
still_sealed s t commit k h n is = ap is_sealed (k.same n is) ∙ h n is

-- what is needed isn't held
living_unheld : (s : State) (n : List ℕ) → CollectsSoundly s → has (living s.catalog) n ≡ true → has (held s.collections) n ≡ false
living_unheld s n h needed = false_from_ne_true _ (λ is. true≢false (sym needed ∙ h.spared n is))

-- no unfinished collection holds a file that the current commit requires
pub current_unheld : (s : State) → CollectsSoundly s → IsUnheld s s.catalog.commit
current_unheld s h n is = living_unheld s n h (required_living s n is)

-- a collection tries a name that it has yet to try, which it holds
untried_held : (s : State) (number : ℕ) (c : Collection) (name : List ℕ) (left : List (List ℕ)) → collection_at s.collections number ≡ Some c → c.untried ≡ name ∷ left → has (held s.collections) name ≡ true
untried_held s number c name left there e =
    let first : 1 ≤ times (name ∷ left) name = some_times (name ∷ left) name (rw (is_itself name) refl) in
    has_times (held s.collections) name (omega (arith, first, ap (λ (l : List (List ℕ)). times l name) e, untried_taken c name, taken_held s.collections.unfinished number c name there))

-- it is no name that isn't held
unheld_spared : (s : State) (number : ℕ) (c : Collection) (name : List ℕ) (left : List (List ℕ)) (n : List ℕ) → collection_at s.collections number ≡ Some c → c.untried ≡ name ∷ left
    → has (held s.collections) n ≡ false → has (name ∷ []) n ≡ false
unheld_spared s number c name left n there e unheld =
    let other : is name n ≡ false = false_from_ne_true _ (λ t.
    true≢false (sym (untried_held s number c name left there e) ∙ subst (λ (m : List ℕ). has (held s.collections) m ≡ false) (sym (is_text name n t)) unheld)) in
    rw other refl

-- nor one that is needed
pub tried_spared : (s : State) (number : ℕ) (c : Collection) (name : List ℕ) (left : List (List ℕ)) (n : List ℕ) → collection_at s.collections number ≡ Some c → c.untried ≡ name ∷ left → CollectsSoundly s
    → has (living s.catalog) n ≡ true → has (name ∷ []) n ≡ false
tried_spared s number c name left n there e h needed = unheld_spared s number c name left n there e (living_unheld s n h needed)

-- a file that is put where no sealed file stands
put_keeps : (s : State) (name : List ℕ) (file : FileState) (commit : Commit) → is_sealed (file_at s name) ≡ false → IsKept s commit → (n : List ℕ) → has (all_required commit.segments) n ≡ true → file_at (with_file s name file) n ≡ file_at s n
put_keeps s name file commit unsealed h n is =
    lookup_put s.files name n file ∙ put_same (is_at (byte_cmp name) n) file (file_at s n) (λ e. subst (λ (m : List ℕ). is_sealed (file_at s m) ≡ false) (text_at name n e) unsealed) (h.sealed n is)

-- files that go
gone_keeps : (s : State) (gone : List (List ℕ)) (n : List ℕ) → has gone n ≡ false → at (files_without gone s.files) n ≡ file_at s n
gone_keeps s gone n spared = at_without gone s.files n ∙ (rw spared refl)

collected_keeps : (s : State) (outcomes : List Bool) (commit : Commit) → commit ≡ s.catalog.commit → (n : List ℕ) → has (all_required commit.segments) n ≡ true → file_at (collected s outcomes).1 n ≡ file_at s n
collected_keeps s outcomes commit current n is =
    gone_keeps s (done_of (garbage s) outcomes) n (living_spared s outcomes n (required_living s n (subst (λ (c : Commit). has (all_required c.segments) n ≡ true) current is)))

tried_keeps : (s : State) (number : ℕ) (c : Collection) (name : List ℕ) (left : List (List ℕ)) (is_done : Bool) (n : List ℕ) → collection_at s.collections number ≡ Some c → c.untried ≡ name ∷ left
    → has (held s.collections) n ≡ false → file_at (having_deleted s number c name left is_done).1 n ≡ file_at s n
tried_keeps s number c name left true n there e unheld = gone_keeps s (name ∷ []) n (unheld_spared s number c name left n there e unheld)
tried_keeps s number c name left false n there e unheld = refl

-- files that are left
left_keeps : (s : State) (names : List (List ℕ)) (commit : Commit) → IsKept s commit → (n : List ℕ) → has (all_required commit.segments) n ≡ true → at (with_left names s.files) n ≡ file_at s n
left_keeps s names commit h n is = at_left names s.files n ∙ left_same (has names n) (file_at s n) (h.sealed n is)

-- where no more is held than before
fewer_unheld : (s t : State) (commit : Commit) → ((n : List ℕ) → has (held t.collections) n ≡ true → has (held s.collections) n ≡ true) → IsUnheld s commit → IsUnheld t commit
fewer_unheld s t commit before h n is = false_from_ne_true _ (λ now. true≢false (sym (before n now) ∙ h n is))

-- no event changes the files of such a commit
pub keeps_changes : (s : State) (event : Event) (commit : Commit) → CollectsSoundly s → IsKept s commit → OfEachChange (λ t. Keeps s t commit) s event
keeps_changes s event commit collecting h = record {
  same = record { same = λ n is. refl; unheld = h.unheld };
  lives = λ id segment move. record { same = λ n is. refl; unheld = h.unheld };
  reads = λ now move. record { same = λ n is. refl; unheld = h.unheld };
  opens = λ id segment component e there absent. record { same = put_keeps s _ (Open []) commit (absent_isnt_sealed _ absent) h; unheld = h.unheld };
  puts = λ name body file e good. record { same = put_keeps s name file commit (ap is_sealed e) h; unheld = h.unheld };
  commits = λ payload ids last e. record { same = λ n is. refl; unheld = h.unheld };
  collects = λ outcomes free. record { same = collected_keeps s outcomes commit (h.current free); unheld = h.unheld };
  releases = λ id segment. record { same = left_keeps s (segment_names (id, segment)) commit h; unheld = h.unheld };
  deletes = λ id m segment may. record { same = left_keeps s (delete_name id segment.deletes ∷ []) commit h; unheld = h.unheld };
  begins = λ free. record {
    same = λ n is. refl;
    unheld = subst (IsUnheld (collection_begun s).1) (sym (h.current free)) (current_unheld (collection_begun s).1 ((collecting_changes s event collecting).begins free));
  };
  tries = λ number c name left is_done step there e. record {
    same = λ n is. tried_keeps s number c name left is_done n there e (h.unheld n is);
    unheld = fewer_unheld s (having_deleted s number c name left is_done).1 commit (λ n. tried_before s number c name left is_done n there e collecting) h.unheld;
  };
  finishes = λ number c e there. record { same = λ n is. refl; unheld = fewer_unheld s (ended s number c).1 commit (λ n. ended_held s number c n there) h.unheld };
  reopens = λ e. record { same = λ n is. at_all_left s.files n ∙ left_same true (file_at s n) (h.sealed n is); unheld = λ n is. refl };
}

-- ---- the kept commits are such

only_current : (s : State) → AllByRecursion (λ commit. is_busy s.catalog ≡ false → commit ≡ s.catalog.commit) (kept_commits s.catalog)
only_current s = (λ free. refl, either (is_busy s.catalog) refl) where
  either : (b : Bool) → is_busy s.catalog ≡ b → AllByRecursion (λ commit. is_busy s.catalog ≡ false → commit ≡ s.catalog.commit) (unread_commits s.catalog)
  either true busy = all_of _ (unread_commits s.catalog) (λ commit free. absurd (true≢false (sym busy ∙ free)))
  either false free = subst (AllByRecursion (λ commit. is_busy s.catalog ≡ false → commit ≡ s.catalog.commit)) (sym (none_unread s.catalog free)) tt

pub all_kept : (s : State) → IsWhole s → AllByRecursion (IsKept s) (kept_commits s.catalog)
all_kept s h =
    all_weaker (λ commit. HasSealedFiles s commit × (IsUnheld s commit × (is_busy s.catalog ≡ false → commit ≡ s.catalog.commit))) (IsKept s) (kept_commits s.catalog) (λ commit k. record { sealed = k.0; unheld = k.1.0; current = k.1.1 })
    (all_both _ _ (kept_commits s.catalog) h.each (all_both _ _ (kept_commits s.catalog) h.unheld (only_current s)))
