-- Whether the meta lock is held for a reload, after each change that leaves the lock alone.
use Rattle.std.proofs.Common.{◌≡◌, ℕ, Bool, true, false, cond, codes, List, [], ◌∷◌, ◌⊎◌, inl, inr, Option, Some, None, map, refl, sym, ap, subst, ◌∙◌}
use Rattle.std.specs.Prelude.{is_some, option_and_then}
use Rattle.std.specs.Fmt.{decimal}
use Rattle.std.specs.List.{list_any}
use Rattle.std.specs.Map.{remove_entry}
use Rattle.std.specs.BTreeMap.{is_at, insert_entry}
use Rattle.std.specs.Ordering.{is_eq, nat_cmp, match_ordering}
use Rattle.std.specs.declared.cmp.Ordering.{Ordering}
use Rattle.std.specs.declared.cmp.Ordering.TheVariants.{Less, Equal, Greater}
use Rattle.hex.specs.Hex.{encode_lower}
use Rattle.tv_events.specs.AnswerLines.{line}
use Rattle.tv_events.specs.declared.event.Event.{Event}
use Rattle.tv_events.specs.declared.event.Event.TheVariants as events
use Rattle.tv_formats.specs.Collections.{Collections}
use Rattle.tv_formats.specs.Commits.{Commit}
use Rattle.tv_formats.specs.Segments.{fresh_segment}
use Rattle.tv_machine.specs.Living.{holds_lock, is_busy, is_locked, unread_by}
use Rattle.tv_machine.specs.Machine.{catalog_step}
use Rattle.tv_machine.specs.ReaderEvents.{release_reader_step}
use Rattle.tv_machine.specs.ReloadEvents.{snapshot_read, told_of_commit}
use Rattle.tv_machine.specs.SearcherEvents.{body_at}
use Rattle.tv_machine.specs.SegmentEvents.{has_docs, is_in_use}
use Rattle.tv_machine.specs.State.{Catalog, Locked, Read, Reader, Reload, Snapshot, StepResult, at_number, live_at, reader_at, searcher_at, with_live}
use Rattle.tv_machine.proofs.Changes.{given_all, the_step, unless_all}
use Rattle.tv_catalog.specs.Actions.{MayGive, OnlyKeeps, catalog_after, loaded_by, settled, with_commit}
use Rattle.tv_catalog.specs.declared.action.Action.{Action}
use Rattle.tv_catalog.specs.declared.action.Action.TheVariants as actions
use Rattle.tv_catalog.specs.declared.action.Change.{Change}
use Rattle.tv_catalog.specs.declared.action.Change.TheVariants as changes
use Rattle.tv_catalog.specs.declared.action.Reply.{Reply}
use Rattle.tv_catalog.specs.declared.action.Reply.TheVariants as replies

-- whether one of these readers holds the lock
abbrev Any : List (ℕ × Reader) → Bool
Any es = list_any (λ e. is_locked e.1) es

-- the reader of a number doesn't hold it, where there is one
abbrev IsFreeAt : List (ℕ × Reader) → ℕ → Type 0
IsFreeAt es n = (reader : Reader) → at_number es n ≡ Some reader → is_locked reader ≡ false

behind : (test : ℕ → Bool) (e : ℕ × Reader) (rest found : Option Reader) → test e.0 ≡ false → rest ≡ found → cond (test e.0) (Some e.1) rest ≡ found
behind test e rest found other there = ap (λ (b : Bool). cond b (Some e.1) rest) other ∙ there

placed : (r : Ordering) (n : ℕ) (new : Reader) (e : ℕ × Reader) (es rest : List (ℕ × Reader)) → is_locked new ≡ false → (is_eq r ≡ true → is_locked e.1 ≡ false) → (is_eq r ≡ false → Any rest ≡ Any es)
    → Any (match_ordering r ((n, new) ∷ e ∷ es) ((e.0, new) ∷ es) (e ∷ rest)) ≡ Any (e ∷ es)
placed Less n new e es rest free own same = rw free refl
placed Equal n new e es rest free own same = rw (free, own refl) refl
placed Greater n new e es rest free own same = rw (same refl) refl

-- it is put there without the lock
pub put_any : (es : List (ℕ × Reader)) (n : ℕ) (new : Reader) → is_locked new ≡ false → IsFreeAt es n → Any (insert_entry nat_cmp es n new) ≡ Any es
put_any [] n new free own = rw free refl
put_any (e ∷ es) n new free own =
    placed (nat_cmp n e.0) n new e es (insert_entry nat_cmp es n new) free (λ here. own e.1 (ap (λ (b : Bool). cond b (Some e.1) (at_number es n)) here))
    (λ other. put_any es n new free (λ reader there. own reader (behind (is_at (nat_cmp n)) e (at_number es n) (Some reader) other there)))

cut : (b : Bool) (e : ℕ × Reader) (es rest : List (ℕ × Reader)) → (b ≡ true → is_locked e.1 ≡ false) → (b ≡ false → Any rest ≡ Any es) → Any (cond b es (e ∷ rest)) ≡ Any (e ∷ es)
cut true e es rest own same = rw (own refl) refl
cut false e es rest own same = rw (same refl) refl

-- it is gone
pub gone_any : (es : List (ℕ × Reader)) (n : ℕ) → IsFreeAt es n → Any (remove_entry (is_at (nat_cmp n)) es) ≡ Any es
gone_any [] n own = refl
gone_any (e ∷ es) n own =
    cut (is_at (nat_cmp n) e.0) e es (remove_entry (is_at (nat_cmp n)) es) (λ here. own e.1 (ap (λ (b : Bool). cond b (Some e.1) (at_number es n)) here))
    (λ other. gone_any es n (λ reader there. own reader (behind (is_at (nat_cmp n)) e (at_number es n) (Some reader) other there)))

told_any : (es : List (ℕ × Reader)) → Any (map (λ e. (e.0, told_of_commit e.1)) es) ≡ Any es
told_any [] = refl
told_any (e ∷ es) = rw (told_any es) refl

-- a commit that is saved takes no lock and gives none back
pub saved_busy : (c : Catalog) (commit : Commit) → is_busy (with_commit c commit) ≡ is_busy c
saved_busy c commit = told_any c.reading.readers

-- ---- an event that touches no file

-- files that are read aren't waited for
read_free : (next : ℕ) (reload : Option Reload) (shown : Snapshot) → snapshot_read next reload ≡ Some shown → is_some (unread_by reload) ≡ false
read_free next None shown e = absurd cc
read_free next (Some (Locked commit)) shown e = absurd cc
read_free next (Some (Read commit bodies)) shown e = refl

the_reader : (found : Option Reader) (one other : Reader) → found ≡ Some one → found ≡ Some other → one ≡ other
the_reader found one other a b = the_step (sym a ∙ b)

plainly : {S : Type 0} (holds : Bool) (step result : S) → cond holds None (Some step) ≡ Some result → (holds ≡ false) × (step ≡ result)
plainly true step result e = absurd cc
plainly false step result e = (refl, the_step e)

abbrev Same : Catalog → StepResult Catalog → Type 0
Same c result = is_busy result.1 ≡ is_busy c

pub busy_stays : (c : Catalog) (managed : List (List ℕ)) (event : Event) (result : StepResult Catalog) → catalog_step c managed event ≡ Some result → is_busy result.1 ≡ is_busy c
busy_stays c managed (events.Segment id) result e =
    subst (Same c) (the_step e) (unless_all (Same c) c ((is_in_use c managed id, codes "id-in-use" ∷ []) ∷ []) (line (codes "segment") (encode_lower id ∷ []), with_live c id fresh_segment) (λ words. refl) (λ none. refl))
busy_stays c managed (events.Docs id n) result e =
    subst (Same c) (the_step e)
    (given_all (Same c) c (live_at c id) _ _ refl (λ segment there.
    unless_all (Same c) c ((has_docs segment, codes "wrong-docs" ∷ []) ∷ []) (line (codes "docs") (encode_lower id ∷ decimal n ∷ []), with_live c id (record segment { max_doc = n })) (λ words. refl) (λ none. refl)))
busy_stays c managed (events.ReloadPublish number) result e =
    subst (Same c) (the_step e)
    (given_all (Same c) c (reader_at c number) _ _ refl (λ reader there.
    given_all (Same c) c (snapshot_read reader.next reader.reload) _ _ refl (λ shown read.
    put_any c.reading.readers number _ refl (λ other found. subst (λ (r : Reader). is_locked r ≡ false) (the_reader (reader_at c number) reader other there found) (read_free reader.next reader.reload shown read)))))
busy_stays c managed (events.Searcher number) result e = subst (Same c) (the_step e) (given_all (Same c) c (reader_at c number) _ _ refl (λ reader there. refl))
busy_stays c managed (events.Show number) result e = subst (Same c) (the_step e) (given_all (Same c) c (searcher_at c number) _ _ refl (λ shown there. refl))
busy_stays c managed (events.Bytes number ord component) result e =
    subst (Same c) (the_step e) (given_all (Same c) c (searcher_at c number) _ _ refl (λ shown there. given_all (Same c) c (body_at shown ord component) _ _ refl (λ body found. refl)))
busy_stays c managed (events.ReleaseReader number) result e =
    let plain = plainly (holds_lock c number) (release_reader_step c number) result e in
    subst (Same c) plain.1
    (given_all (Same c) c (reader_at c number) _ _ refl (λ reader there.
    gone_any c.reading.readers number (λ other found. ap (λ (o : Option Reader). is_some (option_and_then (λ r. unread_by r.reload) o)) (sym found) ∙ plain.0)))
busy_stays c managed (events.ReleaseSearcher number) result e = subst (Same c) (the_step e) (given_all (Same c) c (searcher_at c number) _ _ refl (λ shown there. refl))
busy_stays c managed events.Managed result e = subst (Same c) (the_step e) refl
busy_stays c managed other result e = absurd cc

-- ---- an action with its change

-- an action that leaves what is read saves no commit
saves_none : (action : Action) (commit : Commit) (collections : Collections) (managed : List (List ℕ)) → OnlyKeeps action → MayGive collections managed action (replies.Saved commit) → ⊥
saves_none actions.Nothing commit collections managed keeps gives = cc
saves_none (actions.Leave names) commit collections managed keeps gives = cc
saves_none (actions.Begin living) commit collections managed keeps gives = cc
saves_none (actions.Validate names) commit collections managed keeps (inl (damaged, short, e)) = cc
saves_none (actions.Validate names) commit collections managed keeps (inr (name, among, e)) = cc
saves_none (actions.Load generation) commit collections managed keeps (shown, e) = cc
saves_none actions.Lock commit collections managed keeps gives = cc
saves_none (actions.Read noted) commit collections managed keeps (shown, e) = cc
saves_none actions.Unlock commit collections managed keeps gives = cc
saves_none actions.Reopen commit collections managed keeps gives = cc
saves_none other commit collections managed keeps gives = absurd keeps

saves_alone : (action : Action) (change : Change) (commit : Commit) (collections : Collections) (managed : List (List ℕ)) → (change ≡ changes.Nothing) ⊎ OnlyKeeps action → MayGive collections managed action (replies.Saved commit) → change ≡ changes.Nothing
saves_alone action change commit collections managed (inl none) gives = none
saves_alone action change commit collections managed (inr keeps) gives = absurd (saves_none action commit collections managed keeps gives)

-- once it is settled the lock is held as the change says
pub settled_busy : (c : Catalog) (action : Action) (change : Change) (reply : Reply) (collections : Collections) (managed : List (List ℕ)) → (change ≡ changes.Nothing) ⊎ OnlyKeeps action → MayGive collections managed action reply
    → is_busy (settled c change reply) ≡ is_busy (catalog_after c change (loaded_by reply))
settled_busy c action change (replies.Saved commit) collections managed beside gives = rw (saves_alone action change commit collections managed beside gives) (saved_busy c commit)
settled_busy c action change other collections managed beside gives = refl
