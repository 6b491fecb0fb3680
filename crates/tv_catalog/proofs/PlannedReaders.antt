-- The plans of the events of readers.
use Rattle.std.proofs.Common.{◌≡◌, ◌<◌, ◌≤◌, ◌+◌, ◌&&◌, ◌||◌, ◌==◌, ℕ, Bool, true, false, true≢false, not, cond, filter, List, [], ◌∷◌, map, codes, Option, Some, None, inl, inr, ⊎_elim, refl, sym, ap, subst, ◌∙◌, arith}
use Rattle.std.specs.Prelude.{is_some, option_and_then}
use Rattle.std.specs.Fmt.{decimal}
use Rattle.std.specs.List.{list_all, list_any}
use Rattle.std.proofs.lemmas.Bool.{or_parts}
use Rattle.std.proofs.lemmas.Bool.Decides.{nat_tests}
use Rattle.tv_formats.proofs.Numbered.{found}
use Rattle.tv_formats.specs.Commits.{Commit}
use Rattle.tv_machine.specs.CommitEvents.{last_stamp}
use Rattle.tv_machine.specs.Lines.{is_refused}
use Rattle.tv_events.specs.AnswerLines.{line}
use Rattle.tv_machine.specs.Living.{holds_lock, is_busy, is_locked, unread_by}
use Rattle.tv_machine.specs.Machine.{step}
use Rattle.tv_machine.specs.Readable.{read_by}
use Rattle.tv_machine.specs.ReaderEvents.{bodies_in, reload_refusals}
use Rattle.tv_machine.specs.ReloadEvents.{deliver_refusals, served, with_notice}
use Rattle.tv_machine.specs.State.{Catalog, Reader, Snapshot, State, reader_at}
use Rattle.tv_events.specs.declared.event.Event.TheVariants as events
use Rattle.tv_events.specs.declared.reload_policy.ReloadPolicy.{ReloadPolicy}
use Rattle.tv_machine.proofs.Locks.{locked_busy}
use Rattle.tv_catalog.proofs.SharedLaws.{only_numbers}
use Rattle.tv_catalog.specs.Actions.{step_by, with_added, with_published}
use Rattle.tv_catalog.specs.Effects.{MayReload, reload_after}
use Rattle.tv_catalog.specs.Exhausted.{IsExhausted, SomePassesEnd}
use Rattle.tv_catalog.specs.Kept.{KeptState}
use Rattle.tv_snapshots.specs.Reloads.{CanServe, IsSpent}
use Rattle.tv_catalog.specs.declared.action.Action.TheVariants as actions
use Rattle.tv_catalog.specs.declared.action.Change.TheVariants as changes

-- ---- a new reader, and a reload at once

-- a reader that may begin a reload shows the current commit
pub planned_reload : (s : State) (number generation : ℕ) (reader : Reader) (answer : List ℕ) → reader_at s.catalog number ≡ Some reader → is_some reader.reload ≡ false → is_busy s.catalog ≡ false → generation ≡ reader.next
    → answer ≡ line (codes "published") (decimal number ∷ decimal generation ∷ decimal s.catalog.commit.opstamp ∷ []) → (deletes : List _) → step s (events.Reload number) deletes ≡ step_by s (actions.Load generation) (changes.Publish number) answer deletes
planned_reload s number generation reader answer there none free next told deletes = rw (there, none, free, told, next) refl

-- and may do so
pub may_reload : (c : Catalog) (number : ℕ) (reader : Reader) → reader_at c number ≡ Some reader → is_some reader.reload ≡ false → is_busy c ≡ false → MayReload c number
may_reload c number reader there none free = rw (there, none, free) refl

pub reload_reads : (s : State) (number : ℕ) (reader : Reader) → reader_at s.catalog number ≡ Some reader → is_some reader.reload ≡ false → is_busy s.catalog ≡ false → read_by s (events.Reload number) ≡ Some s.catalog.commit
reload_reads s number reader there none free = rw (there, none, free) refl

-- the same segments are live
pub published_live : (c : Catalog) (number : ℕ) (reader : Option Reader) (loaded : Option Snapshot) → (with_published c number reader loaded).live ≡ c.live
published_live c number (Some reader) (Some shown) = refl
published_live c number (Some reader) None = refl
published_live c number None loaded = refl

pub added_live : (c : Catalog) (policy : ReloadPolicy) (loaded : Option Snapshot) → (with_added c policy loaded).live ≡ c.live
added_live c policy None = refl
added_live c policy (Some shown) = refl

-- and where its next snapshot doesn't get the last number of 64 bits, none is spent
pub reload_fits : (kept : KeptState) (number : ℕ) (reader : Reader) → reader_at kept.catalog number ≡ Some reader → is_some reader.reload ≡ false → is_busy kept.catalog ≡ false → reader.next < 18446744073709551615 → IsExhausted kept (events.Reload number) → ⊥
reload_fits kept number reader there none free small spent =
    let may : is_refused (reload_refusals kept.catalog reader) ≡ false = rw (none, free) refl in
    let given : SomePassesEnd (reload_after kept.catalog (Some reader)) = subst (λ (r : Option Reader). SomePassesEnd (reload_after kept.catalog r)) there (only_numbers spent) in
    let numbers : SomePassesEnd ((reader.next + 1) ∷ []) = subst (λ (b : Bool). SomePassesEnd (cond b [] ((reader.next + 1) ∷ []))) may given in
    ⊎_elim (λ much. omega (arith, much, small)) (λ never. never) numbers

-- ---- a reload in steps

-- a reader notes the current commit
pub planned_lock : (s : State) (number : ℕ) (reader : Reader) (noted : Commit) (answer : List ℕ) → reader_at s.catalog number ≡ Some reader → is_some reader.reload ≡ false → is_busy s.catalog ≡ false → noted ≡ s.catalog.commit
    → answer ≡ line (codes "locked") (decimal number ∷ decimal noted.opstamp ∷ []) → (deletes : List _) → step s (events.ReloadLock number) deletes ≡ step_by s actions.Lock (changes.Note number noted) answer deletes
planned_lock s number reader noted answer there none free is told deletes = rw (there, none, free, told, is) refl

-- the files are read of the commit that it has noted
pub planned_open_reload : (s : State) (number : ℕ) (reader : Reader) (noted : Commit) (answer : List ℕ) → reader_at s.catalog number ≡ Some reader → unread_by reader.reload ≡ Some noted
    → answer ≡ line (codes "read") (decimal number ∷ []) → (deletes : List _) → step s (events.ReloadOpen number) deletes ≡ step_by s (actions.Read noted) (changes.Keep number) answer deletes
planned_open_reload s number reader noted answer there unread told deletes = rw (there, unread, told) refl

-- the lock is held where a reader's reload holds it
pub busy_by : (c : Catalog) (number : ℕ) (reader : Reader) → reader_at c number ≡ Some reader → is_locked reader ≡ true → is_busy c ≡ true
busy_by c number reader there locked = found (λ e. is_locked e.1 ≡ true → is_busy c ≡ true) c.reading.readers number reader (locked_busy c) there locked

-- the reader that holds it
pub holder_of : (c : Catalog) (number : ℕ) → holds_lock c number ≡ true → (reader : Reader) × (reader_at c number ≡ Some reader) × (is_locked reader ≡ true)
holder_of c number h = either (reader_at c number) refl h where
  either : (there : Option Reader) → reader_at c number ≡ there → is_some (option_and_then (λ (reader : Reader). unread_by reader.reload) there) ≡ true → (reader : Reader) × (reader_at c number ≡ Some reader) × (is_locked reader ≡ true)
  either None e k = absurd (true≢false (sym k))
  either (Some reader) e k = (reader, e, k)

-- it ends
pub planned_end : (s : State) (number : ℕ) (reader : Reader) (answer : List ℕ) → reader_at s.catalog number ≡ Some reader → answer ≡ codes "released"
    → (deletes : List _) → step s (events.ReleaseReader number) deletes ≡ step_by s actions.Unlock (changes.EndReader number) answer deletes
planned_end s number reader answer there told deletes = rw (there, told) refl

-- ---- notices

-- those without a notice
pub none_noticed : (es : List (ℕ × Reader)) → list_all (λ e. not e.1.has_notice) es ≡ not (list_any (λ e. e.1.has_notice) es)
none_noticed [] = refl
none_noticed (e ∷ es) = here e.1.has_notice (none_noticed es) where
  here : (notice : Bool) → list_all (λ f. not f.1.has_notice) es ≡ not (list_any (λ f. f.1.has_notice) es) → (not notice && list_all (λ f. not f.1.has_notice) es) ≡ not (notice || list_any (λ f. f.1.has_notice) es)
  here true h = refl
  here false h = h

-- stay as they are
pub unserved : (commit : Commit) (bodies : List (List (List ℕ))) (es : List (ℕ × Reader)) → list_any (λ e. e.1.has_notice) es ≡ false → map (λ e. (e.0, served commit bodies e.1)) es ≡ es
unserved commit bodies [] h = refl
unserved commit bodies (e ∷ es) h =
    let parts = or_parts e.1.has_notice (list_any (λ f. f.1.has_notice) es) h in
    ap (λ (r : Reader). (e.0, r) ∷ map (λ f. (f.0, served commit bodies f.1)) es) (as_it_was parts.0) ∙ ap (λ (l : List (ℕ × Reader)). e ∷ l) (unserved commit bodies es parts.1)
  where
    as_it_was : e.1.has_notice ≡ false → served commit bodies e.1 ≡ e.1
    as_it_was none = rw none refl

-- the readers with a notice show the current commit
pub planned_deliver : (s : State) (answer : List ℕ) → is_busy s.catalog ≡ false → list_any (λ e. is_some e.1.reload) (with_notice s.catalog) ≡ false
    → answer ≡ line (codes "delivered") (map (λ e. decimal e.0) (with_notice s.catalog)) → (deletes : List _) → step s events.Deliver deletes ≡ step_by s (actions.Load 0) changes.Deliver answer deletes
planned_deliver s answer free none told deletes = rw (free, none, told) refl

-- or nothing changes, where there are none
pub planned_idle : (s : State) (answer : List ℕ) → is_busy s.catalog ≡ false → list_any (λ e. is_some e.1.reload) (with_notice s.catalog) ≡ false → list_any (λ e. e.1.has_notice) s.catalog.reading.readers ≡ false
    → answer ≡ line (codes "delivered") (map (λ e. decimal e.0) (with_notice s.catalog)) → (deletes : List _) → step s events.Deliver deletes ≡ step_by s actions.Nothing changes.Nothing answer deletes
planned_idle s answer free none idle told deletes = rw (free, none, told, unserved s.catalog.commit (bodies_in s s.catalog.commit) s.catalog.reading.readers idle) refl

-- where each of them may show one snapshot more, none is spent
pub serves_fit : (es : List (ℕ × Reader)) → CanServe es → SomePassesEnd (map (λ e. e.1.next + 1) (filter (λ e. e.1.has_notice) es)) → ⊥
serves_fit [] can spent = spent
serves_fit (e ∷ es) can spent = here e.1.has_notice can.0 (serves_fit es can.1) spent where
  here : (notice : Bool) → (notice ≡ true → e.1.next < last_stamp) → (SomePassesEnd (map (λ f. f.1.next + 1) (filter (λ f. f.1.has_notice) es)) → ⊥) → SomePassesEnd (map (λ f. f.1.next + 1) (cond notice (e ∷ filter (λ f. f.1.has_notice) es) (filter (λ f. f.1.has_notice) es))) → ⊥
  here true small rest spent = let less = small refl in ⊎_elim (λ much. omega (arith, much, less)) (λ later. rest later) spent
  here false small rest spent = rest spent

-- and where one has come to the end, one is
pub spent_passes : (es : List (ℕ × Reader)) → IsSpent es → SomePassesEnd (map (λ e. e.1.next + 1) (filter (λ e. e.1.has_notice) es))
spent_passes [] h = absurd (true≢false (sym h))
spent_passes (e ∷ es) h = here e.1.has_notice (e.1.next == last_stamp) refl (spent_passes es) h where
  at_end : (n : ℕ) → (n == last_stamp) ≡ true → 18446744073709551616 ≤ n + 1
  at_end n is = grind (arith, nat_tests)

  here : (notice last : Bool) → (e.1.next == last_stamp) ≡ last → (IsSpent es → SomePassesEnd (map (λ f. f.1.next + 1) (filter (λ f. f.1.has_notice) es)))
      → ((notice && last) || list_any (λ f. f.1.has_notice && f.1.next == last_stamp) es) ≡ true
      → SomePassesEnd (map (λ f. f.1.next + 1) (cond notice (e ∷ filter (λ f. f.1.has_notice) es) (filter (λ f. f.1.has_notice) es)))
  here true true is rest k = inl (at_end e.1.next is)
  here true false is rest k = inr (rest k)
  here false last is rest k = rest k

-- the event that opens a reload reads the commit that it has noted
pub unread_reads : (s : State) (number : ℕ) (reader : Reader) (noted : Commit) → reader_at s.catalog number ≡ Some reader → unread_by reader.reload ≡ Some noted → read_by s (events.ReloadOpen number) ≡ Some noted
unread_reads s number reader noted there unread = rw (there, unread) refl

-- a new reader shows the current commit
pub planned_reader : (s : State) (policy : ReloadPolicy) (number : ℕ) (answer : List ℕ) → is_busy s.catalog ≡ false → number ≡ s.catalog.reading.next_reader
    → answer ≡ line (codes "reader") (decimal number ∷ decimal 0 ∷ decimal s.catalog.commit.opstamp ∷ []) → (deletes : List _) → step s (events.Reader policy) deletes ≡ step_by s (actions.Load 0) (changes.AddReader policy) answer deletes
planned_reader s policy number answer free next told deletes = rw (free, told, next) refl

pub reader_reads : (s : State) (policy : ReloadPolicy) → is_busy s.catalog ≡ false → read_by s (events.Reader policy) ≡ Some s.catalog.commit
reader_reads s policy free = rw free refl

pub reader_fits : (kept : KeptState) (policy : ReloadPolicy) → is_busy kept.catalog ≡ false → kept.catalog.reading.next_reader < 18446744073709551615 → IsExhausted kept (events.Reader policy) → ⊥
reader_fits kept policy free small spent =
    let numbers : SomePassesEnd ((kept.catalog.reading.next_reader + 1) ∷ []) = subst (λ (b : Bool). SomePassesEnd (cond b [] ((kept.catalog.reading.next_reader + 1) ∷ []))) free (only_numbers spent) in
    ⊎_elim (λ much. omega (arith, much, small)) (λ never. never) numbers

-- notices may be served
pub may_deliver : (c : Catalog) → is_busy c ≡ false → list_any (λ e. is_some e.1.reload) (with_notice c) ≡ false → is_refused (deliver_refusals c) ≡ false
may_deliver c free none = rw (free, none) refl

pub deliver_reads : (s : State) → is_busy s.catalog ≡ false → list_any (λ e. is_some e.1.reload) (with_notice s.catalog) ≡ false → list_any (λ e. e.1.has_notice) s.catalog.reading.readers ≡ true → read_by s events.Deliver ≡ Some s.catalog.commit
deliver_reads s free none some = rw (free, none, none_noticed s.catalog.reading.readers, some) refl

pub idle_reads : (s : State) → is_busy s.catalog ≡ false → list_any (λ e. is_some e.1.reload) (with_notice s.catalog) ≡ false → list_any (λ e. e.1.has_notice) s.catalog.reading.readers ≡ false → read_by s events.Deliver ≡ None
idle_reads s free none idle = rw (free, none, none_noticed s.catalog.reading.readers, idle) refl

-- the numbers after those that are given, unless notices are refused
abbrev numbers_unless : Catalog → Bool → List ℕ
numbers_unless c refused = cond refused [] (map (λ e. e.1.next + 1) (with_notice c))

pub deliver_fits : (kept : KeptState) → is_busy kept.catalog ≡ false → list_any (λ e. is_some e.1.reload) (with_notice kept.catalog) ≡ false → CanServe kept.catalog.reading.readers → IsExhausted kept events.Deliver → ⊥
deliver_fits kept free none can spent =
    serves_fit kept.catalog.reading.readers can (subst (λ (b : Bool). SomePassesEnd (numbers_unless kept.catalog b)) (may_deliver kept.catalog free none) (only_numbers spent))

pub deliver_spent : (kept : KeptState) → is_busy kept.catalog ≡ false → list_any (λ e. is_some e.1.reload) (with_notice kept.catalog) ≡ false → IsSpent kept.catalog.reading.readers → IsExhausted kept events.Deliver
deliver_spent kept free none spent =
    inl (subst (λ (b : Bool). SomePassesEnd (numbers_unless kept.catalog b)) (sym (may_deliver kept.catalog free none)) (spent_passes kept.catalog.reading.readers spent))
