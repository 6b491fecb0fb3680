-- What holds under the lock holds after one event more.
use Rattle.std.proofs.Common.{◌≡◌, ◌⊎◌, inl, ⊎_elim, ℕ, Bool, List, [], ◌∷◌, ◌++◌, true, false, true≢false, refl, sym, ap, ap₂, subst, ◌∙◌, append_assoc, append-nil}
use Rattle.tv_base.specs.declared.error.TantivyError.{TantivyError}
use Rattle.tv_base.specs.declared.error.TantivyError.TheVariants as errors
use Rattle.tv_events.specs.declared.event.Event.{Event}
use Rattle.tv_formats.specs.Files.{Heard}
use Rattle.tv_histories.specs.declared.entry.Entry.{Entry}
use Rattle.tv_histories.specs.declared.entry.Receipt.{Receipt}
use Rattle.tv_histories.specs.Histories.{IsLegal, answers_in, events_in, has_reader}
use Rattle.tv_histories.specs.Receipts.{entry}
use Rattle.tv_histories.specs.Shown.{published_by, shown}
use Rattle.tv_machine.specs.Lines.{opening_line}
use Rattle.tv_machine.specs.Machine.{Turn, after, events_of, step}
use Rattle.tv_machine.specs.State.{Snapshot, State}
use Rattle.tv_publishing.specs.Lists.{IsPrefix}
use Rattle.tv_shared.specs.Hearing.{Hears}
use Rattle.tv_shared.specs.Logs.{IsStart, Keeps, Log, log_of}
use Rattle.tv_shared.specs.Moves.{Advances, IsEntered, IsPublished, IsUnanswered, IsUnpublished, StaysAs, Stops}
use Rattle.tv_shared.specs.Counting.{KeepsCount}
use Rattle.tv_shared.specs.Names.{Name}
use Rattle.tv_shared.proofs.Refusals.{count_first, count_off, count_on}
use Rattle.tv_shared.proofs.Runs.{after_snoc, answers_snoc, map_snoc, shown_snoc}
use Rattle.tv_stepping.specs.Steps.{HearsLine, HearsNoLine}
use Rattle.tv_stepping.specs.declared.ending.Ending.TheVariants.{Open}
use Rattle.tv_stepping.specs.declared.event_store.EventStore.{Ghosts}

-- ---- what is heard

hears_more : {now later : Type 0} (heard new : Heard) (lines : List (List ℕ)) (line : List ℕ)
    → Hears now heard lines → now → HearsLine heard new line → Hears later new (lines ++ line ∷ [])
hears_more heard new lines line h opened told =
    let none = h.whole opened in
    let piece : ℕ × List ℕ = (told.0, line ++ 10 ∷ []) in
    record {
      before = h.before;
      pieces = h.pieces ++ piece ∷ [];
      rest = [];
      parts =
          told.1
          ∙ ap (λ (l : Heard). l ++ piece ∷ [])
          (h.parts ∙ ap (λ (r : Heard). h.before ++ (h.pieces ++ r)) none
          ∙ ap (λ (r : Heard). h.before ++ r) (append-nil h.pieces))
          ∙ append_assoc h.before h.pieces (piece ∷ [])
          ∙ ap (λ (r : Heard). h.before ++ r) (sym (append-nil (h.pieces ++ piece ∷ [])));
      each =
          map_snoc (λ (p : ℕ × List ℕ). p.1) h.pieces piece
          ∙ ap (λ (l : List (List ℕ)). l ++ (line ++ 10 ∷ []) ∷ []) h.each
          ∙ sym (map_snoc (λ (l : List ℕ). l ++ 10 ∷ []) lines line);
      part = inl refl;
      whole = λ _. refl;
    }

hears_no_more : {now later : Type 0} (heard new : Heard) (lines : List (List ℕ))
    → Hears now heard lines → now → HearsNoLine heard new → (later → ⊥) → Hears later new lines
hears_no_more heard new lines h opened told closed =
    let none = h.whole opened in
    record {
      before = h.before;
      pieces = h.pieces;
      rest = told.0;
      parts =
          told.1
          ∙ ap (λ (l : Heard). l ++ told.0)
          (h.parts ∙ ap (λ (r : Heard). h.before ++ (h.pieces ++ r)) none
          ∙ ap (λ (r : Heard). h.before ++ r) (append-nil h.pieces))
          ∙ append_assoc h.before h.pieces told.0;
      each = h.each;
      part = told.2;
      whole = λ o. absurd (closed o);
    }

-- ---- prefixes

whole_prefix : (xs ys : List Snapshot) → xs ≡ ys → IsPrefix xs ys
whole_prefix xs ys e = ([], sym e ∙ sym (append-nil xs))

longer_prefix : (xs ys more : List Snapshot) → IsPrefix xs ys → IsPrefix xs (ys ++ more)
longer_prefix xs ys more p =
    (p.0 ++ more, ap (λ (l : List Snapshot). l ++ more) p.1 ∙ append_assoc xs p.0 more)

-- ---- one entry more

module _ {S : Type 0} (g : Ghosts S) (n : Name) (old new : Log S) (event : Event)
    (answer : List ℕ) (k : Keeps g n old) (was : g.stands old.store ≡ Open)
    (e : IsEntered g old new event answer) where
  abbrev pub turn : Turn
  turn = (event, e.step.outcomes)

  abbrev pub longer : List Turn
  longer = k.turns ++ turn ∷ []

  events_longer : events_of longer ≡ events_in new.history
  events_longer =
      map_snoc (λ (t : Turn). t.0) k.turns turn
      ∙ ap (λ (es : List Event). es ++ event ∷ []) k.events
      ∙ sym (map_snoc (λ (x : Entry). x.event) old.history (entry event answer))
      ∙ ap (λ (h : List Entry). events_in h) (sym e.history)

  here : (t : g.told) (s : State) (b : n.start s)
      → (answer ≡ (step (after s k.turns) event e.step.outcomes).0)
      × g.holds new.store (step (after s k.turns) event e.step.outcomes).1
  here t s b = e.step.each t (after s k.turns) (k.holds was t s b)

  told_longer : answers_in new.history ≡ answers_in old.history ++ answer ∷ []
  told_longer =
      ap (λ (h : List Entry). answers_in h) e.history
      ∙ map_snoc (λ (x : Entry). x.answer) old.history (entry event answer)

  legal_longer : (t : g.told) (s : State) (b : n.start s) → IsLegal s longer new.history
  legal_longer t s b =
      answers_snoc s k.turns turn
      ∙ ap₂ (λ (l : List (List ℕ)) (a : List ℕ). l ++ a ∷ []) (k.legal t s b) (sym (here t s b).0)
      ∙ sym told_longer

  holds_longer : (t : g.told) (s : State) (b : n.start s) → g.holds new.store (after s longer)
  holds_longer t s b =
      subst (λ (q : State). g.holds new.store q) (sym (after_snoc s k.turns turn)) (here t s b).1

  hears_longer : (t : g.told) (l : g.tells) (s : State) (b : n.start s)
      → Hears (g.stands new.store ≡ Open) (g.heard new.store) (opening_line s ∷ answers_in new.history)
  hears_longer t l s b =
      subst (λ (lines : List (List ℕ)). Hears (g.stands new.store ≡ Open) (g.heard new.store)
      (opening_line s ∷ lines)) (sym told_longer)
      (hears_more (g.heard old.store) (g.heard new.store) (opening_line s ∷ answers_in old.history) answer
      (k.hears t l s b) was (e.hears l))

  shown_longer : (t : g.told) (s : State) (b : n.start s)
      → shown s longer ≡ shown s k.turns ++ published_by answer (after s longer)
  shown_longer t s b =
      shown_snoc s k.turns turn
      ∙ ap₂ (λ (a : List ℕ) (q : State). shown s k.turns ++ published_by a q) (sym (here t s b).0)
      (sym (after_snoc s k.turns turn))

  pub entered : (new.has_ended ≡ false → (t : g.told) (s : State) → n.start s → new.published ≡ shown s longer)
      → ((t : g.told) (s : State) → n.start s → IsPrefix new.published (shown s longer)) → Keeps g n new
  entered shows begins = record {
    turns = longer;
    events = events_longer;
    legal = legal_longer;
    holds = λ _ t s b. holds_longer t s b;
    hears = hears_longer;
    opened = λ _. e.stands;
    shows = shows;
    begins = begins;
    counts = count_on g n old.store new.store event k.counts was answer e.counts e.stands;
  }

module _ {S : Type 0} (g : Ghosts S) (n : Name) (old new : Log S) (event : Event)
    (k : Keeps g n old) (was : old.has_ended ≡ false) where
  -- an event that was applied
  pub goes_on : (receipt : Receipt) → Advances g old new event receipt → Keeps g n new
  goes_on receipt a =
      let all : (t : g.told) (s : State) → n.start s
      → new.published ≡ shown s (longer g n old new event receipt.answer k (k.opened was) a.entered) =
      λ t s b.
      a.published.told t (after s (longer g n old new event receipt.answer k (k.opened was) a.entered))
      (holds_longer g n old new event receipt.answer k (k.opened was) a.entered t s b)
      ∙ ap (λ (l : List Snapshot). l ++ published_by receipt.answer
      (after s (longer g n old new event receipt.answer k (k.opened was) a.entered))) (k.shows was t s b)
      ∙ sym (shown_longer g n old new event receipt.answer k (k.opened was) a.entered t s b) in
      entered g n old new event receipt.answer k (k.opened was) a.entered (λ _ t s b. all t s b)
      (λ t s b. whole_prefix new.published _ (all t s b))

  module _ (u : IsUnpublished g old new event) where
    abbrev more : List Turn
    more = longer g n old new event u.answer k (k.opened was) u.entered

    all_shown : (t : g.told) (s : State) → n.start s
        → old.published ++ published_by u.answer (after s more) ≡ shown s more
    all_shown t s b =
        ap (λ (l : List Snapshot). l ++ published_by u.answer (after s more)) (k.shows was t s b)
        ∙ sym (shown_longer g n old new event u.answer k (k.opened was) u.entered t s b)

    first_shown : (t : g.told) (s : State) → n.start s → IsPrefix new.published (shown s more)
    first_shown t s b =
        subst (λ (l : List Snapshot). IsPrefix new.published l) (all_shown t s b)
        (⊎_elim
        (λ (same : new.published ≡ old.published).
        longer_prefix new.published old.published (published_by u.answer (after s more))
        (whole_prefix new.published old.published same))
        (λ (p : IsPublished g new.store u.answer old.published new.published).
        whole_prefix new.published _ (p.told t (after s more)
        (holds_longer g n old new event u.answer k (k.opened was) u.entered t s b)))
        u.published)

    unpublished : (new.has_ended ≡ true) → Keeps g n new
    unpublished ended =
        entered g n old new event u.answer k (k.opened was) u.entered
        (λ e. absurd (true≢false (sym ended ∙ e))) (λ t s b. first_shown t s b)

  unanswered : (new.has_ended ≡ true) → (error : TantivyError) → IsUnanswered g old new event error
      → Keeps g n new
  unanswered ended error u = record {
    turns = k.turns;
    events = k.events ∙ ap (λ (h : List Entry). events_in h) (sym u.history);
    legal = λ t s b. k.legal t s b ∙ ap (λ (h : List Entry). answers_in h) (sym u.history);
    holds = λ o. absurd (u.stands o);
    hears = λ t l s b.
        subst (λ (h : List Entry). Hears (g.stands new.store ≡ Open) (g.heard new.store)
        (opening_line s ∷ answers_in h)) (sym u.history)
        (hears_no_more (g.heard old.store) (g.heard new.store) _ (k.hears t l s b) (k.opened was) (u.hears l)
        u.stands);
    opened = λ e. absurd (true≢false (sym ended ∙ e));
    shows = λ e. absurd (true≢false (sym ended ∙ e));
    begins = λ t s b. subst (λ (l : List Snapshot). IsPrefix l (shown s k.turns)) (sym u.published)
        (k.begins t s b);
    counts = count_off g n old.store new.store event k.counts (k.opened was) error u.counts
        u.memory u.stands;
  }

  stays_as : (new.has_ended ≡ true) → StaysAs old new → Keeps g n new
  stays_as ended u = record {
    turns = k.turns;
    events = k.events ∙ ap (λ (h : List Entry). events_in h) (sym u.history);
    legal = λ t s b. k.legal t s b ∙ ap (λ (h : List Entry). answers_in h) (sym u.history);
    holds = λ o t s b. subst (λ (q : S). g.holds q (after s k.turns)) (sym u.store)
        (k.holds (k.opened was) t s b);
    hears = λ t l s b.
        subst (λ (h : List Entry). Hears (g.stands new.store ≡ Open) (g.heard new.store)
        (opening_line s ∷ answers_in h)) (sym u.history)
        (subst (λ (q : S). Hears (g.stands q ≡ Open) (g.heard q) (opening_line s ∷ answers_in old.history))
        (sym u.store) (k.hears t l s b));
    opened = λ e. absurd (true≢false (sym ended ∙ e));
    shows = λ e. absurd (true≢false (sym ended ∙ e));
    begins = λ t s b. subst (λ (l : List Snapshot). IsPrefix l (shown s k.turns)) (sym u.published)
        (k.begins t s b);
    counts = subst (λ (q : S). KeepsCount g n q) (sym u.store) k.counts;
  }

  -- an event that failed
  pub stops : (new.has_ended ≡ true) → (error : TantivyError) → Stops g old new event error → Keeps g n new
  stops ended error stop =
      ⊎_elim (λ (u : StaysAs old new × (error ≡ errors.Memory)). stays_as ended u.0)
      (λ (v : IsUnanswered g old new event error
      ⊎ (IsUnpublished g old new event × (error ≡ errors.Memory))).
      ⊎_elim (λ (u : IsUnanswered g old new event error). unanswered ended error u)
      (λ (u : IsUnpublished g old new event × (error ≡ errors.Memory)). unpublished u.0 ended) v)
      stop

-- a store that is just opened
pub begins : {S : Type 0} (g : Ghosts S) (n : Name) (store : S) (published : List Snapshot)
    → IsStart g n store → published ≡ [] → Keeps g n (log_of store [] published false)
begins g n store published i none = record {
  turns = [];
  events = refl;
  legal = λ t s b. refl;
  holds = λ _ t s b. i.holds t s b;
  hears = i.hears;
  opened = λ _. i.opened;
  shows = λ _ t s b. none;
  begins = λ t s b. whole_prefix published [] none;
  counts = count_first g n store i;
}

-- ---- the first reader

pub reads_on : (h : List Entry) (x : Entry) → has_reader h ≡ true → has_reader (h ++ x ∷ []) ≡ true
reads_on [] x e = absurd (true≢false (sym e))
reads_on (y ∷ h) x e = e

-- what always holds says less of a store that has ended
pub as_ended : {S : Type 0} (g : Ghosts S) (n : Name) (log : Log S) → Keeps g n log
    → Keeps g n (record log { has_ended = true })
as_ended g n log k = record {
  turns = k.turns;
  events = k.events;
  legal = k.legal;
  holds = k.holds;
  hears = k.hears;
  opened = λ e. absurd (true≢false e);
  shows = λ e. absurd (true≢false e);
  begins = k.begins;
  counts = k.counts;
}

-- ---- the same in pieces

module _ {S : Type 0} (g : Ghosts S) (n : Name) (store store' : S) (h h' : List Entry)
    (published published' : List Snapshot) (ended : Bool) (event : Event)
    (k : Keeps g n (log_of store h published ended)) (was : ended ≡ false) where
  unended : Keeps g n (log_of store h published false)
  unended = subst (λ (b : Bool). Keeps g n (log_of store h published b)) was k

  pub keeps_on : (receipt : Receipt)
      → Advances g (log_of store h published false) (log_of store' h' published' false) event receipt
      → Keeps g n (log_of store' h' published' false)
  keeps_on receipt a = goes_on g n _ _ event unended refl receipt a

  pub keeps_ended : (error : TantivyError)
      → Stops g (log_of store h published false) (log_of store' h' published' true) event error
      → Keeps g n (log_of store' h' published' true)
  keeps_ended error stop = stops g n _ _ event unended refl refl error stop
