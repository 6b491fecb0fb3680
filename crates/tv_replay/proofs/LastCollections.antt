-- What a collection leaves that is the last event of a script.
use Rattle.std.proofs.Common.{◌≡◌, ◌<◌, ◌+◌, ℕ, ◌&&◌, ◌||◌, Bool, true, false, List, [], ◌∷◌, ◌++◌, Option, Some, refl, sym, ap, subst, ◌∙◌, arith, inl, inr, append_assoc, codes}
use Rattle.std.specs.Prelude.{is_some}
use Rattle.std.specs.List.{AllByRecursion, list_any, slice_split}
use Rattle.tv_formats.specs.Collections.{held, no_collections}
use Rattle.tv_formats.specs.Files.{RoseBy}
use Rattle.tv_formats.specs.Names.{has}
use Rattle.tv_formats.specs.Schemas.{IsSchema, stripped}
use Rattle.tv_formats.specs.Sound.{IsSoundImage, IsSoundStart}
use Rattle.tv_events.specs.declared.event.Event.{Event}
use Rattle.tv_events.specs.declared.event.Event.TheVariants as events
use Rattle.tv_machine.specs.CollectionEvents.{gc_step}
use Rattle.tv_machine.specs.Living.{is_busy, is_locked, living}
use Rattle.tv_machine.specs.Machine.{Turn, after, all_refused, events_of, refused_in, step}
use Rattle.tv_events.specs.Script.{AllSpell, AreLines, Fits, IsLine, line_of, lines_of}
use Rattle.tv_machine.specs.SoundStates.{IsSoundState}
use Rattle.tv_machine.specs.State.{State, StepResult, file_at, Readers, no_readers}
use Rattle.tv_machine.proofs.CollectionStates.{gc_free}
use Rattle.tv_machine.proofs.CollectsInSteps.{collects_all_else}
use Rattle.tv_machine.proofs.OpenedStates.{opens_sound}
use Rattle.tv_machine.proofs.Serving.{front_fits, sound_after}
use Rattle.tv_device.specs.declared.directory.Directory.{Ghosts}
use Rattle.tv_replay.specs.LastCollections.{EndsCollecting, LeavesNeeded, RefusesNoDelete}
use Rattle.tv_replay.specs.Replays.{Replays}
use Rattle.tv_replay.specs.declared.replaying.Tally.{Tally}
use Rattle.tv_script.proofs.WordLaws.{is_space}
use Rattle.tv_script.proofs.GrammarLaws.{heading, heading_is, words_of_line}
use Rattle.tv_replay.proofs.Complete.{lines_fit}
use Rattle.tv_script.proofs.LineLaws.{differ}
use Rattle.tv_replay.proofs.StandingIndexes.{reads_where_there}
use Rattle.tv_replay.proofs.Progress.{after-last, refused-last}

-- ---- the last lines

gcs : (event : Event) → heading (line_of event) ≡ codes "gc" → event ≡ events.Gc
gcs events.Gc h = refl
gcs other h = absurd (differ (heading (line_of other)) (codes "gc") refl h)

reopens : (event : Event) → heading (line_of event) ≡ codes "reopen" → event ≡ events.Reopen
reopens events.Reopen h = refl
reopens other h = absurd (differ (heading (line_of other)) (codes "reopen") refl h)

-- the first word of a line of one word
headed : (text : List ℕ) (event : Event) → slice_split is_space text ≡ text ∷ [] → IsLine text event → heading (line_of event) ≡ text
headed text event one line = heading_is event text [] (subst (AllSpell (line_of event)) (sym (words_of_line text event line) ∙ one) line.spell)

only_gc : (event : Event) → IsLine (codes "gc") event → event ≡ events.Gc
only_gc event line = gcs event (headed (codes "gc") event refl line)

only_reopen : (event : Event) → IsLine (codes "reopen") event → event ≡ events.Reopen
only_reopen event line = reopens event (headed (codes "reopen") event refl line)

-- the last of the turns whose lines these are
record LastTurn (texts : List (List ℕ)) (text : List ℕ) (turns : List Turn) : Type 0 where
  pub first : List Turn
  pub last : Turn
  pub split : turns ≡ first ++ last ∷ []
  pub lines : AreLines texts (events_of first)
  pub line : IsLine text last.0

last_turn : (texts : List (List ℕ)) (text : List ℕ) (turns : List Turn) → AreLines (texts ++ text ∷ []) (events_of turns) → LastTurn texts text turns
last_turn [] text [] h = absurd h
last_turn [] text (turn ∷ []) h = record { first = []; last = turn; split = refl; lines = tt; line = h.0 }
last_turn [] text (turn ∷ next ∷ turns) h = absurd h.1
last_turn (t ∷ texts) text [] h = absurd h
last_turn (t ∷ texts) text (turn ∷ turns) h =
    let rest = last_turn texts text turns h.1 in
    record { first = turn ∷ rest.first; last = rest.last; split = ap (λ (l : List Turn). turn ∷ l) rest.split; lines = (h.0, rest.lines); line = rest.line }

no_turns : (turns : List Turn) → AreLines [] (events_of turns) → turns ≡ []
no_turns [] h = refl
no_turns (turn ∷ turns) h = absurd h

-- the turns end in a collection, where none is unfinished, and nobody holds the meta lock, in a run from an
-- index that was just opened
record EndsInGc (turns : List Turn) : Type 0 where
  pub first : List Turn
  pub outcomes : List Bool
  pub split : turns ≡ first ++ (events.Gc, outcomes) ∷ []
  pub none : (s : State) → s.collections ≡ no_collections → (after s first).collections ≡ no_collections
  pub idle : (s : State) → s.catalog.reading ≡ no_readers → is_busy (after s first).catalog ≡ false

as_gc : (turns first : List Turn) (last : Turn) → turns ≡ first ++ last ∷ [] → last.0 ≡ events.Gc → turns ≡ first ++ (events.Gc, last.1) ∷ []
as_gc turns first last split is = split ∙ ap (λ (e : Event). first ++ (e, last.1) ∷ []) is

-- behind a reopening no collection is unfinished
reopened_none : (s : State) (first : List Turn) (last : Turn) → last.0 ≡ events.Reopen → (after s (first ++ last ∷ [])).collections ≡ no_collections
reopened_none s first last is = ap (λ (t : State). t.collections) (after-last s first last ∙ ap (λ (e : Event). (step (after s first) e last.1).1) is)

-- nor does a reload wait there
reopened_idle : (s : State) (first : List Turn) (last : Turn) → last.0 ≡ events.Reopen → is_busy (after s (first ++ last ∷ [])).catalog ≡ false
reopened_idle s first last is = ap (λ (t : State). is_busy t.catalog) (after-last s first last ∙ ap (λ (e : Event). (step (after s first) e last.1).1) is)

ends_in_gc : (script : List ℕ) (turns : List Turn) → EndsCollecting script → AreLines (lines_of script) (events_of turns) → EndsInGc turns
ends_in_gc script turns (inl alone) whole =
    let gc = last_turn [] (codes "gc") turns (subst (λ (texts : List (List ℕ)). AreLines texts (events_of turns)) alone whole) in
    record {
      first = gc.first;
      outcomes = gc.last.1;
      split = as_gc turns gc.first gc.last gc.split (only_gc gc.last.0 gc.line);
      none = λ s none. ap (λ (l : List Turn). (after s l).collections) (no_turns gc.first gc.lines) ∙ none;
      idle = λ s none. ap (λ (l : List Turn). is_busy (after s l).catalog) (no_turns gc.first gc.lines) ∙ ap (λ (reading : Readers). list_any (λ e. is_locked e.1) reading.readers) none;
    }
ends_in_gc script turns (inr (front, behind)) whole =
    let texts : lines_of script ≡ (front ++ codes "reopen" ∷ []) ++ codes "gc" ∷ [] = behind ∙ sym (append_assoc front (codes "reopen" ∷ []) (codes "gc" ∷ [])) in
    let gc = last_turn (front ++ codes "reopen" ∷ []) (codes "gc") turns (subst (λ (texts : List (List ℕ)). AreLines texts (events_of turns)) texts whole) in
    let reopen = last_turn front (codes "reopen") gc.first gc.lines in
    record {
      first = gc.first;
      outcomes = gc.last.1;
      split = as_gc turns gc.first gc.last gc.split (only_gc gc.last.0 gc.line);
      none = λ s none. ap (λ (l : List Turn). (after s l).collections) reopen.split ∙ reopened_none s reopen.first reopen.last (only_reopen reopen.last.0 reopen.line);
      idle = λ s none. ap (λ (l : List Turn). is_busy (after s l).catalog) reopen.split ∙ reopened_idle s reopen.first reopen.last (only_reopen reopen.last.0 reopen.line);
    }

-- ---- what is left

or_none : (b : Bool) → (b || false) ≡ b
or_none true = refl
or_none false = refl

-- a collection at once, of which no delete is refused, where no other one is unfinished
collected : (s : State) (outcomes : List Bool) → IsSoundState s → is_busy s.catalog ≡ false → s.collections ≡ no_collections → refused_in outcomes ≡ 0
    → (n : List ℕ) → is_some (file_at (gc_step s outcomes).1 n) ≡ (is_some (file_at s n) && has (living s.catalog) n)
collected s outcomes sound idle none quiet n =
    collects_all_else s sound idle outcomes n quiet ∙ ap (λ c. is_some (file_at s n) && (has (living s.catalog) n || has (held c) n)) none ∙ ap (λ (b : Bool). is_some (file_at s n) && b) (or_none (has (living s.catalog) n))

none_rose : (n before now : ℕ) → RoseBy n before now → now ≡ before → now < 18446744073709551615 → n ≡ 0
none_rose n before now (inl more) still below = omega (arith, more, still)
none_rose n before now (inr end) still below = absurd (omega (arith, end, below))

pub leaves_needed : {O W C : Type 0} (g : Ghosts O W C) (before now : O) (schema script : List ℕ) (left : Option (List ℕ)) (tally : Tally) → g.told.content → IsSoundStart (stripped schema) (g.view before).reads (g.view before).locks
    → left ≡ Some script → EndsCollecting script → RefusesNoDelete (g.view before) (g.view now) → Replays g before now schema left tally → LeavesNeeded g before now schema script
leaves_needed g before now schema script left tally content start is ends quiet r =
    let spelled : IsSchema schema (stripped schema) = subst (λ (t : List ℕ). IsSchema schema t) r.spelled.1.text_is r.spelled.1 in
    let index = r.opens content (stripped schema) spelled start.image in
    let image : IsSoundImage index.form.schema (g.view before).reads = subst (λ (t : List ℕ). IsSoundImage t (g.view before).reads) (sym index.spelled.text_is) start.image in
    let whole = r.lines script is in
    let gc = ends_in_gc script r.turns ends whole in
    let s = after index.state gc.first in
    let last : after index.state r.turns ≡ (gc_step s gc.outcomes).1 = ap (after index.state) gc.split ∙ after-last index.state gc.first (events.Gc, gc.outcomes) in
    let fits : AllByRecursion Fits (events_of gc.first) =
    front_fits gc.first ((events.Gc, gc.outcomes) ∷ []) (subst (λ (l : List Turn). AllByRecursion Fits (events_of l)) gc.split (lines_fit (lines_of script) (events_of r.turns) whole)) in
    let sound = sound_after index.state gc.first fits (opens_sound index.form.settings index.form.schema (g.view before).reads index.state image index.opens) in
    let idle = gc.idle index.state index.opens.reading in
    let none : all_refused r.turns ≡ 0 = none_rose (all_refused r.turns) (g.view before).refusals (g.view now).refusals r.refused quiet.still quiet.below in
    let parts : all_refused r.turns ≡ all_refused gc.first + refused_in gc.outcomes = ap all_refused gc.split ∙ refused-last gc.first (events.Gc, gc.outcomes) in
    record {
      index = index;
      turns = r.turns;
      whole = whole;
      none_failed = none;
      first = gc.first;
      outcomes = gc.outcomes;
      split = gc.split;
      left = λ n file.
          reads_where_there (file_at (after index.state r.turns) n) ((g.view now).reads n) ((r.holds content index).files n file) ∙ ap (λ (t : State). is_some (file_at t n)) last
          ∙ collected s gc.outcomes sound idle (gc.none index.state index.opens.collections) (omega (arith, none, parts)) n
          ∙ ap (λ (r : StepResult State). is_some (file_at s n) && has (living r.1.catalog) n) (sym (gc_free s gc.outcomes idle)) ∙ ap (λ (t : State). is_some (file_at s n) && has (living t.catalog) n) (sym last);
    }
