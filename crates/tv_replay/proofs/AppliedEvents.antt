-- A script replayed: how far a run has come, and what a whole run is.
use Rattle.std.proofs.Common.{◌≡◌, ◌≢◌, ◌⊎◌, ℕ, ◌+◌, ◌≤◌, true, List, [], ◌∷◌, ◌++◌, map, length, Option, Some, None, Result, Ok, Err, IfErr, IfOk, refl, sym, ap, subst, ◌∙◌, arith, append_assoc, length-append, inl, inr}
use Rattle.std.specs.List.{AllByRecursion}
use Rattle.std.proofs.lemmas.List.{append-nil, map-append, length-map}
use Rattle.tv_base.specs.Streams.{SourceView}
use Rattle.tv_base.specs.declared.error.TantivyError.{TantivyError}
use Rattle.tv_base.specs.declared.open_errors.LockError.TheVariants as lock
use Rattle.tv_base.specs.declared.error.TantivyError.TheVariants as errors
use Rattle.tv_base.specs.declared.open_errors.OpenWriteError.{OpenWriteError}
use Rattle.tv_base.specs.declared.open_errors.OpenWriteError.TheVariants as write
use Rattle.tv_base.specs.declared.open_errors.OpenReadError.{OpenReadError}
use Rattle.tv_base.specs.declared.open_errors.OpenReadError.TheVariants as read
use Rattle.tv_events.specs.declared.event.Event.{Event}
use Rattle.tv_formats.specs.Names.{has, meta_name}
use Rattle.tv_formats.specs.Files.{Reads, Heard, Rose, RoseBy}
use Rattle.tv_formats.specs.Commits.{IndexForm}
use Rattle.tv_machine.specs.State.{Catalog, State, FileState, Left, file_at}
use Rattle.tv_machine.specs.Lines.{opening_of}
use Rattle.tv_machine.specs.Machine.{Turn, step, answers, report, after, events_of, refused_in, all_refused}
use Rattle.tv_machine.specs.Index.{FileReads, DirectoryHolds, FoundIndex, OpenedIndex}
use Rattle.tv_formats.specs.Sound.{IsSoundImage}
use Rattle.tv_machine.specs.CommitEvents.{is_sealed}
use Rattle.tv_formats.specs.Collections.{Collections, held}
use Rattle.tv_formats.specs.Segments.{all_required}
use Rattle.tv_machine.specs.Living.{kept_commits}
use Rattle.tv_machine.specs.Readable.{AreGoodFiles, CanRead}
use Rattle.tv_machine.proofs.SoundOpenings.{sound_index, opens_managed_sorted}
use Rattle.tv_store.specs.OpeningCauses.{CallFacts, IsSomeSchema}
use Rattle.tv_machine.proofs.OpenedStates.{opens_sound}
use Rattle.tv_events.specs.Script.{lines_of, Fits}
use Rattle.tv_machine.specs.SoundStates.{HasSealedFiles, IsUnheld, IsWhole}
use Rattle.tv_machine.proofs.ReaderMoves.{all_of, all_weaker}
use Rattle.tv_machine.proofs.SoundStates.{holds_sound}
use Rattle.tv_machine.proofs.HeldStates.{nothing_held}
use Rattle.tv_machine.proofs.WholeStates.{after_whole}
use Rattle.tv_machine.proofs.Serving.{serves, serves_as_sealed, sound_after}
use Rattle.tv_machine.proofs.Collects.{collects_in}
use Rattle.tv_machine.proofs.CollectsInSteps.{collects_in_steps_in}
use Rattle.tv_machine.proofs.Validating.{validates}
use Rattle.tv_script.specs.declared.script_events.ScriptError.{ScriptError}
use Rattle.tv_script.specs.declared.script_events.ScriptError.TheVariants as failed
use Rattle.tv_script.specs.declared.lines.LineError.TheVariants as line
use Rattle.tv_replay.specs.declared.replaying.Tally.{Tally}
use Rattle.tv_catalog.specs.Kept.{KeptState}
use Rattle.tv_store.specs.Kept.{StoreState, FileHolds, Holds}
use Rattle.tv_device.specs.declared.directory.Directory.{Ghosts}
use Rattle.tv_store.specs.Opening.{Opens}
use Rattle.tv_store.specs.Telling.{AreBetween, TellsLine, TellsLines}
use Rattle.tv_script.specs.ScriptLines.{pending, TakesNextEvent, IsNoEvent, IsTooLong}
use Rattle.tv_index.specs.Opening.{NotesMade}
use Rattle.tv_index.specs.Standing.{MetaCause, OfRead}
use Rattle.tv_formats.specs.Meaning.{Means, MeansNothing, MeansOther}
use Rattle.tv_formats.proofs.MeansOne.{means_no_other, means_something}
use Rattle.tv_catalog.specs.Effects.{TakesMetaLock}
use Rattle.tv_store.specs.ReadCauses.{ReadFault, LoadingCause, ReadFacts}
use Rattle.tv_managed.specs.Collecting.{meta_lock_name}
use Rattle.tv_script.specs.ScriptCauses.{IsRefused, ScriptCause}
use Rattle.tv_store.specs.StoreCauses.{WriteFault, IsRefusal}
use Rattle.tv_replay.specs.Replays.{Replays, ReplayCause, StopsAtLine, LineRefusal, IsTooMany, TakesNoLock, line_refusal, long_refusal}
use Rattle.tv_store.specs.Applying.{Stepped}
use Rattle.tv_replay.specs.AppliedEvents.{Applies, Runs, RunFaults, Causes, RunCause, run_causes, FailsRun, EndCause, IsErrorOf}
use Rattle.tv_replay.proofs.AppliedWhole.{EventSurvives, ReplayLeaves, none_applied, one_more_whole}
use Rattle.tv_script.proofs.LineLemmas.{pending_some}
use Rattle.tv_replay.proofs.Progress.{after-last, answers-last, events-last, readable-last, refused-last, AreLines-length, ReadSoFar, HasRead, nothing_read, one_more_read, all_read}

-- ---- telling

earlier : (from mid to : ℕ) (pieces : Heard) → from ≤ mid → AreBetween mid pieces to → AreBetween from pieces to
earlier from mid to [] le h = omega (arith, h)
earlier from mid to (p ∷ pieces) le h = (omega (arith, h.0), h.1)

between_then : (from mid to : ℕ) (a b : Heard) → AreBetween from a mid → AreBetween mid b to → AreBetween from (a ++ b) to
between_then from mid to [] b h k = earlier from mid to b h k
between_then from mid to (p ∷ a) b h k = (h.0, between_then p.0 mid to a b h.1 k)

longer : (from mid to : ℕ) (pieces : Heard) → AreBetween from pieces mid → mid ≤ to → AreBetween from pieces to
longer from mid to [] h le = omega (arith, h)
longer from mid to (p ∷ pieces) h le = (h.0, longer p.0 mid to pieces h.1 le)

-- some lines after others
tells_then : {before now later : Heard} {from mid to : ℕ} {lines more : List (List ℕ)} → TellsLines before now from mid lines → TellsLines now later mid to more → TellsLines before later from to (lines ++ more)
tells_then {before} {now} {later} {from} {mid} {to} {lines} {more} ts us = record {
  pieces = ts.pieces ++ us.pieces;
  heard = us.heard ∙ ap (λ (h : Heard). h ++ us.pieces) ts.heard ∙ append_assoc before ts.pieces us.pieces;
  moments = between_then from mid to ts.pieces us.pieces ts.moments us.moments;
  each =
      map-append (λ (p : ℕ × List ℕ). p.1) ts.pieces us.pieces ∙ ap (λ (ls : List (List ℕ)). ls ++ map (λ (p : ℕ × List ℕ). p.1) us.pieces) ts.each
      ∙ ap (λ (ls : List (List ℕ)). map (λ (l : List ℕ). l ++ 10 ∷ []) lines ++ ls) us.each ∙ sym (map-append (λ (l : List ℕ). l ++ 10 ∷ []) lines more);
}

pub tells_one : {before now : Heard} {from to : ℕ} {line : List ℕ} → TellsLine before now from to line → TellsLines before now from to (line ∷ [])
tells_one {line = line} t = record { pieces = (t.moment, line ++ 10 ∷ []) ∷ []; heard = t.heard; moments = (t.later, t.sooner); each = refl }

-- one line before some lines
pub tells_first : (before now later : Heard) (from mid to : ℕ) (line : List ℕ) (lines : List (List ℕ)) → TellsLine before now from mid line → TellsLines now later mid to lines → TellsLines before later from to (line ∷ lines)
tells_first before now later from mid to line lines t ts = tells_then (tells_one t) ts

-- told by a later moment
pub tells_by : {before now : Heard} {from mid : ℕ} {lines : List (List ℕ)} (to : ℕ) → mid ≤ to → TellsLines before now from mid lines → TellsLines before now from to lines
tells_by {from = from} {mid = mid} to le ts = record { pieces = ts.pieces; heard = ts.heard; moments = longer from mid to ts.pieces ts.moments le; each = ts.each }

-- ---- events that fit

pub fits-last : (events : List Event) (e : Event) → AllByRecursion Fits events → Fits e → AllByRecursion Fits (events ++ e ∷ [])
fits-last [] e all fits = (fits, tt)
fits-last (first ∷ events) e all fits = (all.0, fits-last events e all.1 fits)

-- ---- how far a run has come

-- these events were applied, and they are the lines that were read
pub record Progress {O W C : Type 0} (g : Ghosts O W C) (old new : StoreState O) (text left : Option (List ℕ)) (count : ℕ) : Type 0 where
  pub turns : List Turn
  pub counted : count ≡ length turns
  pub read : HasRead text left turns
  pub applied : Applies g old new turns

pub starts : {O W C : Type 0} (g : Ghosts O W C) (store : StoreState O) (held : List ℕ) (text : Option (List ℕ)) → held ≡ [] → Progress g store store text (pending held text) 0
starts g store held text none =
    record {
      turns = [];
      counted = refl;
      read = λ whole told. nothing_read whole held text none told;
      applied = record {
        fits = tt;
        form = refl;
        holds = λ t s h w. h;
        told = λ t th s h w. record { pieces = []; heard = sym (append-nil (g.view store.outside).heard); moments = omega arith; each = refl };
        readable = λ t s h w. tt;
        unlocked = λ t locks held s h w. tt;
        refused = inl (omega arith);
        survives = λ t th s h w d. none_applied g store s d;
      };
    }

rose_more : (some more old now new : ℕ) → RoseBy some old now → RoseBy more now new → RoseBy (some + more) old new
rose_more some more old now new (inl a) (inl b) = inl (omega arith)
rose_more some more old now new (inl a) (inr b) = inr b
rose_more some more old now new (inr a) (inr b) = inr b
rose_more some more old now new (inr a) (inl b) = inr (omega arith)

unlocked_last : (s : State) (turns : List Turn) (t : Turn) → TakesNoLock s turns → (TakesMetaLock (after s turns).catalog t.0 → ⊥) → TakesNoLock s (turns ++ t ∷ [])
unlocked_last s [] t h free = (free, tt)
unlocked_last s (first ∷ turns) t h free = (h.0, unlocked_last (step s first.0 first.1).1 turns t h.1 free)

-- the lock that an event takes, seen from the start of a run: it is free where the event could be applied
abbrev pub FreeAt : {O W C : Type 0} (g : Ghosts O W C) (old now : StoreState O) (e : Event) → Type 0
FreeAt g old now e = g.told.locks → (g.view old.outside).locks meta_lock_name ≡ true → TakesMetaLock now.kept.catalog e → ⊥

one_more_applied : {O W C : Type 0} (g : Ghosts O W C) (old now new : StoreState O) (turns : List Turn) (e : Event) (answer : List ℕ)
    → Applies g old now turns → Fits e → new.kept.form ≡ now.kept.form → FreeAt g old now e → (stepped : Stepped g now new e answer)
    → (g.told.heard → TellsLine (g.view now.outside).heard (g.view new.outside).heard (g.view now.outside).moment (g.view new.outside).moment answer)
    → EventSurvives g now new e (Ok answer) → Applies g old new (turns ++ (e, stepped.outcomes) ∷ [])
one_more_applied g old now new turns e answer a fits form free stepped said survives =
    let t : Turn = (e, stepped.outcomes) in
    record {
      fits = subst (λ (es : List Event). AllByRecursion Fits es) (sym (events-last turns t)) (fits-last (events_of turns) e a.fits fits);
      form = form ∙ a.form;
      holds = λ tell s h w. subst (Holds (g.view new.outside).reads new.kept) (sym (after-last s turns t)) (stepped.each tell (after s turns) (a.holds tell s h w) (after_whole s turns w)).held;
      told = λ tell th s h w.
          let more = tells_then (a.told tell th s h w) (tells_one (said th)) in
          let is : answer ≡ (step (after s turns) e stepped.outcomes).0 = (stepped.each tell (after s turns) (a.holds tell s h w) (after_whole s turns w)).told in
          subst (TellsLines (g.view old.outside).heard (g.view new.outside).heard (g.view old.outside).moment (g.view new.outside).moment) (ap (λ (line : List ℕ). answers s turns ++ line ∷ []) is ∙ sym (answers-last s turns t)) more;
      readable = λ tell s h w. readable-last s turns t (a.readable tell s h w) (stepped.each tell (after s turns) (a.holds tell s h w) (after_whole s turns w)).readable;
      unlocked = λ tell locks held s h w.
          unlocked_last s turns t (a.unlocked tell locks held s h w) (λ takes. free locks held (subst (λ (c : Catalog). TakesMetaLock c e) (sym (a.holds tell s h w).catalog) takes));
      refused = subst (λ (n : ℕ). RoseBy n (g.view old.outside).refusals (g.view new.outside).refusals) (sym (refused-last turns t))
          (rose_more (all_refused turns) (refused_in stepped.outcomes) (g.view old.outside).refusals (g.view now.outside).refusals (g.view new.outside).refusals a.refused stepped.refused);
      survives = λ t th s h w d.
          let held = a.holds (survives.0 t) s h w in
          let whole = after_whole s turns w in
          let so_far = a.survives t th s h w d in
          let did = survives.1 t th (after s turns) held whole so_far.durable in
          let steps = stepped.each (survives.0 t) (after s turns) held whole in
          one_more_whole g old now new s turns e stepped.outcomes a.form so_far (did.ok stepped.outcomes steps.told steps.held) (did.durable (step (after s turns) e stepped.outcomes).1 steps.held);
    }

pub goes_on : {O W C : Type 0} (g : Ghosts O W C) (old now new : StoreState O) (text left later : Option (List ℕ)) (count : ℕ) (e : Event) (answer : List ℕ)
    → Progress g old now text left count → TakesNextEvent left (Some e) later → Fits e → new.kept.form ≡ now.kept.form → FreeAt g old now e → Stepped g now new e answer
    → (g.told.heard → TellsLine (g.view now.outside).heard (g.view new.outside).heard (g.view now.outside).moment (g.view new.outside).moment answer)
    → EventSurvives g now new e (Ok answer) → Progress g old new text later (count + 1)
goes_on g old now new text left later count e answer p takes fits form free stepped said survives =
    let t : Turn = (e, stepped.outcomes) in
    record {
      turns = p.turns ++ t ∷ [];
      counted = ap (λ (n : ℕ). n + 1) p.counted ∙ sym (length-append p.turns (t ∷ []));
      read = λ whole told.
          let r = p.read whole told in
          subst (λ (es : List Event). ReadSoFar whole later es) (sym (events-last p.turns t)) (one_more_read whole left later (events_of p.turns) r e (takes r.begun.rest r.left_is));
      applied = one_more_applied g old now new p.turns e answer p.applied fits form free stepped said survives;
    }

none_after : (held rest : List ℕ) → [] ≡ held ++ rest → rest ≡ []
none_after [] rest e = sym e
none_after (b ∷ held) rest e = absurd cc

-- nothing is left
none_pending : (held : List ℕ) (left : Option (List ℕ)) → pending held left ≡ Some [] → left ≡ Some []
none_pending held left e =
    let p = pending_some held [] left e in
    p.1 ∙ ap (λ (xs : List ℕ). Some xs) (none_after held p.0 p.2)

-- at the end of the script
pub ends : {O W C : Type 0} (g : Ghosts O W C) (old now : StoreState O) (text before : Option (List ℕ)) (held : List ℕ) (left : Option (List ℕ)) (count : ℕ) (tally : Tally)
    → Progress g old now text before count → TakesNextEvent before None (pending held left) → tally.events ≡ count → Runs g old now text left tally
ends g old now text before held left count tally p takes is =
    record {
      turns = p.turns;
      counted = is ∙ p.counted;
      lines = λ whole told.
          let r = p.read whole told in
          let t = takes r.begun.rest r.left_is in
          (all_read whole (events_of p.turns) r.begun t.0, none_pending held left t.1);
      applied = p.applied;
    }

module _ {O W C : Type 0} {g : Ghosts O W C} {old now : StoreState O} {text left : Option (List ℕ)} {count : ℕ} (number : ℕ) (p : Progress g old now text left count) (is : number ≡ count + 1) where
  -- the run stopped before the line of this number
  stops : (whole : List ℕ) → text ≡ Some whole → (rest : List ℕ) × StopsAtLine whole number rest × (left ≡ Some rest)
  stops whole told =
      let r = p.read whole told in
      let b = r.begun in
      let as_many : length (events_of p.turns) ≡ length p.turns = length-map p.turns (λ (t : Turn). t.0) in
      let place : length b.texts + 1 ≡ number = omega (arith, is, as_many, p.counted, AreLines-length b.texts (events_of p.turns) b.each) in
      (b.rest, record { texts = b.texts; events = events_of p.turns; each = b.each; place = place; split = b.split }, r.left_is)

  -- which is no event's
  pub stops_at_line : IsRefused IsNoEvent left → LineRefusal text (line_refusal number)
  stops_at_line wrong = (number, inl (refl, λ whole told. let s = stops whole told in (s.0, s.1, wrong s.0 s.2)))

  -- which is too long
  pub stops_at_long : IsRefused IsTooLong left → LineRefusal text (long_refusal number)
  stops_at_long long = (number, inr (refl, λ whole told. let s = stops whole told in (s.0, s.1, long s.0 s.2)))

-- there is a line too many
pub stops_at_last : {O W C : Type 0} {g : Ghosts O W C} {old now : StoreState O} {text left : Option (List ℕ)} {count : ℕ}
    → Progress g old now text left count → count ≡ 4294967295 → IsRefused (λ rest. rest ≢ []) left → IsTooMany text
stops_at_last p is some whole told = let s = stops 4294967296 p (omega (arith, is)) whole told in (s.0, s.1, some s.0 s.2)

-- where a line stands, something is left
pub some_left : (rest line : List ℕ) (lines : List (List ℕ)) → lines_of rest ≡ line ∷ lines → rest ≢ []
some_left [] line lines e none = absurd cc
some_left (b ∷ rest) line lines e none = absurd cc

-- ---- what `meta.json` means

-- the text that means the commit of a state
module _ (tells : Type 0) (reads : Reads) (kept : KeptState) where
  stands : (says : List ℕ → Type 0) → ((text : List ℕ) (s : State) → Means kept.form.settings kept.form.schema text s.catalog.commit → says text → ⊥) → OfRead tells (reads meta_name) says → tells → (s : State) → Holds reads kept s → ⊥
  stands says never (bytes, is, said) t s held =
      let text = held.meta in
      let both : Some text.0 ≡ Some bytes = sym text.1 ∙ is t in
      let same : bytes ≡ text.0 = cc in
      never text.0 s text.2 (subst says same said)

  -- isn't refused
  pub meta_stands : OfRead tells (reads meta_name) (MeansNothing (Some kept.form.schema)) ⊎ OfRead tells (reads meta_name) (MeansOther kept.form.schema) → tells → (s : State) → Holds reads kept s → ⊥
  meta_stands (inl h) =
      stands (MeansNothing (Some kept.form.schema)) (λ text s means none.
      means_something kept.form.settings kept.form.schema text s.catalog.commit means none) h
  meta_stands (inr h) =
      stands (MeansOther kept.form.schema) (λ text s means other.
      means_no_other kept.form.settings kept.form.schema text s.catalog.commit means other) h

-- ---- causes

write_fault : {refused more : Type 0} (error : OpenWriteError) → (refused → more) → WriteFault refused error → WriteFault more error
write_fault (write.IoError fault path) f h = (h.0, f h.1)
write_fault other f h = absurd h

pub read_fault : {refused quiet more all : Type 0} {bad worse : OpenReadError → Type 0} {absent gone : List ℕ → Type 0} (error : OpenReadError) → (refused → more) → (quiet → all) → ((error : OpenReadError) → bad error → worse error) → ((path : List ℕ) → absent path → gone path)
    → ReadFault refused quiet bad absent error → ReadFault more all worse gone error
read_fault (read.IoError fault path) f q b a (inl h) = inl (h.0, f h.1)
read_fault (read.IoError fault path) f q b a (inr h) = inr (h.0, q h.1, h.2, b _ h.3)
read_fault (read.FileDoesNotExist path) f q b a h = (q h.0, h.1, a _ h.2)
read_fault (read.IncompatibleIndex why) f q b a h = (q h.0, b _ h.1)
read_fault other f q b a h = absurd h

-- a run that failed for this cause
pub fails : {A O W C : Type 0} {g : Ghosts O W C} {old new : StoreState O} {script script_now : SourceView} {error : TantivyError} → FailsRun g old new script script_now error → RunFaults {A = A} g old new script script_now (Err error)
fails cause = record { quiet = tt; cause = cause }

module _ (c : Causes) where
  -- an event's
  pub event_cause : (facts : ReadFacts) (given tells : Type 0) (schema : List ℕ) (stands : Option (List ℕ)) (error : TantivyError)
      → LoadingCause facts (λ e. given × MetaCause tells (Some schema) stands facts.refused facts.quiet e) error → (facts.busy → c.busy) → (facts.refused → c.refused) → (facts.quiet → c.quiet) → (facts.spent → ⊥)
      → (OfRead tells stands (MeansNothing (Some schema)) ⊎ OfRead tells stands (MeansOther schema) → c.unread) → RunCause c error
  event_cause facts given tells schema stands (errors.IoError fault) h y f q never u = (h.0, f h.1)
  event_cause facts given tells schema stands (errors.OpenWriteError error) h y f q never u = write_fault error f h
  event_cause facts given tells schema stands (errors.OpenReadError error) h y f q never u = read_fault {bad = facts.bad} {worse = λ e. Unit {0}} {absent = facts.absent} {gone = λ path. Unit {0}} error f q (λ e b. tt) (λ path a. tt) h
  event_cause facts given tells schema stands (errors.LockFailure lock.LockBusy text) h y f q never u = (y h.0, h.1)
  event_cause facts given tells schema stands (errors.LockFailure (lock.IoError fault) text) h y f q never u = ((h.0.0, f h.0.1), h.1)
  event_cause facts given tells schema stands (errors.LockFailure lock.Memory text) h y f q never u = absurd h.0
  event_cause facts given tells schema stands (errors.DataCorruption why) h y f q never u = (q h.1.0, h.1.1, u (inl h.1.2))
  event_cause facts given tells schema stands (errors.SchemaError text) h y f q never u = (q h.1.0, h.1.1, u (inr h.1.2))
  event_cause facts given tells schema stands errors.Exhausted h y f q never u = absurd (never h.1)
  event_cause facts given tells schema stands errors.Memory h y f q never u = q h
  event_cause facts given tells schema stands other h y f q never u = absurd h

  -- a refusal's
  refusal_cause : (text : List ℕ) (error : TantivyError) → IsRefusal text error → c.quiet → c.refusal text → RunCause c error
  refusal_cause text (errors.InvalidArgument t) h q r = (q, subst c.refusal (sym h) r)
  refusal_cause text errors.Memory h q r = q
  refusal_cause text other h q r = absurd h

  -- a script's
  pub script_cause : {refused quiet : Type 0} (left : Option (List ℕ)) (error : ScriptError) (number : ℕ) (answer : TantivyError) → IsErrorOf error number answer → ScriptCause left refused quiet error → (refused → c.refused) → (quiet → c.quiet)
      → (IsRefused IsNoEvent left → c.refusal (line_refusal number)) → (IsRefused IsTooLong left → c.refusal (long_refusal number)) → RunCause c answer
  script_cause left (failed.Line line.Memory) number answer is h f q r l = subst (RunCause c) (sym is) (q h)
  script_cause left (failed.Line (line.Fault fault)) number answer is h f q r l = subst (RunCause c) (sym is) (h.0, f h.1)
  script_cause left (failed.Line line.TooLong) number answer is h f q r l = refusal_cause (long_refusal number) answer is (q h.0) (l h.1)
  script_cause left failed.NotAnEvent number answer is h f q r l = refusal_cause (line_refusal number) answer is (q h.0) (r h.1)

  -- the end's
  pub end_cause : {some refused quiet : Type 0} (error : TantivyError) → EndCause some refused quiet error → (refused → c.refused) → (quiet → c.quiet) → (some → c.too_many) → RunCause c error
  end_cause (errors.IoError fault) h f q k = (h.0, f h.1)
  end_cause errors.Exhausted h f q k = (q h.0, k h.1)
  end_cause errors.Memory h f q k = q h
  end_cause other h f q k = absurd h

-- a run's, as a replay's
pub run_cause : {O W C : Type 0} (g : Ghosts O W C) (old new : StoreState O) (script script_now : SourceView) (facts : CallFacts) (schema : List ℕ) (reads : Reads) (error : TantivyError) → FailsRun g old new script script_now error
    → IsSomeSchema schema → (facts.tells → FoundIndex schema reads) → ((run_causes g old new script script_now).busy → facts.busy) → ((run_causes g old new script script_now).refused → facts.refused) → ((run_causes g old new script script_now).quiet → facts.quiet)
    → (facts.refused → facts.refused_behind) → (facts.quiet → facts.quiet_behind)
    → (facts.tells → OpenedIndex schema reads → (run_causes g old new script script_now).unread → ⊥)
    → ReplayCause facts schema reads script.left error
run_cause g old new script script_now facts schema reads (errors.InvalidArgument t) h is none y f q fb qb u = (q h.0, inr (is, none, h.1))
run_cause g old new script script_now facts schema reads (errors.DataCorruption why) h is none y f q fb qb u = (is.0, is.1, inr (h.1, (q h.0, none, λ t index. u t index h.2)))
run_cause g old new script script_now facts schema reads (errors.SchemaError text) h is none y f q fb qb u = (is.0, is.1, inr (h.1, (q h.0, none, λ t index. u t index h.2)))
run_cause g old new script script_now facts schema reads (errors.IoError fault) h is none y f q fb qb u = (is, h.0, fb (f h.1))
run_cause g old new script script_now facts schema reads (errors.OpenWriteError error) h is none y f q fb qb u = (is, none, write_fault error f h)
run_cause g old new script script_now facts schema reads (errors.OpenReadError error) h is none y f q fb qb u = (is, none, read_fault {bad = λ e. Unit {0}} {absent = λ path. Unit {0}} error f q (λ e b. b) (λ path a. a) h)
run_cause g old new script script_now facts schema reads (errors.LockFailure lock.LockBusy t) h is none y f q fb qb u = (is, none, y h.0, h.1)
run_cause g old new script script_now facts schema reads (errors.LockFailure (lock.IoError fault) t) h is none y f q fb qb u = (is, h.0.0, f h.0.1, h.1)
run_cause g old new script script_now facts schema reads (errors.LockFailure lock.Memory t) h is none y f q fb qb u = absurd h.0
run_cause g old new script script_now facts schema reads errors.Exhausted h is none y f q fb qb u = (q h.0, is, none, h.1)
run_cause g old new script script_now facts schema reads errors.Memory h is none y f q fb qb u = qb (q h)
run_cause g old new script script_now facts schema reads other h is none y f q fb qb u = absurd h

-- a count that rose from a later place rose from an earlier one, where it was the same
pub rose_from : (old now new : ℕ) → now ≡ old → Rose now new → Rose old new
rose_from old now new is rose = subst (λ (n : ℕ). Rose n new) is rose

pub either_rose : (old now new : ℕ) (more : Type 0) → now ≡ old → Rose now new ⊎ more → Rose old new ⊎ more
either_rose old now new more is (inl rose) = inl (rose_from old now new is rose)
either_rose old now new more is (inr other) = inr other

-- ---- the state and the directory

file_reads : (file : Option FileState) (read written : Option (List ℕ)) → FileHolds file read written → FileReads file read
file_reads (Some Left) read written h = h.0
file_reads other read written h = h.0

directory_holds : (form : IndexForm) (reads : Reads) (kept : KeptState) (s : State) → kept.form ≡ form → Holds reads kept s → DirectoryHolds form.settings form.schema reads s
directory_holds form reads kept s is h = record {
  names = h.names;
  files = λ n file. file_reads (file_at s n) (reads n) _ (h.files n file);
  meta = (h.meta.0, h.meta.1, subst (λ (f : IndexForm). Means f.settings f.schema h.meta.0 s.catalog.commit) is h.meta.2);
  listing = h.listing;
}

-- ---- the whole replay

-- what can be read is sealed, and where an index was just opened no collection takes any of it
pub reads_whole : {schema : List ℕ} {reads : Reads} (index : OpenedIndex schema reads) → CanRead index.state → IsWhole index.state
reads_whole {reads = reads} index h = record {
  each =
      all_weaker (λ commit. AreGoodFiles index.state (all_required commit.segments)) (HasSealedFiles index.state) (kept_commits index.state.catalog)
      (λ commit good n required. ap is_sealed (good.each n required).1) h;
  unheld = all_of (IsUnheld index.state) (kept_commits index.state.catalog) (λ commit n required. ap (λ (c : Collections). has (held c) n) index.opens.collections);
  collecting = nothing_held index.state index.opens.collections (opens_managed_sorted index.form.settings index.form.schema reads index.state index.opens);
}

pub replays : {O W C : Type 0} (g : Ghosts O W C) (before : O) (schema : List ℕ) (mid new : StoreState O) (now : O) (text left : Option (List ℕ)) (tally : Tally)
    → Opens g before schema mid
    → (g.told.heard → TellsLine (g.view before).heard (g.view mid.outside).heard (g.view before).moment (g.view mid.outside).moment (opening_of mid.kept.catalog.commit))
    → (g.view mid.outside).refusals ≡ (g.view before).refusals
    → (g.told.content → (s : State) → Holds (g.view new.outside).reads new.kept s → Holds (g.view now).reads new.kept s)
    → (g.view now).heard ≡ (g.view new.outside).heard → (g.view new.outside).moment ≤ (g.view now).moment → (g.view now).refusals ≡ (g.view new.outside).refusals
    → (g.told.locks → (g.view before).locks meta_lock_name ≡ true → (g.view mid.outside).locks meta_lock_name ≡ true)
    → NotesMade g.told (g.view before) (g.view now)
    → ((turns : List Turn) → Applies g mid new turns → ReplayLeaves g before now schema turns)
    → Runs g mid new text left tally → Replays g before now schema text tally
replays g before schema mid new now text left tally opened said refusals holds heard later refusals_now locked notes survives r =
    let old_reads = (g.view before).reads in
    let whole : g.told.content → (index : OpenedIndex schema old_reads) → IsWhole index.state = λ t index. reads_whole index (opened.holds t index).2 in
    let stands : g.told.content → (index : OpenedIndex schema old_reads) → DirectoryHolds index.form.settings index.form.schema (g.view now).reads (after index.state r.turns) =
    λ t index.
    let h = opened.holds t index in
    directory_holds index.form (g.view now).reads new.kept (after index.state r.turns) (r.applied.form ∙ h.0) (holds t (after index.state r.turns) (r.applied.holds t index.state h.1 (whole t index))) in
    record {
      turns = r.turns;
      counted = r.counted;
      spelled = (mid.kept.form.schema, opened.spelled);
      lines = λ whole told. (r.lines whole told).0;
      found = opened.found;
      told = λ t th index.
          let h = (opened.holds t index).1 in
          let first : TellsLine (g.view before).heard (g.view mid.outside).heard (g.view before).moment (g.view mid.outside).moment (opening_of index.state.catalog.commit) =
          subst (λ c. TellsLine (g.view before).heard (g.view mid.outside).heard (g.view before).moment (g.view mid.outside).moment (opening_of c)) (ap (λ (catalog : Catalog). catalog.commit) h.catalog) (said th) in
          subst (λ (x : Heard). TellsLines (g.view before).heard x (g.view before).moment (g.view now).moment (report index.state r.turns)) (sym heard)
          (tells_by (g.view now).moment later
          (tells_first (g.view before).heard (g.view mid.outside).heard (g.view new.outside).heard (g.view before).moment (g.view mid.outside).moment (g.view new.outside).moment (opening_of index.state.catalog.commit) (answers index.state r.turns) first (r.applied.told t th index.state h (whole t index))));
      holds = stands;
      readable = λ t index. r.applied.readable t index.state (opened.holds t index).1 (whole t index);
      unlocked = λ t locks held index. r.applied.unlocked t locks (locked locks held) index.state (opened.holds t index).1 (whole t index);
      serves = λ t index. serves index.state r.turns index.opens.reading index.opens.next;
      collects = λ t index. collects_in index.state r.turns (opens_managed_sorted index.form.settings index.form.schema old_reads index.state index.opens);
      validates = λ t index front rest outcomes is. validates (after index.state front);
      refused =
          subst (λ (n : ℕ). RoseBy (all_refused r.turns) n (g.view now).refusals) refusals
          (subst (λ (n : ℕ). RoseBy (all_refused r.turns) (g.view mid.outside).refusals n) (sym refusals_now) r.applied.refused);
      opens = λ t text spelled sound. sound_index schema text old_reads spelled sound;
      as_sealed = λ t text spelled sound index.
          let as_text : IsSoundImage index.form.schema old_reads = subst (λ (x : List ℕ). IsSoundImage x old_reads) (spelled.text_is ∙ sym index.spelled.text_is) sound in
          serves_as_sealed index.state r.turns (opens_sound index.form.settings index.form.schema old_reads index.state as_text index.opens) r.applied.fits;
      in_steps = λ t text spelled sound index.
          let as_text : IsSoundImage index.form.schema old_reads = subst (λ (x : List ℕ). IsSoundImage x old_reads) (spelled.text_is ∙ sym index.spelled.text_is) sound in
          collects_in_steps_in index.state r.turns (opens_sound index.form.settings index.form.schema old_reads index.state as_text index.opens) r.applied.fits;
      sound = λ t text spelled sound.
          let index = sound_index schema text old_reads spelled sound in
          let same : text ≡ index.form.schema = spelled.text_is ∙ sym index.spelled.text_is in
          let as_text : IsSoundImage index.form.schema old_reads = subst (λ (x : List ℕ). IsSoundImage x old_reads) same sound in
          let start = opens_sound index.form.settings index.form.schema old_reads index.state as_text index.opens in
          subst (λ (x : List ℕ). IsSoundImage x (g.view now).reads) (sym same)
          (holds_sound index.form.settings index.form.schema (g.view now).reads (after index.state r.turns) (stands t index) (sound_after index.state r.turns r.applied.fits start));
      notes = notes;
      survives = survives r.turns r.applied;
    }

-- what follows from two things that are true of what is answered
pub if_ok_both : {A : Type 0} (result : Result A TantivyError) {P Q S : A → Type 0} → ((a : A) → P a → Q a → S a) → IfOk result P → IfOk result Q → IfOk result S
if_ok_both (Ok a) f p q = f a p q
if_ok_both (Err e) f p q = tt

-- and of an error
pub if_err_both : {A : Type 0} (result : Result A TantivyError) {P Q S : TantivyError → Type 0} → ((error : TantivyError) → P error → Q error → S error) → IfErr result P → IfErr result Q → IfErr result S
if_err_both (Ok a) f p q = tt
if_err_both (Err e) f p q = f e p q
