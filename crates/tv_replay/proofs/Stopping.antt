-- Where a run stopped, and why; and the locks that it meets.
use Rattle.std.proofs.Common.{◌≡◌, ◌≢◌, ◌⊎◌, ℕ, ◌+◌, ◌≤◌, List, [], ◌∷◌, ◌++◌, length, Option, Some, refl, sym, ap, subst, ◌∙◌, arith, inl, inr, true, false, true≢false}
use Rattle.std.proofs.lemmas.List.{append-nil}
use Rattle.std.proofs.Math.Logic.{⊎_map}
use Rattle.tv_base.specs.declared.error.TantivyError.{TantivyError}
use Rattle.tv_base.specs.declared.error.TantivyError.TheVariants as errors
use Rattle.tv_base.specs.declared.open_errors.LockError.TheVariants as lock
use Rattle.tv_base.specs.declared.open_errors.OpenReadError.{OpenReadError}
use Rattle.tv_formats.specs.Names.{meta_name}
use Rattle.tv_formats.specs.Files.{Reads, Heard, Rose, RoseBy}
use Rattle.tv_formats.specs.Commits.{IndexForm}
use Rattle.tv_formats.specs.Meaning.{Means, MeansNothing, MeansOther}
use Rattle.tv_machine.specs.State.{State}
use Rattle.tv_machine.specs.Lines.{opening_of}
use Rattle.tv_events.specs.declared.event.Event.{Event}
use Rattle.tv_machine.specs.Machine.{Turn, step, answers, report, after, events_of, all_refused}
use Rattle.tv_machine.specs.Readable.{AllReadGood}
use Rattle.tv_machine.specs.SoundStates.{IsWhole}
use Rattle.tv_machine.proofs.WholeStates.{after_whole}
use Rattle.tv_device.specs.Locks.{Locks, TakesLock}
use Rattle.tv_device.specs.View.{View, Told, GoesOn}
use Rattle.tv_device.specs.ViewLaws.{goes_on_itself}
use Rattle.tv_device.specs.declared.directory.Directory.{Ghosts}
use Rattle.tv_managed.specs.Collecting.{meta_lock_name}
use Rattle.tv_store.specs.Kept.{StoreState, Holds}
use Rattle.tv_store.specs.Telling.{TellsLine, TellsNoLine}
use Rattle.tv_store.specs.Applying.{LeavesCommit, LeavesOldOrNew, MeetsBadAt}
use Rattle.tv_index.specs.Standing.{MetaCause, OfRead}
use Rattle.tv_catalog.specs.Effects.{TakesMetaLock}
use Rattle.tv_store.specs.ReadCauses.{IsReadError, LoadingCause, ReadFacts}
use Rattle.tv_index.specs.Opening.{OpenCause}
use Rattle.tv_store.specs.OpeningCauses.{CallFacts, IndexMissing, IndexRefused, OpeningCause}
use Rattle.tv_store.specs.StoreCauses.{IsBusy, IsRefusal, RefusedBehind, writer_lock_name}
use Rattle.tv_script.specs.declared.script_events.ScriptError.{ScriptError}
use Rattle.tv_script.specs.declared.script_events.ScriptError.TheVariants as failed
use Rattle.tv_script.specs.declared.lines.LineError.TheVariants as line
use Rattle.tv_script.specs.ScriptCauses.{IsRefused, ScriptCause}
use Rattle.tv_base.specs.Streams.{SourceView}
use Rattle.tv_script.specs.ScriptLines.{TakesNextEvent, IsNoEvent, IsTooLong, IsAhead, ReadsAhead, pending}
use Rattle.tv_script.proofs.LineLemmas.{pending_some}
use Rattle.tv_replay.specs.AppliedEvents.{StopsRun, EndCause, IsErrorOf}
use Rattle.tv_replay.specs.Replays.{BeginsWith, RunFrom, StopsFor, HearsTurns, StopsAt, TakesNoLock, IsNext, IsRefusedNext, IsLockBusy, ReplayCause, WasLockedOut, told_facts, line_refusal, long_refusal}
use Rattle.tv_replay.proofs.KeptLocks.{names_differ}
use Rattle.tv_replay.proofs.Progress.{after-last, events-last, HasRead, begins_next}
use Rattle.tv_replay.proofs.AppliedEvents.{Progress, read_fault, tells_first}

-- ---- what a run that stopped leaves

module _ {W : Type 0} (told : Told) (run : RunFrom) (first new : View W) (script_now : SourceView) (error : TantivyError) where
  -- the lines of these turns were told until then, their commit stands, and the error has its cause there
  record Stands (turns : List Turn) (stood : Option (List ℕ)) : Type 0 where
    pub lines : (whole : List ℕ) → run.script.left ≡ Some whole → BeginsWith whole (events_of turns)
    pub read : (Rose run.script.faults script_now.faults → ⊥) → (whole : List ℕ) → run.script.left ≡ Some whole → (begun : BeginsWith whole (events_of turns)) × IsAhead begun.rest script_now.left
    pub heard : told.heard → HearsTurns run first new turns
    pub deletes : RoseBy (all_refused turns) first.refusals new.refusals
    pub readable : AllReadGood run.start turns
    pub unlocked : told.locks → first.locks meta_lock_name ≡ true → TakesNoLock run.start turns
    pub text : List ℕ
    pub is : stood ≡ Some text
    pub means : Means run.form.settings run.form.schema text (after run.start turns).catalog.commit
    pub cause : StopsFor run.script.left run.start turns (told.locks → first.locks meta_lock_name ≡ true) (told.locks → first.locks meta_lock_name ≡ false) error

  -- no event was in progress, or its commit doesn't stand
  stays : (turns : List Turn) (stood : Option (List ℕ)) → Stands turns stood → new.reads meta_name ≡ stood → StopsAt told run first new script_now error
  stays turns stood s same = record {
    turns = turns;
    ahead = [];
    one = omega arith;
    refused = λ some. absurd (omega (arith, some));
    memory = λ e. refl;
    lines = λ whole given. subst (λ (ts : List Turn). BeginsWith whole (events_of ts)) (sym (append-nil turns)) (s.lines whole given);
    read = s.read;
    heard = s.heard;
    deletes = s.deletes;
    readable = s.readable;
    unlocked = s.unlocked;
    text = s.text;
    reads = same ∙ s.is;
    means = subst (λ (ts : List Turn). Means run.form.settings run.form.schema s.text (after run.start ts).catalog.commit) (sym (append-nil turns)) s.means;
    cause = s.cause;
  }

  -- an event was in progress, and this was left of it
  left_ahead : (given : Type 0) (turns : List Turn) (stood : Option (List ℕ)) (event : Event) (outcomes : List _) → Stands turns stood
      → ((whole : List ℕ) → run.script.left ≡ Some whole → BeginsWith whole (events_of turns ++ event ∷ []))
      → (given → Rose first.faults new.faults)
      → (error ≡ errors.Memory → new.reads meta_name ≡ stood) → (error ≡ errors.Memory) ⊎ (error ≢ errors.Memory)
      → LeavesCommit given stood (new.reads meta_name) run.form (step (after run.start turns) event outcomes).1.catalog.commit → StopsAt told run first new script_now error
  left_ahead given turns stood event outcomes s next rose memory (inl wanted) leaves = stays turns stood s (memory wanted)
  left_ahead given turns stood event outcomes s next rose memory (inr other) (inl same) = stays turns stood s same
  left_ahead given turns stood event outcomes s next rose memory (inr other) (inr (refused, (text, is, means))) =
      let turn : Turn = (event, outcomes) in
      record {
        turns = turns;
        ahead = turn ∷ [];
        one = omega arith;
        refused = λ some. rose refused;
        memory = λ wanted. absurd (other wanted);
        lines = λ whole given. subst (λ (es : List Event). BeginsWith whole es) (sym (events-last turns turn)) (next whole given);
        read = s.read;
        heard = s.heard;
        deletes = s.deletes;
        readable = s.readable;
        unlocked = s.unlocked;
        text = text;
        reads = is;
        means = subst (λ (after_all : State). Means run.form.settings run.form.schema text after_all.catalog.commit) (sym (after-last run.start turns turn)) means;
        cause = s.cause;
      }

-- a count that rose by so much did so too where it went on since
rose_since : (n before now new : ℕ) → RoseBy n before now → now ≤ new → RoseBy n before new
rose_since n before now new (inl a) le = inl (omega arith)
rose_since n before now new (inr a) le = inr (omega arith)

-- memory was wanted, or something else was amiss
memory_or : (error : TantivyError) → (error ≡ errors.Memory) ⊎ (error ≢ errors.Memory)
memory_or errors.Memory = inl refl
memory_or other = inr (λ e. absurd cc)

module _ {O W C : Type 0} (g : Ghosts O W C) (old now new : StoreState O) (script script_now : SourceView) (left : Option (List ℕ)) (count : ℕ) (error : TantivyError) (p : Progress g old now script.left left count) where
  abbrev since : State → RunFrom
  since s = record { form = old.kept.form; script = script; start = s; lines_of_turns = answers s }

  -- beyond what was taken no more was read than may be, unless a read was refused
  abbrev pub Ahead : Type 0
  Ahead = (Rose script.faults script_now.faults → ⊥) → ReadsAhead left script_now.left

  abbrev pub Held : Type 0
  Held = g.told.locks → (g.view old.outside).locks meta_lock_name ≡ true

  abbrev pub Free : Type 0
  Free = g.told.locks → (g.view old.outside).locks meta_lock_name ≡ false

  stands : g.told.content → (s : State) → Holds (g.view old.outside).reads old.kept s → IsWhole s → Ahead → GoesOn g.told (g.view now.outside) (g.view new.outside)
      → (g.told.heard → TellsNoLine (g.view now.outside).heard (g.view new.outside).heard) → StopsFor script.left s p.turns Held Free error
      → Stands g.told (since s) (g.view old.outside) (g.view new.outside) script_now error p.turns ((g.view now.outside).reads meta_name)
  stands t s h w ahead goes_on silent cause =
      let held = p.applied.holds t s h w in
      record {
        lines = λ whole given. (p.read whole given).begun;
        read = λ quiet whole given. let r = p.read whole given in (r.begun, ahead quiet r.begun.rest r.left_is);
        heard = λ th. record { so_far = (g.view now.outside).heard; moment = (g.view now.outside).moment; lines = p.applied.told t th s h w; sooner = goes_on.clock; silent = silent th };
        deletes = rose_since (all_refused p.turns) (g.view old.outside).refusals (g.view now.outside).refusals (g.view new.outside).refusals p.applied.refused goes_on.refusals;
        readable = p.applied.readable t s h w;
        unlocked = λ locks busy. p.applied.unlocked t locks busy s h w;
        text = held.meta.0;
        is = held.meta.1;
        means = subst (λ (form : IndexForm). Means form.settings form.schema held.meta.0 (after s p.turns).catalog.commit) p.applied.form held.meta.2;
        cause = cause;
      }

  -- the run stopped in an event
  pub stops_in : (later : Option (List ℕ)) (event : Event) → TakesNextEvent left (Some event) later → Ahead
      → (g.view now.outside).faults ≡ (g.view old.outside).faults → GoesOn g.told (g.view now.outside) (g.view new.outside)
      → (g.told.heard → TellsNoLine (g.view now.outside).heard (g.view new.outside).heard)
      → (g.told.content → (s : State) → Holds (g.view now.outside).reads now.kept s → IsWhole s → LeavesOldOrNew (Rose (g.view now.outside).faults (g.view new.outside).faults) ((g.view now.outside).reads meta_name) ((g.view new.outside).reads meta_name) now.kept.form s event)
      → (g.told.content → error ≡ errors.Memory → (g.view new.outside).reads meta_name ≡ (g.view now.outside).reads meta_name)
      → (g.told.content → (s : State) → Holds (g.view now.outside).reads now.kept (after s p.turns) → IsWhole (after s p.turns) → StopsFor script.left s p.turns Held Free error)
      → StopsRun g old new script script_now error
  stops_in later event takes ahead quiet goes_on silent leaves memory cause t s h w =
      let there = p.applied.holds t s h w in
      let whole = after_whole s p.turns w in
      let l = leaves t (after s p.turns) there whole in
      left_ahead g.told (since s) (g.view old.outside) (g.view new.outside) script_now error (Rose (g.view now.outside).faults (g.view new.outside).faults) p.turns ((g.view now.outside).reads meta_name) event l.0
      (stands t s h w ahead goes_on silent (cause t s there whole))
      (begins_next script.left left later p.turns event p.read takes) (λ rose. subst (λ (n : ℕ). Rose n (g.view new.outside).faults) quiet rose) (memory t) (memory_or error)
      (subst (λ (form : IndexForm). LeavesCommit (Rose (g.view now.outside).faults (g.view new.outside).faults) ((g.view now.outside).reads meta_name) ((g.view new.outside).reads meta_name) form (step (after s p.turns) event l.0).1.catalog.commit) p.applied.form l.1)

-- the run stopped between two events
pub stops_between : {O W C : Type 0} (g : Ghosts O W C) (old now : StoreState O) (script script_now : SourceView) (left : Option (List ℕ)) (count : ℕ) (error : TantivyError)
    → (p : Progress g old now script.left left count) → ((Rose script.faults script_now.faults → ⊥) → ReadsAhead left script_now.left)
    → ((s : State) → StopsFor script.left s p.turns (g.told.locks → (g.view old.outside).locks meta_lock_name ≡ true) (g.told.locks → (g.view old.outside).locks meta_lock_name ≡ false) error) → StopsRun g old now script script_now error
stops_between g old now script script_now left count error p ahead cause t s h w =
    stays g.told (since g old now now script script_now left count error p s) (g.view old.outside) (g.view now.outside) script_now error p.turns ((g.view now.outside).reads meta_name)
    (stands g old now now script script_now left count error p t s h w ahead (goes_on_itself g.told (g.view now.outside)) (λ th. inl refl) (cause s)) refl

-- nothing was read beyond
pub nothing_ahead : (left : Option (List ℕ)) → ReadsAhead (pending [] left) left
nothing_ahead left script told =
    let p = pending_some [] script left told in
    record { over = []; rest = p.0; left_is = p.1; script_is = p.2; most = omega arith }

-- ---- why it stopped there

module _ (script : Option (List ℕ)) (s : State) (turns : List Turn) (held free : Type 0) where
  -- in an event
  pub event_stops : (facts : ReadFacts) (given tells : Type 0) (schema : List ℕ) (stood : Option (List ℕ)) (event : Event) (error : TantivyError) → IsNext script turns event
      → LoadingCause facts (λ e. given × MetaCause tells (Some schema) stood facts.refused facts.quiet e) error → (facts.busy → TakesMetaLock (after s turns).catalog event × held) → (facts.spent → ⊥) → (OfRead tells stood (MeansNothing (Some schema)) ⊎ OfRead tells stood (MeansOther schema) → ⊥)
      → ((error : OpenReadError) → facts.bad error → MeetsBadAt (after s turns) event error) → ((path : List ℕ) → facts.absent path → ⊥) → (IsReadError error → (bad : OpenReadError) → facts.bad bad → free) → StopsFor script s turns held free error
  event_stops facts given tells schema stood event (errors.OpenReadError error) next h y never u b a f = read_fault {worse = λ e. (x : Event) × IsNext script turns x × free × MeetsBadAt (after s turns) x e} {gone = λ path. ⊥} error (λ r. tt) (λ q. tt) (λ e bad. (event, next, f tt e bad, b e bad)) a h
  event_stops facts given tells schema stood event (errors.LockFailure lock.LockBusy text) next h y never u b a f = (event, next, (y h.0).0, (y h.0).1)
  event_stops facts given tells schema stood event (errors.LockFailure (lock.IoError fault) text) next h y never u b a f = tt
  event_stops facts given tells schema stood event (errors.LockFailure lock.Memory text) next h y never u b a f = absurd h.0
  event_stops facts given tells schema stood event (errors.InvalidArgument text) next h y never u b a f = absurd h
  event_stops facts given tells schema stood event (errors.DataCorruption why) next h y never u b a f = u (inl h.1.2)
  event_stops facts given tells schema stood event (errors.SchemaError text) next h y never u b a f = u (inr h.1.2)
  event_stops facts given tells schema stood event errors.Exhausted next h y never u b a f = absurd (never h.1)
  event_stops facts given tells schema stood event other next h y never u b a f = tt

  refusal_stops : (text : List ℕ) (error : TantivyError) → IsRefusal text error
      → ((text ≡ line_refusal (length turns + 1)) × IsRefusedNext script turns IsNoEvent) ⊎ ((text ≡ long_refusal (length turns + 1)) × IsRefusedNext script turns IsTooLong)
      → StopsFor script s turns held free error
  refusal_stops text (errors.InvalidArgument t) h (inl r) = inl (h ∙ r.0, r.1)
  refusal_stops text (errors.InvalidArgument t) h (inr r) = inr (h ∙ r.0, r.1)
  refusal_stops text errors.Memory h r = tt
  refusal_stops text other h r = absurd h

  -- at a line that is refused
  pub script_stops : (refused quiet : Type 0) (left : Option (List ℕ)) (error : ScriptError) (number : ℕ) (answer : TantivyError) → number ≡ length turns + 1 → IsErrorOf error number answer → ScriptCause left refused quiet error
      → (IsRefused IsNoEvent left → IsRefusedNext script turns IsNoEvent) → (IsRefused IsTooLong left → IsRefusedNext script turns IsTooLong) → StopsFor script s turns held free answer
  script_stops refused quiet left (failed.Line line.Memory) number answer at is h n l = subst (StopsFor script s turns held free) (sym is) tt
  script_stops refused quiet left (failed.Line (line.Fault fault)) number answer at is h n l = subst (StopsFor script s turns held free) (sym is) tt
  script_stops refused quiet left (failed.Line line.TooLong) number answer at is h n l = refusal_stops (long_refusal number) answer is (inr (ap long_refusal at, l h.1))
  script_stops refused quiet left failed.NotAnEvent number answer at is h n l = refusal_stops (line_refusal number) answer is (inl (ap line_refusal at, n h.1))

  -- at a line too many
  pub end_stops : (refused quiet : Type 0) {some : Type 0} (error : TantivyError) → length turns ≡ 4294967295 → EndCause some refused quiet error → (some → IsRefusedNext script turns (λ rest. rest ≢ [])) → StopsFor script s turns held free error
  end_stops refused quiet errors.Exhausted all h k = (all, k h.1)
  end_stops refused quiet (errors.IoError fault) all h k = tt
  end_stops refused quiet errors.Memory all h k = tt
  end_stops refused quiet other all h k = absurd h

-- what is left is refused, seen from the whole script
pub refused_next : (script left : Option (List ℕ)) (turns : List Turn) (why : List ℕ → Type 0) → HasRead script left turns → IsRefused why left → IsRefusedNext script turns why
refused_next script left turns why read wrong whole told = let r = read whole told in (r.begun, wrong r.begun.rest r.left_is)

-- ---- seen from before the opening

held_before : (script : Option (List ℕ)) (s : State) (turns : List Turn) (held free held_then free_then : Type 0) (error : TantivyError) → (held → held_then) → (free → free_then) → StopsFor script s turns held free error → StopsFor script s turns held_then free_then error
held_before script s turns held free held_then free_then (errors.LockFailure lock.LockBusy text) f k h = (h.0, h.1, h.2, f h.3)
held_before script s turns held free held_then free_then (errors.LockFailure (lock.IoError fault) text) f k h = tt
held_before script s turns held free held_then free_then (errors.LockFailure lock.Memory text) f k h = tt
held_before script s turns held free held_then free_then (errors.InvalidArgument text) f k h = h
held_before script s turns held free held_then free_then (errors.OpenReadError error) f k h =
    read_fault {bad = λ e. (x : Event) × IsNext script turns x × free × MeetsBadAt (after s turns) x e} {worse = λ e. (x : Event) × IsNext script turns x × free_then × MeetsBadAt (after s turns) x e} {absent = λ path. ⊥} {gone = λ path. ⊥}
    error (λ r. r) (λ q. q) (λ e met. (met.0, met.1, k met.2, met.3)) (λ path never. never) h
held_before script s turns held free held_then free_then (errors.DataCorruption why) f k h = h
held_before script s turns held free held_then free_then (errors.SchemaError text) f k h = h
held_before script s turns held free held_then free_then errors.Exhausted f k h = h
held_before script s turns held free held_then free_then other f k h = tt

pub meta_since : (start opened : Locks) → TakesLock start opened writer_lock_name → opened meta_lock_name ≡ start meta_lock_name
meta_since start opened took = took.others meta_lock_name names_differ

-- a run that stopped, seen from before the opening line
pub stops_report : {W : Type 0} (told : Told) (given form : IndexForm) (script script_now : SourceView) (s : State) (first opened new now : View W) (error : TantivyError)
    → given ≡ form → (told.heard → TellsLine first.heard opened.heard first.moment opened.moment (opening_of s.catalog.commit)) → (told.locks → TakesLock first.locks opened.locks writer_lock_name)
    → opened.faults ≡ first.faults → opened.refusals ≡ first.refusals → now.refusals ≡ new.refusals → now.faults ≡ new.faults → now.heard ≡ new.heard → new.moment ≤ now.moment → now.reads meta_name ≡ new.reads meta_name
    → StopsAt told (record { form = given; script = script; start = s; lines_of_turns = answers s }) opened new script_now error → StopsAt told (record { form = form; script = script; start = s; lines_of_turns = report s }) first now script_now error
stops_report told given form script script_now s first opened new now error form_is line took quiet none_before none_since same heard_is clock meta_is l = record {
  turns = l.turns;
  ahead = l.ahead;
  one = l.one;
  refused = λ some. subst (λ (n : ℕ). Rose n now.faults) quiet (subst (λ (n : ℕ). Rose opened.faults n) (sym same) (l.refused some));
  memory = l.memory;
  lines = l.lines;
  read = l.read;
  heard = λ th.
      let heard = l.heard th in
      record {
        so_far = heard.so_far;
        moment = heard.moment;
        lines = tells_first first.heard opened.heard heard.so_far first.moment opened.moment heard.moment (opening_of s.catalog.commit) (answers s l.turns) (line th) heard.lines;
        sooner = omega (arith, heard.sooner, clock);
        silent = subst (λ (h : Heard). TellsNoLine heard.so_far h) (sym heard_is) heard.silent;
      };
  deletes = subst (λ (n : ℕ). RoseBy (all_refused l.turns) n now.refusals) none_before (subst (λ (n : ℕ). RoseBy (all_refused l.turns) opened.refusals n) (sym none_since) l.deletes);
  readable = l.readable;
  unlocked = λ locks held. l.unlocked locks (meta_since first.locks opened.locks (took locks) ∙ held);
  text = l.text;
  reads = meta_is ∙ l.reads;
  means = subst (λ (f : IndexForm). Means f.settings f.schema l.text (after s (l.turns ++ l.ahead)).catalog.commit) form_is l.means;
  cause =
      held_before script.left s l.turns (told.locks → opened.locks meta_lock_name ≡ true) (told.locks → opened.locks meta_lock_name ≡ false)
      (told.locks → first.locks meta_lock_name ≡ true) (told.locks → first.locks meta_lock_name ≡ false) error
      (λ held locks. sym (meta_since first.locks opened.locks (took locks)) ∙ held locks) (λ free locks. sym (meta_since first.locks opened.locks (took locks)) ∙ free locks) l.cause;
}

-- why an opening is refused, where the directory tells its content
pub opening_told : (facts : CallFacts) (held : Type 0) (schema : List ℕ) (reads : Reads) (error : TantivyError) → facts.tells → (facts.busy → held)
    → OpeningCause facts schema reads error → OpeningCause (told_facts held facts.free) schema reads error
opening_told facts held schema reads (errors.InvalidArgument text) t y h = (tt, h.1, h.2)
opening_told facts held schema reads (errors.LockFailure lock.LockBusy text) t y h = (h.0, (λ u. h.1 t), y h.2, h.3)
opening_told facts held schema reads (errors.LockFailure (lock.IoError fault) text) t y h = (h.0, h.1, tt, h.3)
opening_told facts held schema reads (errors.LockFailure lock.Memory text) t y h = absurd h
opening_told facts held schema reads (errors.OpenReadError error) t y h = (
  h.0,
  (λ u. h.1 t),
  h.2,
  read_fault {bad = λ e. facts.tells → IndexRefused schema reads e} {worse = λ e. Unit {0} → IndexRefused schema reads e} {absent = λ path. facts.tells → IndexMissing schema reads path} {gone = λ path. Unit {0} → IndexMissing schema reads path}
      error (λ r. tt) (λ q. tt) (λ e bad u. bad t) (λ path absent u. absent t) h.3,
)
opening_told facts held schema reads (errors.IoError fault) t y h = (h.0, h.1, (h.2.0, tt))
opening_told facts held schema reads (errors.DataCorruption why) t y h = (h.0, h.1, damaged h.2) where
  damaged : OpenCause facts.tells h.0 reads facts.refused_behind facts.quiet_behind (errors.DataCorruption why) → OpenCause (Unit {0}) h.0 reads (Unit {0}) (Unit {0}) (errors.DataCorruption why)
  damaged (inl d) = inl (tt, d.1, λ u. d.2 t)
  damaged (inr d) = inr ((λ u. d.0 t), (tt, d.1.1, λ u. d.1.2 t))
opening_told facts held schema reads (errors.SchemaError text) t y h = (h.0, h.1, ((λ u. h.2.0 t), (tt, h.2.1.1, λ u. h.2.1.2 t)))
opening_told facts held schema reads errors.Memory t y h = tt
opening_told facts held schema reads other t y h = absurd h.2

-- what is known of some calls, seen from further away
pub record SeenAs (facts all : CallFacts) : Type 0 where
  pub tells : all.tells → facts.tells
  pub busy : facts.busy → all.busy
  pub refused : facts.refused → all.refused
  pub quiet : facts.quiet → all.quiet
  pub refused_behind : facts.refused_behind → all.refused_behind
  pub quiet_behind : facts.quiet_behind → all.quiet_behind

-- and as a replay's
pub opening_cause : (facts all : CallFacts) (schema : List ℕ) (reads : Reads) (script : Option (List ℕ)) (error : TantivyError) → SeenAs facts all → OpeningCause facts schema reads error → ReplayCause all schema reads script error
opening_cause facts all schema reads script (errors.InvalidArgument text) s h = (s.quiet h.0, inl (h.1, h.2))
opening_cause facts all schema reads script (errors.LockFailure lock.LockBusy text) s h = (h.0, (λ t. h.1 (s.tells t)), s.busy h.2, h.3)
opening_cause facts all schema reads script (errors.LockFailure (lock.IoError fault) text) s h = (h.0, h.1, s.refused h.2, h.3)
opening_cause facts all schema reads script (errors.LockFailure lock.Memory text) s h = absurd h
opening_cause facts all schema reads script (errors.OpenReadError error) s h = (
  h.0,
  (λ t. h.1 (s.tells t)),
  read_fault {bad = λ e. facts.tells → IndexRefused schema reads e} {worse = λ e. Unit {0}} {absent = λ path. facts.tells → IndexMissing schema reads path} {gone = λ path. Unit {0}}
      error s.refused s.quiet (λ e bad. tt) (λ path absent. tt) h.3,
)
opening_cause facts all schema reads script (errors.IoError fault) s h = ((h.0, h.1), h.2.0, s.refused_behind h.2.1)
opening_cause facts all schema reads script (errors.DataCorruption why) s h = (h.0, h.1, inl (damaged h.2)) where
  damaged : OpenCause facts.tells h.0 reads facts.refused_behind facts.quiet_behind (errors.DataCorruption why) → OpenCause all.tells h.0 reads all.refused_behind all.quiet_behind (errors.DataCorruption why)
  damaged (inl d) = inl (s.quiet_behind d.0, d.1, λ t. d.2 (s.tells t))
  damaged (inr d) = inr ((λ t. d.0 (s.tells t)), (s.quiet_behind d.1.0, d.1.1, λ t. d.1.2 (s.tells t)))
opening_cause facts all schema reads script (errors.SchemaError text) s h = (h.0, h.1, inl ((λ t. h.2.0 (s.tells t)), (s.quiet_behind h.2.1.0, h.2.1.1, λ t. h.2.1.2 (s.tells t))))
opening_cause facts all schema reads script errors.Memory s h = s.quiet_behind h
opening_cause facts all schema reads script other s h = absurd h.2

-- ---- locks

-- a lock that isn't given, seen from an earlier place, since which the count of refused calls stood still
pub busy_since : (tells_locks held earlier : Type 0) (old now : ℕ) {new : ℕ} → (tells_locks → held → earlier) → now ≡ old → IsBusy tells_locks held (Rose now new) → IsBusy tells_locks earlier (Rose old new)
busy_since tells_locks held earlier old now {new} was quiet b = record {
  told = λ t. was t (b.told t);
  untold = ⊎_map (λ t. t) (λ rose. subst (λ (x : ℕ). Rose x new) quiet rose) b.untold;
}

-- the lock of those who read, seen from before the opening
pub busy_since_opening : (tells_locks : Type 0) (start opened : Locks) (old now new : ℕ) → (tells_locks → TakesLock start opened writer_lock_name) → now ≡ old
    → IsBusy tells_locks (opened meta_lock_name ≡ true) (Rose now new) → IsLockBusy tells_locks start (Rose old new)
busy_since_opening tells_locks start opened old now new took quiet b =
    busy_since tells_locks (opened meta_lock_name ≡ true) ((start writer_lock_name ≡ true) ⊎ (start meta_lock_name ≡ true)) old now (λ t held. inr (sym (meta_since start opened (took t)) ∙ held)) quiet b

-- where no lock is held none is met
pub none_met : (tells_locks : Type 0) (start : Locks) (refused : Type 0) → tells_locks → ((lock : List ℕ) → start lock ≡ false) → IsLockBusy tells_locks start refused → ⊥
none_met tells_locks start refused t free b = met (b.told t) where
  met : (start writer_lock_name ≡ true) ⊎ (start meta_lock_name ≡ true) → ⊥
  met (inl held) = true≢false (sym held ∙ free writer_lock_name)
  met (inr held) = true≢false (sym held ∙ free meta_lock_name)

-- where no lock is held, and no call was refused, none was behind the lock of the writer either
pub none_behind : {W : Type 0} (told : Told) (before : View W) (script script_now : SourceView) (now : ℕ) (more : Type 0) → told.locks → ((lock : List ℕ) → before.locks lock ≡ false) → (Rose before.faults now ⊎ more → ⊥)
    → RefusedBehind (WasLockedOut told before script script_now) before.faults now ⊎ more → ⊥
none_behind told before script script_now now more t free quiet (inl (inl rose)) = quiet (inl rose)
none_behind told before script script_now now more t free quiet (inl (inr held)) = true≢false (sym (held.0.0 t) ∙ free writer_lock_name)
none_behind told before script script_now now more t free quiet (inr other) = quiet (inr other)

-- a call that was refused was, whether the lock of the writer was given or not
pub either_behind : {held more : Type 0} (before now : ℕ) → Rose before now ⊎ more → RefusedBehind held before now ⊎ more
either_behind before now (inl rose) = inl (inl rose)
either_behind before now (inr other) = inr other
