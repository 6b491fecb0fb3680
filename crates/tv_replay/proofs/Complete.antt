-- A replay that is ready stops only for want of memory, or where a device refused a call.
use Rattle.std.proofs.Common.{◌≡◌, ◌≢◌, ◌⊎◌, inl, inr, ℕ, ◌+◌, ◌≤◌, Bool, cond, true, false, true≢false, List, [], ◌∷◌, ◌++◌, length, length-append, Option, Some, None, refl, sym, ap, subst, ◌∙◌, arith}
use Rattle.std.specs.Prelude.{IfSome, string_bytes}
use Rattle.std.specs.BTreeMap.{is_at}
use Rattle.std.specs.Ordering.{nat_cmp}
use Rattle.std.proofs.lemmas.Option.{same_Some}
use Rattle.std.specs.List.{onto_first, AllByRecursion}
use Rattle.tv_base.specs.declared.open_errors.OpenReadError.{OpenReadError}
use Rattle.tv_base.specs.declared.open_errors.OpenReadError.TheVariants as read
use Rattle.tv_base.specs.declared.open_errors.OpenWriteError.{OpenWriteError}
use Rattle.tv_base.specs.declared.open_errors.OpenWriteError.TheVariants as write
use Rattle.tv_base.specs.declared.error.TantivyError.{TantivyError}
use Rattle.tv_base.specs.declared.open_errors.LockError.TheVariants as lock
use Rattle.tv_base.specs.declared.error.TantivyError.TheVariants as errors
use Rattle.tv_events.specs.declared.event.Event.{Event}
use Rattle.tv_events.specs.declared.event.Event.TheVariants as events
use Rattle.tv_formats.specs.Footer.{IsGood, HasBody}
use Rattle.tv_device.specs.Locks.{Locks}
use Rattle.tv_machine.specs.State.{State, FileState, Reader, SealedFile, reader_at}
use Rattle.tv_machine.specs.Machine.{Turn, after, events_of}
use Rattle.tv_machine.specs.Lines.{is_refused}
use Rattle.tv_machine.specs.Living.{is_busy, kept_commits, unread_by}
use Rattle.tv_machine.specs.Readable.{AreGoodFiles, read_by}
use Rattle.tv_machine.specs.ReaderEvents.{reload_refusals}
use Rattle.tv_formats.specs.Names.{has, meta_name}
use Rattle.tv_formats.specs.Commits.{required_by, Commit, Settings}
use Rattle.tv_formats.specs.Segments.{all_required}
use Rattle.tv_machine.specs.SoundStates.{IsSoundState}
use Rattle.tv_formats.proofs.Entries.{is_itself}
use Rattle.tv_formats.proofs.MeansOne.{means_no_other, means_one, means_something}
use Rattle.tv_machine.proofs.OpenedStates.{opens_sound}
use Rattle.tv_formats.proofs.Required.{has_files_from}
use Rattle.tv_machine.proofs.SoundOpenings.{sound_index}
use Rattle.tv_machine.proofs.ReaderMoves.{all_unread}
use Rattle.tv_machine.proofs.SoundStates.{sound_reads}
use Rattle.tv_formats.specs.Files.{Reads}
use Rattle.tv_base.specs.declared.error.DataCorruption.{DataCorruption}
use Rattle.tv_formats.specs.Meaning.{Means, MeansOther, MeansNothing}
use Rattle.tv_formats.specs.Schemas.{IsSchema}
use Rattle.tv_formats.specs.Sound.{FindsCommit, HasFiles, IsSoundImage, IsSoundMeta}
use Rattle.tv_machine.specs.Index.{FoundIndex, found_commits}
use Rattle.tv_events.specs.Script.{line_limit, lines_of, Fits, IsLine, AreLines}
use Rattle.tv_machine.proofs.Serving.{sound_after, front_fits}
use Rattle.tv_script.specs.ScriptLines.{IsNoEvent, IsTooLong}
use Rattle.tv_index.specs.Opening.{OfBytes, OpenCause}
use Rattle.tv_store.specs.StoreCauses.{WriteFault, writer_lock_name}
use Rattle.tv_store.specs.OpeningCauses.{CallFacts, IndexMissing, IndexRefused, IsFirstBad, OpeningCause}
use Rattle.tv_store.specs.ReadCauses.{ReadFault}
use Rattle.tv_managed.specs.Collecting.{meta_lock_name}
use Rattle.tv_device.specs.View.{Told}
use Rattle.tv_store.specs.Applying.{MeetsBadAt}
use Rattle.tv_replay.specs.Replays.{ReplayCall, ReplayCause, told_facts, RefusesOpening, StopsFor, StopsReplay, StopsRunning, StopsAtLine, LineRefusal}
use Rattle.tv_replay.specs.Completeness.{IsScript, IsReady}
use Rattle.tv_replay.proofs.Progress.{AreLines-length}
use Rattle.tv_replay.proofs.Spending.{all_there, then_there}

-- the event whose line stands after some others
event_there : (texts : List (List ℕ)) (text : List ℕ) (more : List (List ℕ)) (events : List Event) → AreLines (texts ++ text ∷ more) events → (event : Event) × IsLine text event
event_there [] text more (event ∷ events) h = (event, h.0)
event_there (t ∷ texts) text more (event ∷ events) h = event_there texts text more events h.1
event_there [] text more [] h = absurd h
event_there (t ∷ texts) text more [] h = absurd h

-- so it is at the line where a replay stopped
event_at : (whole : List ℕ) (number : ℕ) (rest text : List ℕ) (more : List (List ℕ)) → IsScript whole → StopsAtLine whole number rest → lines_of rest ≡ text ∷ more → (event : Event) × IsLine text event
event_at whole number rest text more valid stops first =
    let split : lines_of whole ≡ stops.texts ++ text ∷ more = stops.split ∙ ap (λ (ls : List (List ℕ)). stops.texts ++ ls) first in
    event_there stops.texts text more valid.0 (subst (λ (ls : List (List ℕ)). AreLines ls valid.0) split valid.1)

no_bad_line : (whole : List ℕ) (number : ℕ) (rest : List ℕ) → IsScript whole → StopsAtLine whole number rest → IsNoEvent rest → ⊥
no_bad_line whole number rest valid stops bad =
    let there = event_at whole number rest bad.0 bad.1 valid stops bad.2 in
    bad.4 there.0 there.1

no_long_line : (whole : List ℕ) (number : ℕ) (rest : List ℕ) → IsScript whole → StopsAtLine whole number rest → IsTooLong rest → ⊥
no_long_line whole number rest valid stops long =
    let there = event_at whole number rest long.0 long.1 valid stops long.2 in
    let short : length long.0 ≤ line_limit = there.1.short in
    omega (arith, long.3)

either_line : (c : Bool) (b : ℕ) (lines : List (List ℕ)) → 1 ≤ length (cond c ([] ∷ lines) (onto_first b lines))
either_line false b [] = omega arith
either_line c b lines = omega arith

some_line : (rest : List ℕ) → rest ≢ [] → 1 ≤ length (lines_of rest)
some_line [] some = absurd (some refl)
some_line (b ∷ rest) some = either_line _ b (lines_of rest)

no_more_lines : (whole rest : List ℕ) → IsScript whole → StopsAtLine whole 4294967296 rest → rest ≢ [] → ⊥
no_more_lines whole rest valid stops some =
    let all : length (lines_of whole) ≡ length stops.texts + length (lines_of rest) = ap length stops.split ∙ length-append stops.texts (lines_of rest) in
    let events : length (lines_of whole) ≡ length valid.0 = AreLines-length (lines_of whole) valid.0 valid.1 in
    omega (arith, stops.place, some_line rest some, valid.2)

no_line_refusal : (schema : List ℕ) (script : Option (List ℕ)) (reads : Reads) (held : Locks) (text : List ℕ) → IsReady schema script reads held → LineRefusal script text → ⊥
no_line_refusal schema script reads held text ready (number, inl h) =
    let stop = h.1 ready.text ready.told in
    no_bad_line ready.text number stop.0 ready.valid stop.1 stop.2
no_line_refusal schema script reads held text ready (number, inr h) =
    let stop = h.1 ready.text ready.told in
    no_long_line ready.text number stop.0 ready.valid stop.1 stop.2

-- ---- the opening

has_middle : (front : List (List ℕ)) (path : List ℕ) (rest : List (List ℕ)) → has (front ++ path ∷ rest) path ≡ true
has_middle [] path rest = rw (is_itself path) refl
has_middle (name ∷ front) path rest = grind (arith, has_middle front path rest)

some_text : {o : Option (List ℕ)} {a b : List ℕ} → o ≡ Some a → o ≡ Some b → a ≡ b
some_text e k = let both = sym e ∙ k in cc

no_text : {o : Option (List ℕ)} {a : List ℕ} → o ≡ None → o ≡ Some a → ⊥
no_text e k = let both = sym e ∙ k in cc

sealed_text : {o : Option FileState} {a b : List ℕ} → o ≡ Some (SealedFile a) → o ≡ Some (SealedFile b) → a ≡ b
sealed_text e k = let both = sym e ∙ k in cc

-- from a sound start the index that stands has one commit, and its files can be read
module _ (schema form : List ℕ) (reads : Reads) (spelled : IsSchema schema form) (sound : IsSoundImage form reads) where
  same_commit : (text : List ℕ) (read : Option (List ℕ)) (settings : Settings) (commit : Commit) → text ≡ form → FindsCommit text read settings commit → IsSoundMeta form reads read → HasFiles reads (commit ∷ [])
  same_commit text None settings commit is found h =
      has_files_from reads commit
      (λ n required.
      absurd (true≢false (sym required ∙ ap (λ (c : Commit). has (all_required c.segments) n) found.1)))
  same_commit text (Some bytes) settings commit is found h =
      let means : Means settings form bytes commit = subst (λ (x : List ℕ). Means settings x bytes commit) is found in
      let same : commit ≡ h.1 = (means_one settings h.0 form bytes commit h.1 means h.2).1 in
      subst (λ commit. HasFiles reads (commit ∷ [])) (sym same) h.3

  has_files : (index : FoundIndex schema reads) → HasFiles reads (found_commits index)
  has_files index = same_commit index.form.schema (reads meta_name) index.form.settings index.commit (index.spelled.text_is ∙ sym spelled.text_is) index.found sound.commit

  there_good : (index : FoundIndex schema reads) (path : List ℕ) → IsFirstBad reads (required_by (found_commits index)) path → (bytes : List ℕ) × (reads path ≡ Some bytes) × IsGood bytes
  there_good index path bad =
      (has_files index).each path (subst (λ (names : List (List ℕ)). has names path ≡ true) (sym bad.split) (has_middle bad.front path bad.rest))

  no_refused_file : (error : OpenReadError) → IndexRefused schema reads error → ⊥
  no_refused_file error (index, met) =
      let refused = met.2 in
      let good = there_good index met.0 met.1 in
      let same : refused.bytes ≡ good.0 = some_text refused.there good.1 in
      refused.no_body good.2.body (subst (λ (bytes : List ℕ). HasBody bytes good.2.body) (sym same) good.2.has_body)

  no_missing_file : (path : List ℕ) → IndexMissing schema reads path → ⊥
  no_missing_file path (index, met) = let good = there_good index path met.0 in no_text met.1 good.1

  no_damage : (tells refused quiet : Type 0) (why : DataCorruption) (text : List ℕ) → tells → text ≡ form → OpenCause tells text reads refused quiet (errors.DataCorruption why) → ⊥
  no_damage tells refused quiet why text t is (inl h) = h.2 t sound.names sound.listing
  no_damage tells refused quiet why text t is (inr h) = meaning (reads meta_name) sound.commit (h.1.2 t) where
    meaning : (read : Option (List ℕ)) → IsSoundMeta form reads read → OfBytes (MeansNothing (Some text)) read → ⊥
    meaning None m none = none
    meaning (Some bytes) m none =
        means_something m.0 form bytes m.1 m.2 (subst (λ (x : List ℕ). MeansNothing (Some x) bytes) is none)

  no_other_schema : (tells refused quiet : Type 0) (text : _) (own : List ℕ) → tells → own ≡ form → OpenCause tells own reads refused quiet (errors.SchemaError text) → ⊥
  no_other_schema tells refused quiet text own t is h = meaning (reads meta_name) sound.commit (h.1.2 t) where
    meaning : (read : Option (List ℕ)) → IsSoundMeta form reads read → OfBytes (MeansOther own) read → ⊥
    meaning None m none = none
    meaning (Some bytes) m other =
        means_no_other m.0 form bytes m.1 m.2 (subst (λ (x : List ℕ). MeansOther x bytes) is other)

  no_opening_fault : (refused quiet busy free : Type 0) (error : OpenReadError) → (refused → ⊥) → ReadFault refused quiet (λ e. Unit {0}) (λ path. Unit {0}) error
      → OpeningCause (told_facts busy free) schema reads (errors.OpenReadError error) → ⊥
  no_opening_fault refused quiet busy free (read.IoError fault path) f (inl h) opening = f h.1
  no_opening_fault refused quiet busy free (read.IoError fault path) f (inr h) opening = met opening.3 where
    met : ReadFault (Unit {0}) (Unit {0}) (λ e. Unit {0} → IndexRefused schema reads e) (λ path. Unit {0} → IndexMissing schema reads path) (read.IoError fault path) → ⊥
    met (inl device) = h.0 device.0
    met (inr bad) = no_refused_file (read.IoError fault path) (bad.3 tt)
  no_opening_fault refused quiet busy free (read.FileDoesNotExist path) f h opening = no_missing_file (string_bytes path) (opening.3.2 tt)
  no_opening_fault refused quiet busy free (read.IncompatibleIndex why) f h opening = no_refused_file (read.IncompatibleIndex why) (opening.3.1 tt)
  no_opening_fault refused quiet busy free read.Memory f h opening = h

-- ---- the run

pub lines_fit : (texts : List (List ℕ)) (events : List Event) → AreLines texts events → AllByRecursion Fits events
lines_fit [] [] h = tt
lines_fit (text ∷ texts) (event ∷ events) h = (h.0.fits, lines_fit texts events h.1)
lines_fit [] (event ∷ events) h = absurd h
lines_fit (text ∷ texts) [] h = absurd h

unless_refused : (b : Bool) (current commit : Commit) → cond b None (Some current) ≡ Some commit → current ≡ commit
unless_refused true current commit e = absurd cc
unless_refused false current commit e = same_Some current commit e

if_some : (P : Commit → Type 0) (unread : Option Commit) (commit : Commit) → unread ≡ Some commit → IfSome unread P → P commit
if_some P None commit e h = absurd cc
if_some P (Some noted) commit e h = subst P (same_Some noted commit e) h

-- an event that reads a commit's files reads those of one that is kept
reads_kept : (P : Commit → Type 0) (s : State) (event : Event) (commit : Commit) → read_by s event ≡ Some commit → AllByRecursion P (kept_commits s.catalog) → P commit
reads_kept P s (events.Reader policy) commit e all = subst P (unless_refused (is_busy s.catalog) s.catalog.commit commit e) all.0
reads_kept P s (events.Reload number) commit e all =
    let found = then_there (λ (r : Reader). cond (is_refused (reload_refusals s.catalog r)) None (Some s.catalog.commit)) (reader_at s.catalog number) commit e in
    subst P (unless_refused (is_refused (reload_refusals s.catalog found.0)) s.catalog.commit commit found.2) all.0
reads_kept P s (events.ReloadOpen number) commit e all =
    let found = then_there (λ (r : Reader). unread_by r.reload) (reader_at s.catalog number) commit e in
    if_some P (unread_by found.0.reload) commit found.2
    (all_there (λ (r : Reader). IfSome (unread_by r.reload) P) (is_at (nat_cmp number)) s.catalog.reading.readers found.0 (all_unread P s.catalog.reading.readers all.1) found.1)
reads_kept P s events.Deliver commit e all = subst P (unless_refused _ s.catalog.commit commit e) all.0
reads_kept P s other commit e all = absurd cc

-- in a sound state no file is met that can't be read
no_bad_file : (s : State) (event : Event) (error : OpenReadError) → IsSoundState s → MeetsBadAt s event error → ⊥
no_bad_file s event error sound (commit, reads, met) =
    let required : has (all_required commit.segments) met.path ≡ true =
    subst (λ (names : List (List ℕ)). has names met.path ≡ true) (sym met.split) (has_middle met.front met.path met.rest) in
    let files = reads_kept (λ (c : Commit). AreGoodFiles s (all_required c.segments)) s event commit reads (sound_reads s sound) in
    let good = files.each met.path required in
    let same : met.bytes ≡ good.0 = sealed_text met.sealed good.1 in
    met.no_body good.2.body (subst (λ (bytes : List ℕ). HasBody bytes good.2.body) (sym same) good.2.has_body)

no_read_fault : (refused quiet : Type 0) (script : Option (List ℕ)) (start : State) (turns : List Turn) (held free : Type 0) (error : OpenReadError) → (refused → ⊥) → IsSoundState (after start turns)
    → ReadFault refused quiet (λ e. Unit {0}) (λ path. Unit {0}) error → StopsFor script start turns held free (errors.OpenReadError error) → ⊥
no_read_fault refused quiet script start turns held free (read.IoError fault path) f sound (inl h) stop = f h.1
no_read_fault refused quiet script start turns held free (read.IoError fault path) f sound (inr h) (inl device) = h.0 device.0
no_read_fault refused quiet script start turns held free (read.IoError fault path) f sound (inr h) (inr met) = no_bad_file (after start turns) met.3.0 (read.IoError fault path) sound met.3.3
no_read_fault refused quiet script start turns held free (read.FileDoesNotExist path) f sound h stop = stop.2
no_read_fault refused quiet script start turns held free (read.IncompatibleIndex why) f sound h stop = no_bad_file (after start turns) stop.1.0 (read.IncompatibleIndex why) sound stop.1.3
no_read_fault refused quiet script start turns held free other f sound h stop = absurd h

no_write_fault : (refused : Type 0) (error : OpenWriteError) → (refused → ⊥) → WriteFault refused error → ⊥
no_write_fault refused (write.IoError fault path) f h = f h.1
no_write_fault refused other f h = h

pub only_memory : {W : Type 0} (told : Told) (call : ReplayCall W) (facts : CallFacts) (error : TantivyError) → facts.tells → told.content → IsReady call.schema call.script.left call.before.reads call.before.locks → (facts.busy → ⊥) → (facts.refused → ⊥) → (facts.refused_behind → ⊥)
    → ReplayCause facts call.schema call.before.reads call.script.left error → StopsReplay told call error → error ≡ errors.Memory
only_memory told call facts (errors.InvalidArgument text) t content ready y f fb (_, inl h) stops = absurd (h.0 ready.form ready.spelled)
only_memory told call facts (errors.InvalidArgument text) t content ready y f fb (_, inr h) stops =
    absurd (no_line_refusal call.schema call.script.left call.before.reads call.before.locks (string_bytes text) ready h.2)
only_memory told call facts (errors.DataCorruption why) t content ready y f fb (_, _, inr (_, none)) stops =
    absurd (none.2 t (sound_index call.schema ready.form call.before.reads ready.spelled ready.sound.image))
only_memory told call facts (errors.DataCorruption why) t content ready y f fb (text, is, inl h) stops =
    absurd (no_damage call.schema ready.form call.before.reads ready.spelled ready.sound.image facts.tells facts.refused_behind facts.quiet_behind why text t (is.text_is ∙ sym ready.spelled.text_is) h)
only_memory told call facts (errors.SchemaError text) t content ready y f fb (_, _, inr (_, none)) stops =
    absurd (none.2 t (sound_index call.schema ready.form call.before.reads ready.spelled ready.sound.image))
only_memory told call facts (errors.SchemaError text) t content ready y f fb (own, is, inl h) stops =
    absurd (no_other_schema call.schema ready.form call.before.reads ready.spelled ready.sound.image facts.tells facts.refused_behind facts.quiet_behind text own t (is.text_is ∙ sym ready.spelled.text_is) h)
only_memory told call facts (errors.IoError fault) t content ready y f fb h stops = absurd (fb h.2)
only_memory told call facts (errors.OpenWriteError error) t content ready y f fb h stops = absurd (no_write_fault facts.refused error f h.2)
only_memory told call facts (errors.OpenReadError error) t content ready y f fb h stops = absurd (met (stops content)) where
  met : RefusesOpening told call (errors.OpenReadError error) ⊎ StopsRunning told call (errors.OpenReadError error) → ⊥
  met (inl opening) = no_opening_fault call.schema ready.form call.before.reads ready.spelled ready.sound.image facts.refused facts.quiet (told.locks → call.before.locks writer_lock_name ≡ true) (told.locks → call.before.locks writer_lock_name ≡ false) error f h.2 opening.cause
  met (inr run) =
      let index = sound_index call.schema ready.form call.before.reads ready.spelled ready.sound.image in
      let stop = run.stops index in
      let begun = stop.lines ready.text ready.told in
      let fit : AllByRecursion Fits (events_of stop.turns) = front_fits stop.turns stop.ahead (lines_fit begun.texts (events_of (stop.turns ++ stop.ahead)) begun.each) in
      let as_text : IsSoundImage index.form.schema call.before.reads = subst (λ (x : List ℕ). IsSoundImage x call.before.reads) (ready.spelled.text_is ∙ sym index.spelled.text_is) ready.sound.image in
      let start = opens_sound index.form.settings index.form.schema call.before.reads index.state as_text index.opens in
      no_read_fault facts.refused facts.quiet call.script.left index.state stop.turns (told.locks → call.before.locks meta_lock_name ≡ true) (told.locks → call.before.locks meta_lock_name ≡ false) error f
      (sound_after index.state stop.turns fit start) h.2 stop.cause
only_memory told call facts (errors.LockFailure lock.LockBusy text) t content ready y f fb h stops = absurd (y h.2)
only_memory told call facts (errors.LockFailure (lock.IoError fault) text) t content ready y f fb h stops = absurd (f h.2)
only_memory told call facts (errors.LockFailure lock.Memory text) t content ready y f fb h stops = absurd h
only_memory told call facts errors.Exhausted t content ready y f fb h stops =
    let stop = h.3 ready.text ready.told in
    absurd (no_more_lines ready.text stop.0 ready.valid stop.1 stop.2)
only_memory told call facts errors.Memory t content ready y f fb h stops = refl
only_memory told call facts other t content ready y f fb h stops = absurd h
