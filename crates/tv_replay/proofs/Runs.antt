-- What a run tells or says: no line feed stands in the lines of errors, and what each refusal leads to.
use Rattle.std.proofs.Common.{◌≡◌, ◌≢◌, ◌⊎◌, inl, inr, ℕ, zero, suc, ◌+◌, ◌<◌, ◌/◌, ◌%◌, ◌==◌, Bool, true, false, not, nat_lt, if◌then◌else◌, List, [], ◌∷◌, ◌++◌, codes, refl, sym, ap, subst, ◌∙◌, arith, string_bytes, Result, Ok, Err}
use Rattle.std.specs.Global.{Global}
use Rattle.std.specs.Prelude.{nat_eq, option_map, String, Option, Some, None}
use Rattle.std.specs.List.{starts_with}
use Rattle.std.specs.Fmt.{decimal, digits, digits_onto, digit_glyph}
use Rattle.std.proofs.lemmas.Bool.{ne_eqb}
use Rattle.tv_device.specs.declared.directory.Directory.{Ghosts}
use Rattle.tv_formats.specs.Files.{Reads, Rose, has_no_feed}
use Rattle.tv_formats.specs.Names.{meta_name}
use Rattle.tv_formats.proofs.NoFeeds.{no_feed_append, no_feed_name}
use Rattle.tv_base.specs.Causes.{IoCause}
use Rattle.tv_base.specs.Errors.{of_io, of_open_directory}
use Rattle.tv_base.specs.declared.io.IoFault.{IoFault}
use Rattle.tv_base.specs.declared.io.IoError.{IoError}
use Rattle.tv_base.specs.declared.io.IoError.TheVariants as io
use Rattle.tv_base.specs.declared.io.IoKind.{IoKind}
use Rattle.tv_base.specs.declared.io.IoKind.TheVariants.{Device, UnexpectedEof, InvalidData}
use Rattle.tv_base.specs.declared.versions.Incompatibility.{Incompatibility}
use Rattle.tv_base.specs.declared.versions.Incompatibility.TheVariants.{CompressionMismatch, IndexMismatch}
use Rattle.tv_base.specs.declared.open_errors.LockError.{LockError}
use Rattle.tv_base.specs.declared.open_errors.LockError.TheVariants as lock
use Rattle.tv_base.specs.declared.open_errors.OpenReadError.{OpenReadError}
use Rattle.tv_base.specs.declared.open_errors.OpenReadError.TheVariants as read
use Rattle.tv_base.specs.declared.open_errors.OpenDirectoryError.{OpenDirectoryError}
use Rattle.tv_base.specs.declared.open_errors.OpenDirectoryError.TheVariants as directory
use Rattle.tv_base.specs.declared.error.TantivyError.{TantivyError}
use Rattle.tv_base.specs.declared.error.TantivyError.TheVariants as errors
use Rattle.tv_base.specs.declared.open_errors.OpenWriteError.{OpenWriteError}
use Rattle.tv_base.specs.declared.open_errors.OpenWriteError.TheVariants as write
use Rattle.tv_store.specs.OpeningCauses.{CallFacts}
use Rattle.tv_store.specs.StoreCauses.{WriteFault}
use Rattle.tv_replay.specs.ErrorLines.{argument_line, corrupt_line, io_line, fault_line, format_line, lock_line, read_line, write_line, error_line}
use Rattle.tv_store.specs.ReadCauses.{ReadFault}
use Rattle.tv_replay.specs.PlaceView.{PlaceTold, PlaceView, KeepsTexts, KeepsFolders, PlaceKept, LendCause, Says, SayFaults, SaysPart}
use Rattle.tv_replay.specs.Replays.{ReplayCause, LineRefusal, replay_call, replay_facts}
use Rattle.tv_replay.specs.Completeness.{IsReady}
use Rattle.tv_replay.proofs.Complete.{only_memory}
use Rattle.tv_replay.proofs.Stopping.{none_behind, none_met}
use Rattle.tv_replay.specs.Commands.{replay_words}
use Rattle.tv_replay.specs.Runs.{SaysLine, OnlySays, SaysError, PlaceRefuses, AskedReplay, Scene, KeepsScript, RefusesReplay, Reports, ReportsError, Stops, EndsReplay, schema_line, folder_line}
use Rattle.tv_replay.specs.WordRuns.{IsUndisturbedRun}

-- a digit is no line feed
glyph_no_feed : (d : ℕ) → not (digit_glyph false d == 10) ≡ true
glyph_no_feed d = at (nat_lt d 10) where
  at : (b : Bool) → not ((if b then 48 + d else 87 + d) == 10) ≡ true
  at true = rw (ne_eqb (48 + d) 10 (λ e. omega arith)) refl
  at false = rw (ne_eqb (87 + d) 10 (λ e. omega arith)) refl

whichever : (b : Bool) (xs ys : List ℕ) → has_no_feed xs ≡ true → has_no_feed ys ≡ true → has_no_feed (if b then xs else ys) ≡ true
whichever true xs ys h k = h
whichever false xs ys h k = k

digits_no_feed : (k n : ℕ) (acc : List ℕ) → has_no_feed acc ≡ true → has_no_feed (digits_onto k 10 false n acc) ≡ true
digits_no_feed zero n acc h = h
digits_no_feed (suc k) n acc h =
    let one : has_no_feed (digit_glyph false (n % 10) ∷ acc) ≡ true = rw (glyph_no_feed (n % 10)) h in
    whichever (n / 10 == 0) (digit_glyph false (n % 10) ∷ acc) (digits_onto k 10 false (n / 10) (digit_glyph false (n % 10) ∷ acc)) one (digits_no_feed k (n / 10) (digit_glyph false (n % 10) ∷ acc) one)

pub decimal_no_feed : (n : ℕ) → has_no_feed (decimal n) ≡ true
unfolding digits
decimal_no_feed n = digits_no_feed 64 n [] refl

numbered_no_feed : (number : ℕ) (more : List ℕ) → has_no_feed more ≡ true → has_no_feed (codes "line " ++ decimal number ++ more) ≡ true
numbered_no_feed number more h = no_feed_append (codes "line " ++ decimal number) more (no_feed_append (codes "line ") (decimal number) refl (decimal_no_feed number)) h

argument_no_feed : (text : List ℕ) → has_no_feed text ≡ true → has_no_feed (argument_line text) ≡ true
argument_no_feed text h = whichever (starts_with nat_eq text (codes "line ")) (codes "error " ++ text) (codes "error argument") (no_feed_append (codes "error ") text refl h) refl

line_no_feed : (script : Option (List ℕ)) (text : List ℕ) → LineRefusal script text → has_no_feed text ≡ true
line_no_feed script text (number, inl h) = rw h.0 (numbered_no_feed number (codes " is not of the event grammar") refl)
line_no_feed script text (number, inr h) = rw h.0 (numbered_no_feed number (codes " is longer than 1048576 bytes") refl)

pub fault_no_feed : (kind : IoKind) (path : List ℕ) → has_no_feed path ≡ true → has_no_feed (fault_line kind path) ≡ true
fault_no_feed Device path h = refl
fault_no_feed UnexpectedEof path h = no_feed_append (codes "error footer ") path refl h
fault_no_feed InvalidData path h = no_feed_append (codes "error footer ") path refl h

pub device_no_feed : (kind : IoKind) (path : List ℕ) → kind ≡ Device → has_no_feed (fault_line kind path) ≡ true
device_no_feed kind path is = rw is refl

pub format_no_feed : (why : Incompatibility) → has_no_feed (format_line why) ≡ true
format_no_feed (IndexMismatch library index) = no_feed_append (codes "error format ") (decimal index.index_format_version) refl (decimal_no_feed index.index_format_version)
format_no_feed (CompressionMismatch library index) = refl

read_no_feed : (refused quiet : Type 0) (bad : OpenReadError → Type 0) (absent : List ℕ → Type 0) (error : OpenReadError) → ReadFault refused quiet bad absent error → has_no_feed (read_line error) ≡ true
read_no_feed refused quiet bad absent (read.IoError fault path) (inl h) = device_no_feed fault.kind (string_bytes path) h.0
read_no_feed refused quiet bad absent (read.IoError fault path) (inr h) = fault_no_feed fault.kind (string_bytes path) (no_feed_name (string_bytes path) h.2)
read_no_feed refused quiet bad absent (read.FileDoesNotExist path) h = no_feed_append (codes "error missing ") (string_bytes path) refl (no_feed_name (string_bytes path) h.1)
read_no_feed refused quiet bad absent (read.IncompatibleIndex why) h = format_no_feed why
read_no_feed refused quiet bad absent other h = absurd h

pub io_no_feed : (kind : IoKind) → has_no_feed (io_line kind) ≡ true
io_no_feed Device = refl
io_no_feed other = refl

lock_no_feed : (why : LockError) → has_no_feed (lock_line why) ≡ true
lock_no_feed (lock.IoError fault) = io_no_feed fault.kind
lock_no_feed other = refl

write_no_feed : (refused : Type 0) (error : OpenWriteError) → WriteFault refused error → has_no_feed (write_line error) ≡ true
write_no_feed refused (write.IoError fault path) h = io_no_feed fault.kind
write_no_feed refused other h = absurd h

pub corrupt_no_feed : (path : Option (String Global)) (name : List ℕ) → option_map string_bytes path ≡ Some name → has_no_feed name ≡ true → has_no_feed (corrupt_line path) ≡ true
corrupt_no_feed None name is h = refl
corrupt_no_feed (Some path) name is h = let same : string_bytes path ≡ name = cc in no_feed_append (codes "error corrupt ") (string_bytes path) refl (rw same h)

-- no line feed stands in the line of an error that a replay answers
pub error_no_feed : (facts : CallFacts) (schema : List ℕ) (reads : Reads) (script : _) (error : TantivyError) → ReplayCause facts schema reads script error → has_no_feed (error_line error) ≡ true
error_no_feed facts schema reads script (errors.InvalidArgument text) (_, inl (_, is)) = argument_no_feed (string_bytes text) (rw is refl)
error_no_feed facts schema reads script (errors.InvalidArgument text) (_, inr (_, _, line)) = argument_no_feed (string_bytes text) (line_no_feed script (string_bytes text) line)
error_no_feed facts schema reads script (errors.OpenReadError error) (_, _, fault) = read_no_feed facts.refused facts.quiet (λ e. Unit {0}) (λ path. Unit {0}) error fault
error_no_feed facts schema reads script (errors.LockFailure why text) h = lock_no_feed why
error_no_feed facts schema reads script (errors.IoError fault) h = io_no_feed fault.kind
error_no_feed facts schema reads script (errors.OpenWriteError error) (_, _, fault) = write_no_feed facts.refused error fault
error_no_feed facts schema reads script (errors.DataCorruption why) (_, _, inl (inl (_, (file, is, same), _))) = corrupt_no_feed why.filepath file is (rw same refl)
error_no_feed facts schema reads script (errors.DataCorruption why) (_, _, inl (inr (_, (_, is, _)))) = corrupt_no_feed why.filepath meta_name is refl
error_no_feed facts schema reads script (errors.DataCorruption why) (_, _, inr (is, _)) = corrupt_no_feed why.filepath meta_name is refl
error_no_feed facts schema reads script other h = refl

-- why a schema wasn't had: a device refused it, or memory was wanted
pub schema_cause : (refused quiet : Type 0) (error : IoError) → IoCause refused quiet error → refused ⊎ (quiet × (of_io error ≡ errors.Memory))
schema_cause refused quiet (io.Fault fault) (_, h) = inl h
schema_cause refused quiet io.Memory h = inr (h, refl)

-- the same of a folder that wasn't lent
pub lend_cause : (refused quiet : Type 0) (error : OpenDirectoryError) → LendCause refused quiet error → refused ⊎ (quiet × (of_open_directory error ≡ errors.Memory))
lend_cause refused quiet (directory.DoesNotExist path) h = inl h
lend_cause refused quiet (directory.NotADirectory path) h = inl h
lend_cause refused quiet (directory.FailedToCreateTempDir fault) h = absurd h
lend_cause refused quiet (directory.IoError fault path) (_, h) = inl h
lend_cause refused quiet directory.Memory h = inr (h, refl)

-- what is said of them
pub schema_line_is : (refused quiet : Type 0) (error : IoError) → IoCause refused quiet error → (of_io error ≡ errors.Memory → ⊥) → error_line (of_io error) ≡ schema_line
schema_line_is refused quiet (io.Fault fault) (device, _) other = ap io_line device
schema_line_is refused quiet io.Memory h other = absurd (other refl)

-- a schema that was refused isn't there
pub schema_absent : (there : Option (List ℕ)) (error : IoError) → IoCause (there ≡ None) (Unit {0}) error → of_io error ≢ errors.Memory → there ≡ None
schema_absent there (io.Fault fault) h other = h.1
schema_absent there io.Memory h other = absurd (other refl)

pub folder_line_is : (error : OpenDirectoryError) → (of_open_directory error ≡ errors.Memory → ⊥) → error_line (of_open_directory error) ≡ folder_line
folder_line_is directory.Memory other = absurd (other refl)
folder_line_is error other = refl

-- a line was said, or the place refused it
pub says_line : {A O : Type 0} {told : PlaceTold} {old new : PlaceView O} {line : List ℕ} (r : Result A IoFault) → Says told old new line r → SayFaults old new r → SaysLine told old new line
says_line (Ok x) says faults = inl (faults.quiet, says.ok)
says_line (Err e) says faults = inr (faults.cause.1, says.err)

pub only_says : {A O : Type 0} {told : PlaceTold} {old new : PlaceView O} {line : List ℕ} (r : Result A IoFault) → Says told old new line r → SayFaults old new r → KeepsFolders told old new → OnlySays told old new line
only_says r says faults frame = record { says = says_line r says faults; counted = faults.counted; frame = frame }

-- the line that was said is this one
pub says_this : {O : Type 0} {told : PlaceTold} {old new : PlaceView O} {line whole : List ℕ} → line ≡ whole → OnlySays told old new line → OnlySays told old new whole
says_this {told = told} {old = old} {new = new} is only = subst (λ (l : List ℕ). OnlySays told old new l) is only

pub texts_then : {O : Type 0} {told : PlaceTold} {first next last : PlaceView O} → KeepsTexts told first next → KeepsTexts told next last → KeepsTexts told first last
texts_then before after = record {
  schemas = λ tells path. after.schemas tells path ∙ before.schemas tells path;
  scripts = λ tells path. after.scripts tells path ∙ before.scripts tells path;
}

pub folders_then : {O : Type 0} {told : PlaceTold} {first next last : PlaceView O} → KeepsFolders told first next → KeepsFolders told next last → KeepsFolders told first last
folders_then before after = record {
  texts = texts_then before.texts after.texts;
  folders = λ tells folder. after.folders tells folder ∙ before.folders tells folder;
  lent = after.lent ∙ before.lent;
}

pub kept_then : {O : Type 0} {told : PlaceTold} {first next last : PlaceView O} → PlaceKept told first next → PlaceKept told next last → PlaceKept told first last
kept_then before after = record { folders = folders_then before.folders after.folders; said = after.said ∙ before.said }

-- the count is none of what is kept
as_counted : {O : Type 0} {told : PlaceTold} {old new : PlaceView O} (count : ℕ) → KeepsFolders told old new → KeepsFolders told (record old { faults = count }) new
as_counted count kept = record { texts = record { schemas = kept.texts.schemas; scripts = kept.texts.scripts }; folders = kept.folders; lent = kept.lent }

-- what was said and kept, told of from an earlier moment
says_since : {O : Type 0} {told : PlaceTold} {old mid new : PlaceView O} {line : List ℕ} → PlaceKept told old mid → OnlySays told mid new line → OnlySays told (record old { faults = mid.faults }) new line
says_since {told = told} {old = old} {mid = mid} {new = new} {line = line} kept only = record {
  says = subst (λ (said : List ℕ). SaysLine told (record old { faults = mid.faults; said = said }) new line) kept.said only.says;
  counted = only.counted;
  frame = as_counted mid.faults (folders_then kept.folders only.frame);
}

-- and no call was refused since
pub says_quietly : {O : Type 0} {told : PlaceTold} {old mid new : PlaceView O} {line : List ℕ} → PlaceKept told old mid → mid.faults ≡ old.faults → OnlySays told mid new line → OnlySays told old new line
says_quietly {told = told} {old = old} {mid = mid} {new = new} {line = line} kept quiet only = record {
  says = subst (λ (n : ℕ). SaysLine told (record old { faults = n }) new line) quiet (says_since kept only).says;
  counted = subst (λ (n : ℕ). (before : ℕ) → Rose before n → Rose before new.faults) quiet only.counted;
  frame = folders_then kept.folders only.frame;
}

-- why a schema or a folder wasn't had, seen from an earlier moment
pub why_since : {memory : Type 0} {faults start count : ℕ} → start ≡ faults → Rose start count ⊎ ((count ≡ start) × memory) → Rose faults count ⊎ ((count ≡ faults) × memory)
why_since {count = count} same (inl rose) = inl (subst (λ (n : ℕ). Rose n count) same rose)
why_since same (inr (quiet, m)) = inr (quiet ∙ same, m)

-- the place refused a call, and then a line was said
pub refused_by : {O : Type 0} {told : PlaceTold} {old mid new : PlaceView O} {line : List ℕ} → PlaceKept told old mid → Rose old.faults mid.faults → OnlySays told mid new line → PlaceRefuses told old new line
refused_by {told = told} {old = old} {mid = mid} {new = new} {line = line} kept rose only = record {
  refused = only.counted old.faults rose;
  says = λ tells. subst (λ (said : List ℕ). (new.said ≡ said ++ line ++ 10 ∷ []) ⊎ SaysPart said new.said line) kept.said (either only.says tells);
  frame = folders_then kept.folders only.frame;
} where
  either : SaysLine told mid new line → told.said → (new.said ≡ mid.said ++ line ++ 10 ∷ []) ⊎ SaysPart mid.said new.said line
  either (inl whole) tells = inl (whole.1 tells)
  either (inr part) tells = inr (part.1 tells)

-- the place refused a schema or a folder, and then the line of that was said
pub refuses : {O : Type 0} {told : PlaceTold} {old mid new : PlaceView O} {line whole : List ℕ} (memory : Type 0) → PlaceKept told old mid
    → Rose old.faults mid.faults ⊎ ((mid.faults ≡ old.faults) × memory) → (memory → ⊥) → line ≡ whole → OnlySays told mid new line → PlaceRefuses told old new whole
refuses memory kept (inl rose) other is only = refused_by kept rose (says_this is only)
refuses memory kept (inr (_, m)) other is only = absurd (other m)

-- memory was wanted for a schema or a folder, or for the line of its refusal
pub wants : {O : Type 0} {told : PlaceTold} {old mid new : PlaceView O} {line : List ℕ} (memory : Type 0) → PlaceKept told old mid
    → Rose old.faults mid.faults ⊎ ((mid.faults ≡ old.faults) × memory) → OnlySays told mid new line → OnlySays told old new line ⊎ PlaceRefuses told old new line
wants memory kept (inl rose) only = inr (refused_by kept rose only)
wants memory kept (inr (quiet, _)) only = inl (says_quietly kept quiet only)

pub not_done : (n : ℕ) → (n ≡ 1) ⊎ (n ≡ 3) → n ≡ 0 → ⊥
not_done n (inl one) none = omega arith
not_done n (inr three) none = omega arith

-- a replay that didn't begin, since there is no schema or no folder
pub not_begun : {O W C : Type 0} {g : Ghosts O W C} {told : PlaceTold} (asked : AskedReplay O) {mid : PlaceView O} {error : TantivyError} {status : ℕ} {line : List ℕ} → PlaceKept told asked.old.place mid
    → Rose asked.old.place.faults mid.faults ⊎ ((mid.faults ≡ asked.old.place.faults) × (error ≡ errors.Memory)) → (error ≢ errors.Memory → error_line error ≡ line) → SaysError told mid asked.new.place error status
    → KeepsScript asked.old asked.new → (error ≢ errors.Memory → PlaceRefuses told asked.old.place asked.new.place line → RefusesReplay told asked) → EndsReplay g told asked status
not_begun asked {error = error} kept why line_is says unread refused = record {
  done = λ zero. absurd (not_done _ says.statuses zero);
  failed = λ one. let said = says.other one in inl (refused said.0 (refuses (error ≡ errors.Memory) kept why said.0 (line_is said.0) said.1), unread);
  memory = λ three. inl (wants (error ≡ errors.Memory) kept why (says.memory three), unread);
  statuses = inr says.statuses;
}

-- a report, told of from an earlier moment at which nothing more had been said and refused
pub reports_since : {O W C : Type 0} {g : Ghosts O W C} {told : PlaceTold} {stopped : O} {folder : List ℕ} (old : PlaceView O) {mid new : PlaceView O} {line : List ℕ}
    → KeepsTexts told old mid → mid.faults ≡ old.faults → mid.said ≡ old.said → mid.lent ≡ Some folder → Reports g told (record { stopped = stopped; old = mid; new = new }) line → Reports g told (record { stopped = stopped; old = record old { lent = Some folder }; new = new }) line
reports_since {told = told} old {mid = mid} {new = new} {line = line} texts same silent lent r = record {
  now = r.now;
  given_back = λ tells f is. r.given_back tells f (lent ∙ is);
  texts = texts_then (record { schemas = texts.schemas; scripts = texts.scripts }) r.texts;
  faults = r.faults;
  frame = r.frame;
  images = r.images;
  reported = elim r.reported [
    | inl (heard, nothing) ↦ inl (heard, record { said = nothing.said ∙ silent; quiet = nothing.quiet ∙ same })
    | inr (part, says) ↦
        inr (
          part,
          subst (λ (n : ℕ). SaysLine told (record old { faults = n }) new line) same (subst (λ (said : List ℕ). SaysLine told (record mid { said = said }) new line) silent says),
        )
  ];
}

-- a replay that stopped, and the line of its error was reported
pub stopped_with : {O W C : Type 0} {g : Ghosts O W C} {told : PlaceTold} (asked : AskedReplay O) {stopped : O} {mid : PlaceView O} {error : TantivyError} {status : ℕ} → ReportsError g told (record { stopped = stopped; old = mid; new = asked.new.place }) error status
    → ((line : List ℕ) → Reports g told (record { stopped = stopped; old = mid; new = asked.new.place }) line → Stops g told asked error line) → EndsReplay g told asked status
stopped_with asked {error = error} gave stops = record {
  done = λ zero. absurd (not_done _ gave.statuses zero);
  failed = λ one. let said = gave.other one in inr (error, said.0, stops _ said.1);
  memory = λ three. inr (error, stops _ (gave.memory three));
  statuses = inr gave.statuses;
}

-- ---- a run that nothing disturbs

-- the directory that was given back counts as many refused calls as before
none_refused : (before stopped now : ℕ) → (now ≡ stopped) ⊎ Rose stopped now → now ≡ before → now < 18446744073709551615 → Rose before stopped → ⊥
none_refused before stopped now (inl same) still below (inl rose) = omega (arith, same, still, rose)
none_refused before stopped now (inl same) still below (inr end) = omega (arith, same, end, below)
none_refused before stopped now (inr (inl more)) still below (inl rose) = omega (arith, more, still, rose)
none_refused before stopped now (inr (inl more)) still below (inr end) = omega (arith, more, end, below)
none_refused before stopped now (inr (inr end)) still below rose = omega (arith, end, below)

some_one : {A : Type 0} {x y : A} {o : Option A} → o ≡ Some x → o ≡ Some y → x ≡ y
some_one {x = x} {y = y} e f = let both : ◌≡◌ {A = Option _} (Some x) (Some y) = sym e ∙ f in cc

module _ {O W C : Type 0} (g : Ghosts O W C) (told : PlaceTold) (words : List (List ℕ)) (old new : Scene O) (u : IsUndisturbedRun g told words old new) where
  abbrev asked : AskedReplay O
  asked = record { folder = u.folder; path = u.path; old = old; new = new }

  -- no call was refused
  none_amiss : (before stopped now : ℕ) → (now ≡ stopped) ⊎ Rose stopped now → now ≡ before → now < 18446744073709551615 → Rose before stopped ⊎ Rose old.script.faults new.script.faults → ⊥
  none_amiss before stopped now later still below (inl rose) = none_refused before stopped now later still below rose
  none_amiss before stopped now later still below (inr rose) = u.script_still rose

  -- the replay didn't stop for another reason than want of memory
  no_stop : (error : TantivyError) (line : List ℕ) → error ≢ errors.Memory → Stops g told asked error line → ⊥
  no_stop error line other stop =
      let is_before : u.before ≡ stop.before = some_one u.lent (stop.lent u.place) in
      let is_schema : u.schema ≡ stop.schema = some_one u.schema_is (stop.schema_is u.place) in
      let is_now : u.now ≡ stop.reports.now = some_one u.given_back (stop.reports.given_back u.place u.folder refl) in
      let ready : IsReady stop.schema old.script.left (g.view stop.before).reads (g.view stop.before).locks =
      subst (λ (schema : List ℕ). IsReady schema old.script.left (g.view stop.before).reads (g.view stop.before).locks) is_schema
      (subst (λ (d : O). IsReady u.schema old.script.left (g.view d).reads (g.view d).locks) is_before u.ready) in
      let still : (g.view stop.reports.now).faults ≡ (g.view stop.before).faults = ap (λ (d : O). (g.view d).faults) (sym is_now) ∙ u.still ∙ ap (λ (d : O). (g.view d).faults) is_before in
      let below : (g.view stop.reports.now).faults < 18446744073709551615 = subst (λ (d : O). (g.view d).faults < 18446744073709551615) is_now u.not_last in
      let amiss = none_amiss (g.view stop.before).faults (g.view stop.stopped).faults (g.view stop.reports.now).faults stop.reports.faults still below in
      other (only_memory g.told (replay_call g stop.before stop.stopped stop.schema old.script new.script) (replay_facts g.told (g.view stop.before) (g.view stop.stopped).faults old.script new.script) error u.content u.content ready
      (none_met g.told.locks (g.view stop.before).locks (Rose (g.view stop.before).faults (g.view stop.stopped).faults) u.locks ready.sound.free) amiss
      (none_behind g.told (g.view stop.before) old.script new.script (g.view stop.stopped).faults (Rose old.script.faults new.script.faults) u.locks ready.sound.free amiss) stop.cause stop.stops)

  pub comes_to_end : (status : ℕ) → EndsReplay g told asked status → (status ≡ 0) ⊎ (status ≡ 3)
  comes_to_end status ends = told_of ends.statuses where
    told_of : (status ≡ 0) ⊎ ((status ≡ 1) ⊎ (status ≡ 3)) → (status ≡ 0) ⊎ (status ≡ 3)
    told_of (inl none) = inl none
    told_of (inr (inr three)) = inr three
    told_of (inr (inl failing)) = absurd (failed (ends.failed failing)) where
      failed : (RefusesReplay told asked × KeepsScript old new) ⊎ ((error : TantivyError) × (error ≢ errors.Memory) × Stops g told asked error (error_line error)) → ⊥
      failed (inl (inl refused, unread)) = u.place_still refused.1.refused
      failed (inl (inr refused, unread)) = u.place_still refused.1.refused
      failed (inr (error, other, stop)) = no_stop error (error_line error) other stop

pub same_words : {a b c d : List ℕ} → replay_words a b ≡ replay_words c d → (a ≡ c) × (b ≡ d)
same_words e = (cc, cc)

pub asked_so : {O W C : Type 0} (g : Ghosts O W C) (told : PlaceTold) {folder path a b : List ℕ} (old new : Scene O) (status : ℕ) → a ≡ folder → b ≡ path
    → EndsReplay g told (record { folder = a; path = b; old = old; new = new }) status → EndsReplay g told (record { folder = folder; path = path; old = old; new = new }) status
asked_so g told {folder = folder} {path = path} {a = a} {b = b} old new status f p ends =
    subst (λ (x : List ℕ). EndsReplay g told (record { folder = folder; path = x; old = old; new = new }) status) p
    (subst (λ (x : List ℕ). EndsReplay g told (record { folder = x; path = b; old = old; new = new }) status) f ends)
