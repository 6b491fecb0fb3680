-- The events of readers: which files are read, why a read fails, and what is held afterwards.
use Rattle.std.proofs.Common.{◌≡◌, ◌≢◌, inl, inr, ℕ, zero, suc, ◌+◌, ◌<◌, Bool, true, false, true≢false, List, [], ◌∷◌, ◌++◌, map, length, take, drop, get_or, string_bytes, Option, Some, None, sym, ap, subst, ◌∙◌, arith, append_assoc}
use Rattle.std.proofs.Math.Logic.{⊎_map}
use Rattle.std.specs.Prelude.{String}
use Rattle.std.specs.Global.{Global}
use Rattle.std.proofs.lemmas.List.{take_more, map_push}
use Rattle.std.proofs.lemmas.Grind.{flat_map-append}
use Rattle.std.proofs.lemmas.Bool.{or_left, or_right}
use Rattle.tv_formats.specs.declared.segment.LiveSegment.{LiveSegment}
use Rattle.tv_formats.specs.Names.{is, has, is_file_name, at}
use Rattle.tv_formats.specs.Files.{Reads, Same, Rose}
use Rattle.tv_formats.specs.Footer.{HasBody}
use Rattle.tv_formats.specs.Segments.{required_names, all_required}
use Rattle.tv_machine.specs.State.{State, FileState, SealedFile, Open, Left, file_at}
use Rattle.tv_machine.specs.Lines.{given}
use Rattle.tv_machine.specs.CommitEvents.{is_sealed}
use Rattle.tv_machine.specs.Readable.{IsGoodFile}
use Rattle.tv_machine.specs.ReaderEvents.{body_in}
use Rattle.tv_formats.proofs.Entries.{is_itself, is_text}
use Rattle.tv_formats.proofs.Bodies.{body_of_good}
use Rattle.tv_formats.proofs.CollectedNames.{has_append}
use Rattle.tv_formats.proofs.Required.{by_one}
use Rattle.tv_machine.proofs.SoundStates.{sealed_is_some}
use Rattle.tv_base.specs.Errors.{of_open_read}
use Rattle.tv_base.specs.declared.io.IoFault.{IoFault}
use Rattle.tv_base.specs.declared.io.IoKind.{IoKind}
use Rattle.tv_base.specs.declared.io.IoKind.TheVariants.{Device, InvalidData, UnexpectedEof}
use Rattle.tv_base.specs.declared.open_errors.OpenReadError.{OpenReadError}
use Rattle.tv_base.specs.declared.open_errors.OpenReadError.TheVariants as read
use Rattle.tv_base.specs.declared.open_errors.OpenWriteError.{OpenWriteError}
use Rattle.tv_base.specs.declared.open_errors.OpenWriteError.TheVariants as write
use Rattle.tv_base.specs.declared.error.TantivyError.{TantivyError}
use Rattle.tv_base.specs.declared.open_errors.LockError.TheVariants as lock
use Rattle.tv_base.specs.declared.error.TantivyError.TheVariants as errors
use Rattle.tv_framing.specs.Footers.{Refuses}
use Rattle.tv_managed.specs.Reading.{HasNoBody, NamesFile, ReadsBody, OpenBodyCause, ReadsOther, ReadsRefused, ReadsSuch, SomeOther, SomeRefused}
use Rattle.tv_store.specs.StoreCauses.{IsBusy, MakesNoFile, WriteFault}
use Rattle.tv_store.specs.ReadCauses.{ReadFault, ApplyCause, LoadingCause, ReadFacts, reading_facts}
use Rattle.tv_store.specs.Bodies.{RefusesAt, RefusesFile, RefusesFirst, ReadsGoodFile, AreBodies, AreSealed, ReadsSegment, ReadsSegments, FailsAt, AreGood}
use Rattle.tv_catalog.specs.Kept.{KeptState}
use Rattle.tv_store.specs.Kept.{FileHolds, Holds}
use Rattle.tv_snapshots.proofs.ListLaws.{split_there}

-- ---- why the body of a file isn't read

-- a file whose bytes are refused
not_at_end : (kind : IoKind) → kind ≡ UnexpectedEof → kind ≢ Device
not_at_end kind e d = let same : UnexpectedEof ≡ Device = sym e ∙ d in cc

not_of_data : (kind : IoKind) → kind ≡ InvalidData → kind ≢ Device
not_of_data kind e d = let same : InvalidData ≡ Device = sym e ∙ d in cc

not_of_device : (bytes : List ℕ) (fault : IoFault) → Refuses bytes fault → fault.kind ≢ Device
not_of_device bytes fault (inl h) = not_at_end fault.kind h.is.0
not_of_device bytes fault (inr (inl h)) = not_of_data fault.kind h.is.0
not_of_device bytes fault (inr (inr (inl h))) = not_of_data fault.kind h.is.0
not_of_device bytes fault (inr (inr (inr (inl h)))) = not_at_end fault.kind h.is.0
not_of_device bytes fault (inr (inr (inr (inr h)))) = not_of_data fault.kind h.is.0

refused_at : (reads : Reads) (name : List ℕ) (error : OpenReadError) (bytes other : List ℕ) → reads name ≡ Some bytes → reads name ≡ Some other → RefusesFile bytes name error → HasNoBody other → RefusesAt reads name error
refused_at reads name error bytes other is is_other why none =
    let both : Some bytes ≡ Some other = sym is ∙ is_other in
    let same : other ≡ bytes = cc in
    record { bytes = bytes; there = is; why = why; no_body = subst HasNoBody same none }

fault_at : (reads : Reads) (name : List ℕ) (fault : IoFault) (path : String Global) → string_bytes path ≡ name → fault.kind ≢ Device
    → OpenBodyCause (reads name ≡ None) (ReadsRefused (reads name)) (ReadsOther (reads name)) (Unit {0}) (Unit {0}) (read.IoError fault path)
    → OpenBodyCause (Unit {0}) (λ _. ReadsSuch (reads name) HasNoBody) (λ _. ReadsSuch (reads name) HasNoBody) (Unit {0}) (Unit {0}) (read.IoError fault path)
    → RefusesAt reads name (read.IoError fault path)
fault_at reads name fault path is_name other (inl device) o = absurd (other device.0)
fault_at reads name fault path is_name other (inr h) (inl device) = absurd (other device.0)
fault_at reads name fault path is_name other (inr h) (inr o) = refused_at reads name (read.IoError fault path) h.0 o.0 h.1 o.1 (is_name, h.2) o.2

-- by what the managed directory says of it
body_cause : (tells : Type 0) (reads : Reads) (name : List ℕ) (refused quiet : Type 0) (error : OpenReadError)
    → is_file_name name ≡ true → OpenBodyCause quiet (λ fault. SomeRefused fault × quiet) (λ why. SomeOther why × quiet) refused quiet error → NamesFile name error
    → (tells → OpenBodyCause (reads name ≡ None) (ReadsRefused (reads name)) (ReadsOther (reads name)) (Unit {0}) (Unit {0}) error)
    → (tells → OpenBodyCause (Unit {0}) (λ _. ReadsSuch (reads name) HasNoBody) (λ _. ReadsSuch (reads name) HasNoBody) (Unit {0}) (Unit {0}) error)
    → ApplyCause (reading_facts refused quiet (λ error. tells → RefusesAt reads name error) (λ path. (path ≡ name) × (tells → reads path ≡ None))) (of_open_read error)
body_cause tells reads name refused quiet (read.FileDoesNotExist path) fits cause is_name err outside =
    (cause, subst (λ (p : List ℕ). is_file_name p ≡ true) (sym is_name) fits, (is_name, λ t. subst (λ (p : List ℕ). reads p ≡ None) (sym is_name) (err t)))
body_cause tells reads name refused quiet (read.IoError fault path) fits (inl device) is_name err outside = inl device
body_cause tells reads name refused quiet (read.IoError fault path) fits (inr (some, still)) is_name err outside =
    let other = not_of_device some.0 fault some.1 in
    inr (other, still, subst (λ (p : List ℕ). is_file_name p ≡ true) (sym is_name) fits, λ t. fault_at reads name fault path is_name other (err t) (outside t))
body_cause tells reads name refused quiet (read.IncompatibleIndex why) fits (some, still) is_name err outside =
    (still, λ t. refused_at reads name (read.IncompatibleIndex why) (err t).0 (outside t).0 (err t).1 (outside t).1 (err t).2 (outside t).2)
body_cause tells reads name refused quiet read.Memory fits cause is_name err outside = cause

-- the error of a read isn't that of a file that was to be made
pub reads_make_none : (error : OpenReadError) → MakesNoFile (of_open_read error)
reads_make_none read.Memory = tt
reads_make_none other = tt

-- seen from the directory's value
pub body_fails : {D : Type 0} (tells : Type 0) (reads : D → Reads) (faults : D → ℕ) (inside value after : D) (name given : List ℕ) (error : OpenReadError)
    → inside ≡ value → given ≡ name → is_file_name given ≡ true
    → OpenBodyCause (faults after ≡ faults inside) (λ fault. SomeRefused fault × (faults after ≡ faults inside)) (λ why. SomeOther why × (faults after ≡ faults inside)) (Rose (faults inside) (faults after)) (faults after ≡ faults inside) error → NamesFile given error
    → (tells → OpenBodyCause (reads inside given ≡ None) (ReadsRefused (reads inside given)) (ReadsOther (reads inside given)) (Unit {0}) (Unit {0}) error)
    → (tells → OpenBodyCause (Unit {0}) (λ _. ReadsSuch (reads inside given) HasNoBody) (λ _. ReadsSuch (reads inside given) HasNoBody) (Unit {0}) (Unit {0}) error)
    → ApplyCause (reading_facts (Rose (faults value) (faults after)) (faults after ≡ faults value) (λ error. tells → RefusesAt (reads value) name error) (λ path. (path ≡ name) × (tells → reads value path ≡ None))) (of_open_read error)
body_fails {D} tells reads faults inside value after name given error is_value text fits cause is_name err outside =
    subst (λ (n : List ℕ). ApplyCause (reading_facts (Rose (faults value) (faults after)) (faults after ≡ faults value) (λ error. tells → RefusesAt (reads value) n error) (λ path. (path ≡ n) × (tells → reads value path ≡ None))) (of_open_read error)) text
    (subst (λ (d : D). ApplyCause (reading_facts (Rose (faults d) (faults after)) (faults after ≡ faults d) (λ error. tells → RefusesAt (reads d) given error) (λ path. (path ≡ given) × (tells → reads d path ≡ None))) (of_open_read error)) is_value
    (body_cause tells (reads inside) given (Rose (faults inside) (faults after)) (faults after ≡ faults inside) error fits cause is_name err outside))

write_weaker : (refused more : Type 0) (error : OpenWriteError) → (refused → more) → WriteFault refused error → WriteFault more error
write_weaker refused more (write.IoError fault path) f h = (h.0, f h.1)
write_weaker refused more other f h = absurd h

read_weaker : (refused quiet refused2 quiet2 : Type 0) (bad bad2 : OpenReadError → Type 0) (absent absent2 : List ℕ → Type 0) (error : OpenReadError)
    → (refused → refused2) → (quiet → quiet2) → ((error : OpenReadError) → bad error → bad2 error) → ((path : List ℕ) → absent path → absent2 path)
    → ReadFault refused quiet bad absent error → ReadFault refused2 quiet2 bad2 absent2 error
read_weaker refused quiet refused2 quiet2 bad bad2 absent absent2 (read.IoError fault path) f g b a (inl h) = inl (h.0, f h.1)
read_weaker refused quiet refused2 quiet2 bad bad2 absent absent2 (read.IoError fault path) f g b a (inr h) = inr (h.0, g h.1, h.2, b (read.IoError fault path) h.3)
read_weaker refused quiet refused2 quiet2 bad bad2 absent absent2 (read.FileDoesNotExist path) f g b a h = (g h.0, h.1, a (string_bytes path) h.2)
read_weaker refused quiet refused2 quiet2 bad bad2 absent absent2 (read.IncompatibleIndex why) f g b a h = (g h.0, b (read.IncompatibleIndex why) h.1)
read_weaker refused quiet refused2 quiet2 bad bad2 absent absent2 other f g b a h = absurd h

-- a cause that says more
pub cause_weaker : (facts more : ReadFacts) (error : TantivyError) → (facts.busy → more.busy) → (facts.refused → more.refused) → (facts.quiet → more.quiet) → (facts.spent → more.spent)
    → ((error : OpenReadError) → facts.bad error → more.bad error) → ((path : List ℕ) → facts.absent path → more.absent path) → ApplyCause facts error → ApplyCause more error
cause_weaker facts more (errors.IoError fault) y f g k b a h = (h.0, f h.1)
cause_weaker facts more (errors.OpenWriteError error) y f g k b a h = write_weaker facts.refused more.refused error f h
cause_weaker facts more (errors.OpenReadError error) y f g k b a h = read_weaker facts.refused facts.quiet more.refused more.quiet facts.bad more.bad facts.absent more.absent error f g b a h
cause_weaker facts more (errors.LockFailure lock.LockBusy text) y f g k b a h = (y h.0, h.1)
cause_weaker facts more (errors.LockFailure (lock.IoError fault) text) y f g k b a h = ((h.0.0, f h.0.1), h.1)
cause_weaker facts more (errors.LockFailure lock.Memory text) y f g k b a h = absurd h.0
cause_weaker facts more errors.Exhausted y f g k b a h = (g h.0, k h.1)
cause_weaker facts more errors.Memory y f g k b a h = g h
cause_weaker facts more other y f g k b a h = absurd h

-- the same of one that loads the commit
pub loading_weaker : (facts more : ReadFacts) (load load2 : TantivyError → Type 0) (error : TantivyError) → (facts.busy → more.busy) → (facts.refused → more.refused) → (facts.quiet → more.quiet) → (facts.spent → more.spent)
    → ((error : TantivyError) → load error → load2 error) → ((error : OpenReadError) → facts.bad error → more.bad error) → ((path : List ℕ) → facts.absent path → more.absent path) → LoadingCause facts load error → LoadingCause more load2 error
loading_weaker facts more load load2 (errors.DataCorruption why) y f g k u b a h = u (errors.DataCorruption why) h
loading_weaker facts more load load2 (errors.SchemaError text) y f g k u b a h = u (errors.SchemaError text) h
loading_weaker facts more load load2 other y f g k u b a h = cause_weaker facts more other y f g k b a h

-- one that read files alone
pub loading_of : (facts : ReadFacts) (load : TantivyError → Type 0) (error : TantivyError) → ApplyCause facts error → LoadingCause facts load error
loading_of facts load (errors.DataCorruption why) h = absurd h
loading_of facts load (errors.SchemaError text) h = absurd h
loading_of facts load other h = h

-- ---- names of a list

-- a name that stands in a list
has_at : (names : List (List ℕ)) (i : ℕ) (name : List ℕ) → i < length names → name ≡ get_or names i name → has names name ≡ true
has_at [] i name within at_i = absurd (omega arith)
has_at (x ∷ xs) zero name within at_i = or_left (is x name) (has xs name) (subst (λ (m : List ℕ). is m name ≡ true) at_i (is_itself name))
has_at (x ∷ xs) (suc i) name within at_i = or_right (is x name) (has xs name) (has_at xs i name (omega arith) at_i)

-- what is true of some names and of one more
pub all_pushed : (P : List ℕ → Type 0) (names : List (List ℕ)) (name : List ℕ) → ((n : List ℕ) → has names n ≡ true → P n) → P name → (n : List ℕ) → has (names ++ name ∷ []) n ≡ true → P n
all_pushed P names name h p n among =
    by_one {P = P n} (has names n) (has (name ∷ []) n) (sym (has_append names (name ∷ []) n) ∙ among) (h n)
    (λ one. by_one {P = P n} (is name n) false one (λ same. subst P (is_text name n same) p) (λ never. absurd (true≢false (sym never))))

-- ---- sealed files

-- the bytes of a sealed file are those that its name reads
sealed_bytes : (file : Option FileState) (bytes : List ℕ) (written : Option (List ℕ)) → is_sealed file ≡ true → FileHolds file (Some bytes) written → file ≡ Some (SealedFile bytes)
sealed_bytes None bytes written h holds = absurd (true≢false (sym h))
sealed_bytes (Some (Open body)) bytes written h holds = absurd (true≢false (sym h))
sealed_bytes (Some Left) bytes written h holds = absurd (true≢false (sym h))
sealed_bytes (Some (SealedFile other)) bytes written h holds =
    let same : Some bytes ≡ Some other = holds.0 in
    let one : bytes ≡ other = cc in
    ap (λ (b : List ℕ). Some (SealedFile b)) (sym one)

-- it is there
sealed_reads : (file : Option FileState) (written : Option (List ℕ)) → is_sealed file ≡ true → FileHolds file None written → ⊥
sealed_reads None written h holds = true≢false (sym h)
sealed_reads (Some (Open body)) written h holds = true≢false (sym h)
sealed_reads (Some Left) written h holds = true≢false (sym h)
sealed_reads (Some (SealedFile other)) written h holds = let never : None ≡ Some other = holds.0 in cc

sealed_holds : (reads : Reads) (kept : KeptState) (s : State) (n : List ℕ) → Holds reads kept s → is_sealed (file_at s n) ≡ true → FileHolds (file_at s n) (reads n) (at kept.open_files n)
sealed_holds reads kept s n held h = held.files n (held.names n (sealed_is_some (file_at s n) h))

pub read_is_sealed : (reads : Reads) (kept : KeptState) (s : State) (n bytes : List ℕ) → Holds reads kept s → is_sealed (file_at s n) ≡ true → reads n ≡ Some bytes → file_at s n ≡ Some (SealedFile bytes)
read_is_sealed reads kept s n bytes held h e =
    sealed_bytes (file_at s n) bytes (at kept.open_files n) h (subst (λ (r : Option (List ℕ)). FileHolds (file_at s n) r (at kept.open_files n)) e (sealed_holds reads kept s n held h))

pub sealed_is_there : (reads : Reads) (kept : KeptState) (s : State) (n : List ℕ) → Holds reads kept s → is_sealed (file_at s n) ≡ true → reads n ≡ None → ⊥
sealed_is_there reads kept s n held h e =
    sealed_reads (file_at s n) (at kept.open_files n) h (subst (λ (r : Option (List ℕ)). FileHolds (file_at s n) r (at kept.open_files n)) e (sealed_holds reads kept s n held h))

good_file : (s : State) (n bytes body : List ℕ) → file_at s n ≡ Some (SealedFile bytes) → HasBody bytes body → IsGoodFile s n
good_file s n bytes body file has_body = (bytes, file, record { body = body; has_body = has_body })

-- ---- the bodies of some files

-- one more was read
pub bodies_more : (reads : Reads) (kept : KeptState) (s : State) (names : List (List ℕ)) (i : ℕ) (name body : List ℕ) (bodies more : List (List ℕ))
    → i < length names → name ≡ get_or names i name → AreSealed s names → Holds reads kept s → ReadsBody (reads name) body → more ≡ bodies ++ body ∷ []
    → AreBodies s (take i names) bodies → AreBodies s (take (i + 1) names) more
bodies_more reads kept s names i name body bodies more within at_i sealed held reads_body put so_far =
    let file : file_at s name ≡ Some (SealedFile reads_body.0) = read_is_sealed reads kept s name reads_body.0 held (sealed.each name (has_at names i name within at_i)) reads_body.1 in
    let shown : body_in (file_at s name) ≡ body = ap body_in file ∙ body_of_good reads_body.0 body reads_body.2 in
    let front : take (i + 1) names ≡ take i names ++ name ∷ [] = take_more names i name within ∙ ap (λ (n : List ℕ). take i names ++ n ∷ []) (sym at_i) in
    subst (λ (ns : List (List ℕ)). AreBodies s ns more) (sym front) (record {
      each =
          put
          ∙ ap (λ (bs : List (List ℕ)). bs ++ body ∷ []) so_far.each
          ∙ ap (λ (b : List ℕ). map (λ n. body_in (file_at s n)) (take i names) ++ b ∷ []) (sym shown)
          ∙ sym (map_push (λ n. body_in (file_at s n)) (take i names) name);
      good = all_pushed (IsGoodFile s) (take i names) name so_far.good (good_file s name reads_body.0 body file reads_body.2);
    })

pub refused_before : (first now : Reads) (path : List ℕ) (error : OpenReadError) → Same first now → RefusesAt now path error → RefusesAt first path error
refused_before first now path error same h = record { bytes = h.bytes; there = sym (same path) ∙ h.there; why = h.why; no_body = h.no_body }

-- one more can be read
pub good_more : (reads : Reads) (names : List (List ℕ)) (i : ℕ) (name body : List ℕ) → i < length names → name ≡ get_or names i name → ReadsBody (reads name) body
    → ((n : List ℕ) → has (take i names) n ≡ true → ReadsGoodFile (reads n)) → (n : List ℕ) → has (take (i + 1) names) n ≡ true → ReadsGoodFile (reads n)
good_more reads names i name body within at_i read so_far n among =
    let front : take (i + 1) names ≡ take i names ++ name ∷ [] = take_more names i name within ∙ ap (λ (x : List ℕ). take i names ++ x ∷ []) (sym at_i) in
    all_pushed (λ m. ReadsGoodFile (reads m)) (take i names) name so_far (read.0, read.1, record { body = body; has_body = read.2 }) n (subst (λ (ns : List (List ℕ)). has ns n ≡ true) front among)

pub good_before : (first now : Reads) (n : List ℕ) → Same first now → ReadsGoodFile (now n) → ReadsGoodFile (first n)
good_before first now n same h = (h.0, sym (same n) ∙ h.1, h.2)

-- one of them isn't read
pub fails_here : (tells : Type 0) (first now : Reads) (names : List (List ℕ)) (i : ℕ) (name : List ℕ) (start before after : ℕ) (error : TantivyError)
    → (tells → Same first now) → before ≡ start → i < length names → name ≡ get_or names i name
    → (tells → (n : List ℕ) → has (take i names) n ≡ true → ReadsGoodFile (first n))
    → ApplyCause (reading_facts (Rose before after) (after ≡ before) (λ error. tells → RefusesAt now name error) (λ path. (path ≡ name) × (tells → now path ≡ None))) error
    → FailsAt tells first names (Rose start after) (after ≡ start) error
fails_here tells first now names i name start before after error same quiet within at_i so_far h =
    let there : has names name ≡ true = has_at names i name within at_i in
    cause_weaker (reading_facts (Rose before after) (after ≡ before) (λ error. tells → RefusesAt now name error) (λ path. (path ≡ name) × (tells → now path ≡ None)))
    (reading_facts (Rose start after) (after ≡ start) (RefusesFirst tells first names) (λ path. (has names path ≡ true) × (tells → first path ≡ None))) error
    (λ never. never) (λ rose. subst (λ (x : ℕ). Rose x after) quiet rose) (λ still. still ∙ quiet) (λ never. never)
    (λ error b. record { front = take i names; path = name; rest = drop (i + 1) names; split = split_there names i name within at_i; good = so_far; refuses = λ t. refused_before first now name error (same t) (b t) })
    (λ path a. (subst (λ (p : List ℕ). has names p ≡ true) (sym a.0) there, λ t. sym (same t path) ∙ a.1 t)) h

-- ---- the segments of a commit

-- what a segment requires is among what its commit does
has_required : (segments : List (List ℕ × LiveSegment)) (i : ℕ) (entry : List ℕ × LiveSegment) (n : List ℕ)
    → i < length segments → entry ≡ get_or segments i entry → has (required_names entry.0 entry.1) n ≡ true → has (all_required segments) n ≡ true
has_required [] i entry n within at_i h = absurd (omega arith)
has_required (e ∷ es) zero entry n within at_i h =
    has_append (required_names e.0 e.1) (all_required es) n
    ∙ or_left _ _ (subst (λ (x : List ℕ × LiveSegment). has (required_names x.0 x.1) n ≡ true) at_i h)
has_required (e ∷ es) (suc i) entry n within at_i h =
    has_append (required_names e.0 e.1) (all_required es) n ∙ or_right _ _ (has_required es i entry n (omega arith) at_i h)

-- the files of one of some segments are sealed where those of all are
pub segment_is_sealed : (s : State) (segments : List (List ℕ × LiveSegment)) (i : ℕ) (entry : List ℕ × LiveSegment)
    → i < length segments → entry ≡ get_or segments i entry → AreSealed s (all_required segments) → AreSealed s (required_names entry.0 entry.1)
segment_is_sealed s segments i entry within at_i all = record { each = λ n h. all.each n (has_required segments i entry n within at_i h) }

required_pushed : (P : List ℕ → Type 0) (segments : List (List ℕ × LiveSegment)) (entry : List ℕ × LiveSegment)
    → ((n : List ℕ) → has (all_required segments) n ≡ true → P n) → ((n : List ℕ) → has (required_names entry.0 entry.1) n ≡ true → P n)
    → (n : List ℕ) → has (all_required (segments ++ entry ∷ [])) n ≡ true → P n
required_pushed P [] entry h p n among =
    by_one {P = P n} (has (required_names entry.0 entry.1) n) false (sym (has_append (required_names entry.0 entry.1) [] n) ∙ among) (p n) (λ never. absurd (true≢false (sym never)))
required_pushed P (e ∷ es) entry h p n among =
    by_one {P = P n} (has (required_names e.0 e.1) n) (has (all_required (es ++ entry ∷ [])) n) (sym (has_append (required_names e.0 e.1) (all_required (es ++ entry ∷ [])) n) ∙ among)
    (λ k. h n (has_append (required_names e.0 e.1) (all_required es) n ∙ or_left _ _ k))
    (required_pushed P es entry (λ m k. h m (has_append (required_names e.0 e.1) (all_required es) m ∙ or_right _ _ k)) p n)

-- one more was
pub read_more : (s : State) (segments : List (List ℕ × LiveSegment)) (i : ℕ) (entry : List ℕ × LiveSegment) (read_id : List ℕ) (read_segment : LiveSegment) (bodies : List (List ℕ))
    (shown shown_more : List (List ℕ × LiveSegment)) (all all_more : List (List (List ℕ)))
    → i < length segments → entry ≡ get_or segments i entry → ReadsSegment s entry.0 entry.1 read_id read_segment bodies
    → shown_more ≡ shown ++ (read_id, read_segment) ∷ [] → all_more ≡ all ++ bodies ∷ []
    → ReadsSegments s (take i segments) shown all → ReadsSegments s (take (i + 1) segments) shown_more all_more
read_more s segments i entry read_id read_segment bodies shown shown_more all all_more within at_i reads_segment put put_bodies so_far =
    let front : take (i + 1) segments ≡ take i segments ++ entry ∷ [] = take_more segments i entry within ∙ ap (λ (e : List ℕ × LiveSegment). take i segments ++ e ∷ []) (sym at_i) in
    let is_entry : (read_id, read_segment) ≡ entry =
    ap (λ (id : List ℕ). (id, read_segment)) reads_segment.id_is ∙ ap (λ (segment : LiveSegment). (entry.0, segment)) reads_segment.segment_is in
    subst (λ (es : List (List ℕ × LiveSegment)). ReadsSegments s es shown_more all_more) (sym front) (record {
      are =
          put
          ∙ ap (λ (es : List (List ℕ × LiveSegment)). es ++ (read_id, read_segment) ∷ []) so_far.are
          ∙ ap (λ (e : List ℕ × LiveSegment). take i segments ++ e ∷ []) is_entry;
      each =
          put_bodies
          ∙ ap (λ (bs : List (List (List ℕ))). bs ++ bodies ∷ []) so_far.each
          ∙ ap (λ (b : List (List ℕ)). map (λ e. map (λ name. body_in (file_at s name)) (required_names e.0 e.1)) (take i segments) ++ b ∷ []) reads_segment.bodies_are.each
          ∙ sym (map_push (λ e. map (λ name. body_in (file_at s name)) (required_names e.0 e.1)) (take i segments) entry);
      good = record { each = required_pushed (IsGoodFile s) (take i segments) entry so_far.good.each reads_segment.bodies_are.good };
    })

required_split : (segments : List (List ℕ × LiveSegment)) (i : ℕ) (entry : List ℕ × LiveSegment) → i < length segments → entry ≡ get_or segments i entry
    → all_required segments ≡ all_required (take i segments) ++ (required_names entry.0 entry.1 ++ all_required (drop (i + 1) segments))
required_split segments i entry within at_i =
    ap all_required (split_there segments i entry within at_i)
    ∙ flat_map-append (λ (e : List ℕ × LiveSegment). required_names e.0 e.1) (take i segments) (entry ∷ drop (i + 1) segments)

-- in the middle of the files of a segment
between : (before front rest after names : List (List ℕ)) (path : List ℕ) → names ≡ front ++ path ∷ rest → before ++ (names ++ after) ≡ (before ++ front) ++ path ∷ (rest ++ after)
between before front rest after names path e =
    ap (λ (ns : List (List ℕ)). before ++ (ns ++ after)) e
    ∙ ap (λ (ns : List (List ℕ)). before ++ ns) (append_assoc front (path ∷ rest) after)
    ∙ sym (append_assoc before front (path ∷ (rest ++ after)))

pub has_middle : (names front rest : List (List ℕ)) (path : List ℕ) → names ≡ front ++ path ∷ rest → has names path ≡ true
has_middle names front rest path e =
    ap (λ (ns : List (List ℕ)). has ns path) e ∙ has_append front (path ∷ rest) path
    ∙ or_right (has front path) (has (path ∷ rest) path) (or_left (is path path) (has rest path) (is_itself path))

-- a file of one of some segments isn't read
pub segments_fail : (tells : Type 0) (first now : Reads) (segments : List (List ℕ × LiveSegment)) (i : ℕ) (entry : List ℕ × LiveSegment) (start before after : ℕ) (error : TantivyError)
    → (tells → Same first now) → before ≡ start → i < length segments → entry ≡ get_or segments i entry → (tells → AreGood first (all_required (take i segments)))
    → FailsAt tells now (required_names entry.0 entry.1) (Rose before after) (after ≡ before) error
    → FailsAt tells first (all_required segments) (Rose start after) (after ≡ start) error
segments_fail tells first now segments i entry start before after error same quiet within at_i so_far h =
    cause_weaker (reading_facts (Rose before after) (after ≡ before) (RefusesFirst tells now (required_names entry.0 entry.1)) (λ path. (has (required_names entry.0 entry.1) path ≡ true) × (tells → now path ≡ None)))
    (reading_facts (Rose start after) (after ≡ start) (RefusesFirst tells first (all_required segments)) (λ path. (has (all_required segments) path ≡ true) × (tells → first path ≡ None))) error
    (λ never. never) (λ rose. subst (λ (x : ℕ). Rose x after) quiet rose) (λ still. still ∙ quiet) (λ never. never)
    (λ error b. record {
      front = all_required (take i segments) ++ b.front;
      path = b.path;
      rest = b.rest ++ all_required (drop (i + 1) segments);
      split =
          required_split segments i entry within at_i
          ∙ between (all_required (take i segments)) b.front b.rest (all_required (drop (i + 1) segments)) (required_names entry.0 entry.1) b.path b.split;
      good = λ t n among.
          by_one {P = ReadsGoodFile (first n)} (has (all_required (take i segments)) n) (has b.front n) (sym (has_append (all_required (take i segments)) b.front n) ∙ among)
          (so_far t n) (λ k. good_before first now n (same t) (b.good t n k));
      refuses = λ t. refused_before first now b.path error (same t) (b.refuses t);
    })
    (λ path a. (has_required segments i entry path within at_i a.0, λ t. sym (same t path) ∙ a.1 t)) h

-- the files of one more can be read
pub segments_good : (first now : Reads) (segments : List (List ℕ × LiveSegment)) (i : ℕ) (entry : List ℕ × LiveSegment) → Same first now → i < length segments → entry ≡ get_or segments i entry
    → AreGood first (all_required (take i segments)) → AreGood now (required_names entry.0 entry.1) → AreGood first (all_required (take (i + 1) segments))
segments_good first now segments i entry same within at_i so_far more =
    let front : take (i + 1) segments ≡ take i segments ++ entry ∷ [] = take_more segments i entry within ∙ ap (λ (e : List ℕ × LiveSegment). take i segments ++ e ∷ []) (sym at_i) in
    subst (λ (es : List (List ℕ × LiveSegment)). AreGood first (all_required es)) (sym front)
    (required_pushed (λ n. ReadsGoodFile (first n)) (take i segments) entry so_far (λ n h. good_before first now n same (more n h)))

-- a lock that isn't given, seen from before a call that changed nothing
pub busy_before : (tells_locks : Type 0) (held held2 : Bool) (start before : ℕ) {after : ℕ} → (tells_locks → held ≡ held2) → before ≡ start
    → IsBusy tells_locks (held ≡ true) (Rose before after) → IsBusy tells_locks (held2 ≡ true) (Rose start after)
busy_before tells_locks held held2 start before {after} same quiet h = record {
  told = λ t. sym (same t) ∙ h.told t;
  untold = ⊎_map (λ t. t) (λ rose. subst (λ (x : ℕ). Rose x after) quiet rose) h.untold;
}
