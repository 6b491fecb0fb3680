-- What a step can do to a state: a property that each such change leads to holds after the step.
use Rattle.std.proofs.Common.{◌≡◌, ◌≢◌, ◌≤◌, ◌⊎◌, inl, inr, ℕ, Bool, false, List, [], ◌∷◌, ◌++◌, Option, Some, None, refl, sym, ap, subst, codes, arith, ◌==◌, ◌+◌, true, true≢false, cond, filter}
use Rattle.std.specs.Prelude.{is_some, option_map, nat_lt}
use Rattle.std.proofs.lemmas.Bool.{and_parts, or_parts}
use Rattle.std.proofs.lemmas.Bool.Decides.{nat_tests}
use Rattle.std.specs.Fmt.{decimal}
use Rattle.hex.specs.Hex.{encode_lower}
use Rattle.tv_events.specs.declared.event.Event.{Event}
use Rattle.tv_events.specs.declared.event.Event.TheVariants as events
use Rattle.tv_formats.specs.Commits.{Commit}
use Rattle.tv_formats.specs.declared.segment.LiveSegment.{LiveSegment}
use Rattle.tv_formats.specs.declared.segment.SegmentComponent.{SegmentComponent}
use Rattle.tv_formats.specs.Footer.{IsGood, sealed}
use Rattle.tv_formats.specs.Segments.{name_of, fresh_segment}
use Rattle.tv_machine.specs.State.{Catalog, State, StepResult, FileState, SealedFile, Open, Left, Readers, Reader, Reload, Locked, Read, Snapshot, live_at, file_at, with_file, with_live, reader_at, searcher_at, on_catalog}
use Rattle.tv_formats.specs.Names.{at, has}
use Rattle.tv_events.specs.AnswerLines.{line}
use Rattle.tv_machine.specs.Lines.{words_of, refuse, unless, given}
use Rattle.tv_machine.specs.SegmentEvents.{is_in_use, has_docs}
use Rattle.tv_machine.specs.FileEvents.{opened, lacks_deletes, written_to}
use Rattle.tv_machine.specs.CommitEvents.{last_stamp, chosen, first_unknown, first_unsealed, committed}
use Rattle.tv_formats.specs.Collections.{Collection, collection_at, held}
use Rattle.tv_machine.specs.CollectionEvents.{collected, collection_begun, having_deleted, is_done, tried_first, ended, released}
use Rattle.tv_machine.specs.DeleteEvents.{delete_name, next_deletes, is_committed_delete, is_name_in_use, having_deleted_docs}
use Rattle.tv_machine.specs.ReopenEvents.{reopened}
use Rattle.tv_machine.specs.Living.{holds_lock, is_busy, unread_by}
use Rattle.tv_machine.specs.ReaderEvents.{bodies_in, reader_added, reload_refusals, reloaded, snapshot_in, without_reader}
use Rattle.tv_machine.specs.ReloadEvents.{commit_noted, deliver_refusals, published, served, snapshot_read, with_served}
use Rattle.tv_machine.specs.SearcherEvents.{with_searcher, without_searcher, body_at}
use Rattle.tv_machine.specs.ReportEvents.{committed_names, first_unreadable, damaged_files}
use Rattle.tv_machine.specs.Machine.{Turn, catalog_step, isnt_reopening, step, after}
use Rattle.tv_formats.proofs.Bodies.{sealed_is_good}
use Rattle.tv_machine.proofs.ReaderMoves.{ReaderMove, IsTold, Shows, Notes, Opens, Publishes, ReadersMove, Comes, Changes, AllChange, Leaves, Searches, Ends}
use Rattle.std.specs.List.{AllByRecursion, list_all, list_any}

-- ---- a step that may refuse

-- of each refusal, and of the result where none of their conditions holds
pub unless_all : {S : Type 0} (P : StepResult S → Type 0) (s : S) (refusals : List (Bool × List (List ℕ))) (result : StepResult S) → ((words : List (List ℕ)) → P (refuse s words)) → (AllByRecursion (λ refusal. refusal.0 ≡ false) refusals → P result) → P (unless s refusals result)
unless_all P s [] result h k = k tt
unless_all P s (refusal ∷ refusals) result h k = either refusal.0 (λ e. unless_all P s refusals result h (λ none. k (e, none))) where
  either : (b : Bool) → (b ≡ false → P (unless s refusals result)) → P (cond b (refuse s refusal.1) (unless s refusals result))
  either true told = h refusal.1
  either false told = told refl

-- of the refusal, and of the result where what has to be there is
pub given_all : {S X : Type 0} (P : StepResult S → Type 0) (s : S) (x : Option X) (word : List ℕ) (result : X → StepResult S) → P (refuse s (word ∷ [])) → ((y : X) → x ≡ Some y → P (result y)) → P (given s x word result)
given_all P s None word result h k = h
given_all P s (Some x) word result h k = k x refl

-- how a segment comes to have its numbers in a step
pub data SegmentMove (s : State) (id : List ℕ) : LiveSegment → Type 0 where
  -- it is a new one, under an id that nothing has
  IsNew : is_in_use s.catalog s.managed id ≡ false → SegmentMove s id fresh_segment
  -- it gets its documents, of which it had none
  HasDocs : (n : ℕ) (segment : LiveSegment) → live_at s.catalog id ≡ Some segment → has_docs segment ≡ false → SegmentMove s id (record segment { max_doc = n })

-- a live segment may have so many deleted documents from now on
pub record MayDelete (s : State) (id : List ℕ) (n : ℕ) (segment : LiveSegment) : Type 0 where
  pub there : live_at s.catalog id ≡ Some segment
  pub within : n ≤ segment.max_doc
  pub last : s.catalog.next ≢ last_stamp
  pub spared : has (held s.collections) (delete_name id (Some (next_deletes s.catalog n))) ≡ false
  pub fresh : has s.managed (delete_name id (Some (next_deletes s.catalog n))) ≡ false

-- what holds of each state to which this event can lead
pub record OfEachChange (P : State → Type 0) (s : State) (event : Event) : Type 0 where
  -- nothing changes
  pub same : P s
  -- a segment is live, with these numbers
  pub lives : (id : List ℕ) (segment : LiveSegment) → SegmentMove s id segment → P (record s { catalog = with_live s.catalog id segment })
  -- who reads changes
  pub reads : (now : Readers) → ReadersMove s now → P (record s { catalog = record s.catalog { reading = now } })
  -- a file of a live segment comes
  pub opens : (id : List ℕ) (segment : LiveSegment) (component : SegmentComponent) → event ≡ events.Open id component → live_at s.catalog id ≡ Some segment
      → is_some (file_at s (name_of id segment.deletes component)) ≡ false → P (opened s (name_of id segment.deletes component)).1
  -- an open file is another one, or is sealed with its footer
  pub puts : (name body : List ℕ) (file : FileState) → file_at s name ≡ Some (Open body) → ((bytes : List ℕ) → file ≡ SealedFile bytes → IsGood bytes) → P (with_file s name file)
  -- live segments whose files are sealed are committed
  pub commits : (payload : Option (List ℕ)) (ids : List (List ℕ)) → s.catalog.next ≢ last_stamp → first_unsealed s (chosen s.catalog ids) ≡ None → P (on_catalog s (committed s.catalog payload (chosen s.catalog ids))).1
  -- files that nothing needs are gone
  pub collects : (outcomes : List Bool) → is_busy s.catalog ≡ false → P (collected s outcomes).1
  -- a segment is live no more
  pub releases : (id : List ℕ) (segment : LiveSegment) → P (released s id segment).1
  -- documents of a segment are deleted
  pub deletes : (id : List ℕ) (n : ℕ) (segment : LiveSegment) → MayDelete s id n segment → P (having_deleted_docs s id n segment).1
  -- a collection begins
  pub begins : is_busy s.catalog ≡ false → P (collection_begun s).1
  -- it tries a name
  pub tries : (number : ℕ) (c : Collection) (name : List ℕ) (left : List (List ℕ)) (is_done : Bool) → event ≡ events.GcStep number → collection_at s.collections number ≡ Some c → c.untried ≡ name ∷ left → P (having_deleted s number c name left is_done).1
  -- it is finished
  pub finishes : (number : ℕ) (c : Collection) → event ≡ events.GcEnd number → collection_at s.collections number ≡ Some c → P (ended s number c).1
  -- the index is opened again
  pub reopens : event ≡ events.Reopen → P (reopened s)

pub other : (a b : ℕ) → (a == b) ≡ false → a ≢ b
other a b e = grind (arith, nat_tests)

not_less : (a b : ℕ) → nat_lt a b ≡ false → b ≤ a
not_less a b e = grind (arith, nat_tests)

pub none_is : {X : Type 0} (x : Option X) → is_some x ≡ false → x ≡ None
none_is None e = refl
none_is (Some x) e = absurd cc

-- what was written is that of an open file
is_open : (file : Option FileState) (body : List ℕ) → written_to file ≡ Some body → file ≡ Some (Open body)
is_open None body e = absurd cc
is_open (Some (SealedFile bytes)) body e = absurd cc
is_open (Some (Open bytes)) body e = cc
is_open (Some Left) body e = absurd cc

sealed_is : (body bytes : List ℕ) → SealedFile (sealed body) ≡ SealedFile bytes → bytes ≡ sealed body
sealed_is body bytes e = cc

-- what holds of each change that an event makes that touches no file
pub record OfEachCatalog (P : Catalog → Type 0) (c : Catalog) (managed : List (List ℕ)) (event : Event) : Type 0 where
  pub same : P c
  pub fresh : (id : List ℕ) → event ≡ events.Segment id → is_in_use c managed id ≡ false → P (with_live c id fresh_segment)
  pub said : (id : List ℕ) (n : ℕ) (segment : LiveSegment) → event ≡ events.Docs id n → live_at c id ≡ Some segment → has_docs segment ≡ false → P (with_live c id (record segment { max_doc = n }))
  pub publishes : (number : ℕ) (reader : Reader) (noted : Commit) (bodies : List (List (List ℕ))) → event ≡ events.ReloadPublish number → reader_at c number ≡ Some reader → reader.reload ≡ Some (Read noted bodies)
      → P (published c number reader (record { generation = reader.next; commit = noted; bodies = bodies })).1
  pub shows : (number : ℕ) (reader : Reader) → event ≡ events.Searcher number → reader_at c number ≡ Some reader → P (with_searcher c reader.shown)
  pub reader : (number : ℕ) → P (without_reader c number)
  pub searcher : (number : ℕ) → P (without_searcher c number)

-- a commit that a reload has noted and that is unread is noted by one that holds the lock
pub unread_is : (reload : Option Reload) (noted : Commit) → unread_by reload ≡ Some noted → reload ≡ Some (Locked noted)
unread_is None noted e = absurd cc
unread_is (Some (Locked commit)) noted e = let same : commit ≡ noted = cc in ap (λ (c : Commit). Some (Locked c)) same
unread_is (Some (Read commit bodies)) noted e = absurd cc

-- what was read is of a reload whose files are read
read_is : (next : ℕ) (reload : Option Reload) (shown : Snapshot) → snapshot_read next reload ≡ Some shown
    → (noted : Commit) × (bodies : List (List (List ℕ))) × (reload ≡ Some (Read noted bodies)) × (record { generation = next; commit = noted; bodies = bodies } ≡ shown)
read_is next None shown e = absurd cc
read_is next (Some (Locked commit)) shown e = absurd cc
read_is next (Some (Read commit bodies)) shown e = (commit, bodies, refl, cc)

pub the_step : {S : Type 0} {a b : S} → Some a ≡ Some b → a ≡ b
the_step e = cc

-- the end of a reader whose reload doesn't hold the meta lock is a step of the catalog alone
plainly : {S : Type 0} (holds : Bool) (step result : S) → cond holds None (Some step) ≡ Some result → step ≡ result
plainly true step result e = absurd cc
plainly false step result e = the_step e

-- such an event makes one of these changes
pub catalog_changes : (P : Catalog → Type 0) (c : Catalog) (managed : List (List ℕ)) (event : Event) (result : StepResult Catalog) → OfEachCatalog P c managed event → catalog_step c managed event ≡ Some result → P result.1
catalog_changes P c managed (events.Segment id) result of e =
    subst (λ (t : StepResult Catalog). P t.1) (the_step e)
    (unless_all (λ t. P t.1) c ((is_in_use c managed id, codes "id-in-use" ∷ []) ∷ []) (line (codes "segment") (encode_lower id ∷ []), with_live c id fresh_segment) (λ words. of.same) (λ none. of.fresh id refl none.0))
catalog_changes P c managed (events.Docs id n) result of e =
    subst (λ (t : StepResult Catalog). P t.1) (the_step e)
    (given_all (λ t. P t.1) c (live_at c id) _ _ of.same (λ segment there.
    unless_all (λ t. P t.1) c ((has_docs segment, codes "wrong-docs" ∷ []) ∷ []) (line (codes "docs") (encode_lower id ∷ decimal n ∷ []), with_live c id (record segment { max_doc = n })) (λ words. of.same) (λ none. of.said id n segment refl there none.0)))
catalog_changes P c managed (events.ReloadPublish number) result of e =
    subst (λ (t : StepResult Catalog). P t.1) (the_step e)
    (given_all (λ t. P t.1) c (reader_at c number) _ _ of.same (λ reader there.
    given_all (λ t. P t.1) c (snapshot_read reader.next reader.reload) _ _ of.same (λ shown is.
    let read = read_is reader.next reader.reload shown is in
    subst (λ (shown : Snapshot). P (published c number reader shown).1) read.3 (of.publishes number reader read.0 read.1 refl there read.2))))
catalog_changes P c managed (events.Searcher number) result of e =
    subst (λ (t : StepResult Catalog). P t.1) (the_step e) (given_all (λ t. P t.1) c (reader_at c number) _ _ of.same (λ reader there. of.shows number reader refl there))
catalog_changes P c managed (events.Show number) result of e =
    subst (λ (t : StepResult Catalog). P t.1) (the_step e) (given_all (λ t. P t.1) c (searcher_at c number) _ _ of.same (λ shown there. of.same))
catalog_changes P c managed (events.Bytes number ord component) result of e =
    subst (λ (t : StepResult Catalog). P t.1) (the_step e)
    (given_all (λ t. P t.1) c (searcher_at c number) _ _ of.same (λ shown there. given_all (λ t. P t.1) c (body_at shown ord component) _ _ of.same (λ body found. of.same)))
catalog_changes P c managed (events.ReleaseReader number) result of e =
    subst (λ (t : StepResult Catalog). P t.1) (plainly (holds_lock c number) _ _ e) (given_all (λ t. P t.1) c (reader_at c number) _ _ of.same (λ reader there. of.reader number))
catalog_changes P c managed (events.ReleaseSearcher number) result of e =
    subst (λ (t : StepResult Catalog). P t.1) (the_step e) (given_all (λ t. P t.1) c (searcher_at c number) _ _ of.same (λ shown there. of.searcher number))
catalog_changes P c managed events.Managed result of e = subst (λ (t : StepResult Catalog). P t.1) (the_step e) of.same
catalog_changes P c managed other result of e = absurd cc

-- it is a step of the machine
pub lifted : (s : State) (event : Event) (outcomes : List Bool) (result : StepResult Catalog) → catalog_step s.catalog s.managed event ≡ Some result → step s event outcomes ≡ on_catalog s result
lifted s (events.Segment id) outcomes result e = ap (on_catalog s) (the_step e)
lifted s (events.Docs id n) outcomes result e = ap (on_catalog s) (the_step e)
lifted s (events.ReloadPublish number) outcomes result e = ap (on_catalog s) (the_step e)
lifted s (events.Searcher number) outcomes result e = ap (on_catalog s) (the_step e)
lifted s (events.Show number) outcomes result e = ap (on_catalog s) (the_step e)
lifted s (events.Bytes number ord component) outcomes result e = ap (on_catalog s) (the_step e)
lifted s (events.ReleaseReader number) outcomes result e = ap (on_catalog s) (plainly (holds_lock s.catalog number) _ _ e)
lifted s (events.ReleaseSearcher number) outcomes result e = ap (on_catalog s) (the_step e)
lifted s events.Managed outcomes result e = ap (on_catalog s) (the_step e)
lifted s other outcomes result e = absurd cc

-- the state after a step of an event that touches files
abbrev After : (State → Type 0) → StepResult State → Type 0
After P result = P result.1

-- a step of a collection, which has these names left
tried : (P : State → Type 0) (s : State) (event : Event) (number : ℕ) (c : Collection) (untried : List (List ℕ)) (outcomes : List Bool) → OfEachChange P s event → event ≡ events.GcStep number
    → collection_at s.collections number ≡ Some c → c.untried ≡ untried → P (tried_first s number c untried outcomes).1
tried P s event number c [] outcomes of step there e = of.same
tried P s event number c (name ∷ left) outcomes of step there e = of.tries number c name left (is_done outcomes) step there e

-- and of one that changes who reads
abbrev OnCatalog : (State → Type 0) → State → StepResult Catalog → Type 0
OnCatalog P s result = P (on_catalog s result).1

-- a reader that is served keeps its reload
reload_stays : (s : State) (reader : Reader) → (served s.catalog.commit (bodies_in s s.catalog.commit) reader).reload ≡ reader.reload
reload_stays s reader = elim reader.has_notice as (λ b. (cond b (record reader { next = reader.next + 1; shown = snapshot_in s reader.next; has_notice = false }) reader).reload ≡ reader.reload) [ true ↦ refl | false ↦ refl ]

-- it shows the current commit, or is as it was
served_move : (s : State) (reader : Reader) (notice : Bool) → (notice ≡ true → reader.reload ≡ None) → ReaderMove s reader (cond notice (record reader { next = reader.next + 1; shown = snapshot_in s reader.next; has_notice = false }) reader)
served_move s reader true none = Shows false (none refl)
served_move s reader false none = IsTold reader.has_notice

-- none of those with a notice has a reload
none_unfinished : (e : ℕ × Reader) (rest : List (ℕ × Reader)) (notice : Bool) → list_any (λ f. is_some f.1.reload) (cond notice (e ∷ rest) rest) ≡ false
    → (notice ≡ true → e.1.reload ≡ None) × (list_any (λ f. is_some f.1.reload) rest ≡ false)
none_unfinished e rest true h = let parts = or_parts (is_some e.1.reload) (list_any (λ f. is_some f.1.reload) rest) h in (λ t. none_is e.1.reload parts.0, parts.1)
none_unfinished e rest false h = (λ t. absurd (true≢false (sym t)), h)

served_moves : (s : State) (es : List (ℕ × Reader)) → list_any (λ e. is_some e.1.reload) (filter (λ e. e.1.has_notice) es) ≡ false
    → AllByRecursion (λ e. ReaderMove s e.1 (served s.catalog.commit (bodies_in s s.catalog.commit) e.1)) es
served_moves s [] none = tt
served_moves s (e ∷ es) none =
    let parts = none_unfinished e (filter (λ f. f.1.has_notice) es) e.1.has_notice none in
    (served_move s e.1 e.1.has_notice parts.0, served_moves s es parts.1)

file_changes : (P : State → Type 0) (s : State) (event : Event) (outcomes : List Bool) → catalog_step s.catalog s.managed event ≡ None → OfEachChange P s event → P (step s event outcomes).1
file_changes P s (events.Open id component) outcomes e of =
    given_all (After P) s (live_at s.catalog id) _ _ of.same (λ segment is.
    let name = name_of id segment.deletes component in
    unless_all (After P) s ((lacks_deletes segment component, codes "no-deletes" ∷ []) ∷ (is_some (file_at s name), codes "exists" ∷ []) ∷ []) (opened s name) (λ words. of.same) (λ none.
    of.opens id segment component refl is none.1.0))
file_changes P s (events.Write id component bytes) outcomes e of =
    given_all (After P) s (live_at s.catalog id) _ _ of.same (λ segment is.
    given_all (After P) s (written_to (file_at s (name_of id segment.deletes component))) _ _ of.same (λ body e.
    of.puts (name_of id segment.deletes component) body (Open (body ++ bytes)) (is_open _ body e) (λ others k. absurd cc)))
file_changes P s (events.Seal id component) outcomes e of =
    given_all (After P) s (live_at s.catalog id) _ _ of.same (λ segment is.
    given_all (After P) s (written_to (file_at s (name_of id segment.deletes component))) _ _ of.same (λ body e.
    of.puts (name_of id segment.deletes component) body (SealedFile (sealed body)) (is_open _ body e) (λ bytes k. sealed_is_good body bytes (sealed_is body bytes k))))
file_changes P s (events.Commit payload ids) outcomes e of =
    let segments = chosen s.catalog ids in
    unless_all (After P) s (
    (s.catalog.next == last_stamp, codes "stamps-spent" ∷ [])
    ∷ (is_some (first_unknown s.catalog ids), codes "unknown-segment" ∷ words_of (option_map encode_lower (first_unknown s.catalog ids)))
    ∷ (is_some (first_unsealed s segments), codes "unsealed" ∷ words_of (first_unsealed s segments))
    ∷ []
    ) (on_catalog s (committed s.catalog payload segments)) (λ words. of.same) (λ none. of.commits payload ids (other s.catalog.next last_stamp none.0) (none_is (first_unsealed s segments) none.1.1.0))
file_changes P s (events.Deletes id n) outcomes e of =
    given_all (After P) s (live_at s.catalog id) _ _ of.same (λ segment is.
    let name = delete_name id (Some (next_deletes s.catalog n)) in
    unless_all (After P) s (
    (nat_lt segment.max_doc n, codes "wrong-docs" ∷ [])
    ∷ (s.catalog.next == last_stamp, codes "stamps-spent" ∷ [])
    ∷ (has (held s.collections) name, codes "leaving" ∷ [])
    ∷ (is_name_in_use s id name, codes "name-in-use" ∷ [])
    ∷ []
    ) (having_deleted_docs s id n segment) (λ words. of.same) (λ none. of.deletes id n segment (record {
      there = is;
      within = not_less segment.max_doc n none.0;
      last = other s.catalog.next last_stamp none.1.0;
      spared = none.1.1.0;
      fresh = (or_parts (has s.managed name) (is_committed_delete (at s.catalog.commit.segments id) id name) none.1.1.1.0).0;
    })))
file_changes P s events.Gc outcomes e of = unless_all (After P) s ((is_busy s.catalog, codes "lock-busy" ∷ []) ∷ []) (collected s outcomes) (λ words. of.same) (λ free. of.collects outcomes free.0)
file_changes P s events.GcBegin outcomes e of = unless_all (After P) s ((is_busy s.catalog, codes "lock-busy" ∷ []) ∷ []) (collection_begun s) (λ words. of.same) (λ free. of.begins free.0)
file_changes P s (events.GcStep number) outcomes e of =
    given_all (After P) s (collection_at s.collections number) _ _ of.same (λ c there. tried P s (events.GcStep number) number c c.untried outcomes of refl there refl)
file_changes P s (events.GcEnd number) outcomes e of = given_all (After P) s (collection_at s.collections number) _ _ of.same (λ c there. of.finishes number c refl there)
file_changes P s events.Reopen outcomes e of = of.reopens refl
file_changes P s (events.Reader policy) outcomes e of =
    unless_all (OnCatalog P s) s.catalog ((is_busy s.catalog, codes "lock-busy" ∷ []) ∷ []) (reader_added s.catalog policy (bodies_in s s.catalog.commit)) (λ words. of.same) (λ free. of.reads _ (Comes policy refl))
file_changes P s (events.Reload number) outcomes e of =
    given_all (OnCatalog P s) s.catalog (reader_at s.catalog number) _ _ of.same (λ reader is.
    unless_all (OnCatalog P s) s.catalog (reload_refusals s.catalog reader) (reloaded s.catalog number (bodies_in s s.catalog.commit) reader) (λ words. of.same) (λ none.
    of.reads _ (Changes number reader _ is (Shows reader.has_notice (none_is reader.reload none.0)) refl)))
file_changes P s (events.ReloadLock number) outcomes e of =
    given_all (OnCatalog P s) s.catalog (reader_at s.catalog number) _ _ of.same (λ reader is.
    unless_all (OnCatalog P s) s.catalog (reload_refusals s.catalog reader) (commit_noted s.catalog number reader) (λ words. of.same) (λ none.
    of.reads _ (Changes number reader _ is (Notes (none_is reader.reload none.0) none.1.0) refl)))
file_changes P s (events.ReloadOpen number) outcomes e of =
    given_all (OnCatalog P s) s.catalog (reader_at s.catalog number) _ _ of.same (λ reader is.
    given_all (OnCatalog P s) s.catalog (unread_by reader.reload) _ _ of.same (λ noted unread.
    of.reads _ (Changes number reader _ is (Opens noted (unread_is reader.reload noted unread)) refl)))
file_changes P s events.Deliver outcomes e of =
    unless_all (OnCatalog P s) s.catalog (deliver_refusals s.catalog) (_, with_served s.catalog (bodies_in s s.catalog.commit)) (λ words. of.same) (λ none.
    of.reads _ (AllChange (served s.catalog.commit (bodies_in s s.catalog.commit)) (reload_stays s) (served_moves s s.catalog.reading.readers none.1.0) refl))
file_changes P s (events.ReleaseReader number) outcomes e of = given_all (OnCatalog P s) s.catalog (reader_at s.catalog number) _ _ of.same (λ reader there. of.reads _ (Leaves number refl))
file_changes P s (events.ReleaseSegment id) outcomes e of = given_all (After P) s (live_at s.catalog id) _ _ of.same (λ segment is. of.releases id segment)
file_changes P s events.Validate outcomes e of =
    let names = committed_names s.catalog s.managed in
    unless_all (After P) s ((is_some (first_unreadable s names), codes "unreadable" ∷ words_of (first_unreadable s names)) ∷ []) (line (codes "damaged") (damaged_files s names), s) (λ words. of.same) (λ none. of.same)
file_changes P s other outcomes e of = absurd cc

-- a step makes one of these changes
pub step_changes : (P : State → Type 0) (s : State) (event : Event) (outcomes : List Bool) → OfEachChange P s event → P (step s event outcomes).1
step_changes P s event outcomes of = by_half (catalog_step s.catalog s.managed event) refl where
  by_half : (told : Option (StepResult Catalog)) → catalog_step s.catalog s.managed event ≡ told → P (step s event outcomes).1
  by_half None e = file_changes P s event outcomes e of
  by_half (Some result) e =
      subst (λ (t : StepResult State). P t.1) (sym (lifted s event outcomes result e))
      (catalog_changes (λ c. P (record s { catalog = c })) s.catalog s.managed event result (record {
        same = of.same;
        fresh = λ id is free. of.lives id fresh_segment (IsNew free);
        said = λ id n segment is there none. of.lives id (record segment { max_doc = n }) (HasDocs n segment there none);
        publishes = λ number reader noted bodies is there read. of.reads _ (Changes number reader _ there (Publishes noted bodies read) refl);
        shows = λ number reader is there. of.reads _ (Searches number reader there refl);
        reader = λ number. of.reads _ (Leaves number refl);
        searcher = λ number. of.reads _ (Ends number refl);
      }) e)

-- an event opens the index again or not
pub reopening : (event : Event) → (isnt_reopening event ≡ true) ⊎ (event ≡ events.Reopen)
reopening events.Reopen = inr refl
reopening other = inl refl

-- what each event that passes a test keeps holds after a run of such events
pub after_between : (test : Event → Bool) (P : State → Type 0) → ((s : State) (event : Event) (outcomes : List Bool) → test event ≡ true → P s → P (step s event outcomes).1) → (s : State) (turns : List Turn)
    → list_all (λ (turn : Turn). test turn.0) turns ≡ true → P s → P (after s turns)
after_between test P kept s [] passes h = h
after_between test P kept s (turn ∷ turns) passes h =
    let t = and_parts (test turn.0) (list_all (λ (turn : Turn). test turn.0) turns) passes in
    after_between test P kept (step s turn.0 turn.1).1 turns t.1 (kept s turn.0 turn.1 t.0 h)

-- what each step keeps holds after a run
pub after_kept : (P : State → Type 0) → ((s : State) (event : Event) (outcomes : List Bool) → P s → P (step s event outcomes).1) → (s : State) (turns : List Turn) → P s → P (after s turns)
after_kept P kept s [] h = h
after_kept P kept s (turn ∷ turns) h = after_kept P kept (step s turn.0 turn.1).1 turns (kept s turn.0 turn.1 h)
