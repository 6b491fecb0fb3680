-- The laws of a store's events, from what an event that was applied did.
use Rattle.std.proofs.Common.{◌≡◌, ◌≢◌, ℕ, ◌<◌, ◌==◌, Bool, true, false, cond, ◌&&◌, ◌||◌, nat_lt, List, [], ◌∷◌, ◌++◌, codes, Option, Some, None, is_some, option_map, refl, sym, ap, subst, ◌∙◌}
use Rattle.std.specs.List.{filter}
use Rattle.std.specs.BTreeMap.{is_at}
use Rattle.std.proofs.lemmas.Bool.{lt-ltb}
use Rattle.hex.specs.Hex.{encode_lower}
use Rattle.tv_device.specs.declared.directory.Directory.{Ghosts}
use Rattle.tv_index.specs.Saving.{saved_text}
use Rattle.tv_formats.specs.Collections.{held}
use Rattle.tv_machine.specs.CommitEvents.{chosen, commit_step, committed, first_unknown, first_unsealed, last_stamp}
use Rattle.tv_formats.specs.Commits.{IndexForm, IsSegment}
use Rattle.tv_machine.specs.DeleteEvents.{delete_name, deletes_step, having_deleted_docs, is_committed_delete, is_name_in_use, next_deletes}
use Rattle.tv_machine.specs.FileEvents.{seal_name, seal_step, sealed_as, write_name, write_step, written_to, wrote}
use Rattle.tv_formats.specs.Footer.{sealed}
use Rattle.tv_machine.specs.Index.{IsFileOf}
use Rattle.tv_machine.specs.Lines.{given, unless, words_of}
use Rattle.tv_machine.specs.Machine.{step}
use Rattle.tv_formats.specs.Names.{byte_cmp, has, meta_name, at}
use Rattle.tv_machine.specs.ReaderEvents.{bodies_in, reload_step}
use Rattle.tv_machine.specs.SearcherEvents.{bytes_step}
use Rattle.tv_formats.specs.Segments.{name_of, num_docs}
use Rattle.tv_machine.specs.SoundStates.{IsWhole}
use Rattle.tv_machine.specs.State.{Catalog, FileState, Open, Reader, SealedFile, State, StepResult, live_at, on_catalog, reader_at, with_file}
use Rattle.tv_events.specs.declared.event.Event.{Event}
use Rattle.tv_events.specs.declared.event.Event.TheVariants as events
use Rattle.tv_formats.specs.declared.segment.LiveSegment.{LiveSegment}
use Rattle.tv_formats.specs.declared.segment.SegmentComponent.{SegmentComponent}
use Rattle.tv_formats.proofs.Entries.{text_at}
use Rattle.tv_machine.proofs.Required.{name_is_file}
use Rattle.tv_machine.proofs.WholeStates.{after_whole}
use Rattle.tv_store.specs.Applying.{LeavesAlone, Stepped}
use Rattle.tv_catalog.specs.Effects.{MayReload, WritesByStep}
use Rattle.tv_store.specs.EventLaws.{HasLiving, HoldsSome}
use Rattle.tv_store.specs.Kept.{FileHolds, Holds, StoreState}
use Rattle.tv_store.specs.SnapshotCalls.{ShowsMeta}
use Rattle.tv_store.proofs.FilesHeld.{body_step}
use Rattle.tv_store.proofs.ReloadLaws.{reload_shown}
use Rattle.tv_catalog.proofs.SharedLaws.{file_known, all_found}
use Rattle.tv_store.proofs.Changed.{file_put}

-- ---- a delete name that is taken

-- where the last of four refusals holds, nothing changes
last_refused : {S : Type 0} (s : S) (a b c d : Bool) (for_a for_b for_c for_d : List (List ℕ)) (result : StepResult S) → d ≡ true
    → (unless s ((a, for_a) ∷ (b, for_b) ∷ (c, for_c) ∷ (d, for_d) ∷ []) result).1 ≡ s
last_refused s true b c d for_a for_b for_c for_d result e = refl
last_refused s false true c d for_a for_b for_c for_d result e = refl
last_refused s false false true d for_a for_b for_c for_d result e = refl
last_refused s false false false true for_a for_b for_c for_d result e = refl
last_refused s false false false false for_a for_b for_c for_d result e = absurd cc

module _ (s : State) (id : List ℕ) (n : ℕ) where
  abbrev name : List ℕ
  name = delete_name id (Some (next_deletes s.catalog n))

  given_same : (o : Option LiveSegment) (next : LiveSegment → StepResult State) → ((segment : LiveSegment) → (next segment).1 ≡ s) → (given s o (codes "unknown-segment") next).1 ≡ s
  given_same None next same = refl
  given_same (Some segment) next same = same segment

  abbrev next : LiveSegment → StepResult State
  next segment =
      unless s (
      (nat_lt segment.max_doc n, codes "wrong-docs" ∷ [])
      ∷ (s.catalog.next == last_stamp, codes "stamps-spent" ∷ [])
      ∷ (has (held s.collections) name, codes "leaving" ∷ [])
      ∷ (is_name_in_use s id name, codes "name-in-use" ∷ [])
      ∷ []
      )
      (having_deleted_docs s id n segment)

  taken_refused : has s.managed name ≡ true → (deletes_step s id n).1 ≡ s
  taken_refused taken =
      let in_use : is_name_in_use s id name ≡ true = ap (λ (b : Bool). b || is_committed_delete (at s.catalog.commit.segments id) id name) taken in
      given_same (live_at s.catalog id) next (λ segment.
      last_refused s (nat_lt segment.max_doc n) (s.catalog.next == last_stamp) (has (held s.collections) name) (is_name_in_use s id name)
      (codes "wrong-docs" ∷ []) (codes "stamps-spent" ∷ []) (codes "leaving" ∷ []) (codes "name-in-use" ∷ []) (having_deleted_docs s id n segment) in_use)

-- ---- a commit that isn't refused

-- where none of three refusals is told, the result is
none_refused : {S T : Type 0} (part : S → T) (s : S) (a b c : Bool) (for_a for_b for_c : List (List ℕ)) (result : StepResult S)
    → part (unless s ((a, for_a) ∷ (b, for_b) ∷ (c, for_c) ∷ []) result).1 ≢ part s → (unless s ((a, for_a) ∷ (b, for_b) ∷ (c, for_c) ∷ []) result).1 ≡ result.1
none_refused part s true b c for_a for_b for_c result other = absurd (other refl)
none_refused part s false true c for_a for_b for_c result other = absurd (other refl)
none_refused part s false false true for_a for_b for_c result other = absurd (other refl)
none_refused part s false false false for_a for_b for_c result other = refl

committed_anew : (s : State) (payload : Option (List ℕ)) (ids : List (List ℕ)) → (commit_step s payload ids).1.catalog ≢ s.catalog → (commit_step s payload ids).1.catalog ≡ (committed s.catalog payload (chosen s.catalog ids)).1
committed_anew s payload ids other = ap (λ (t : State). t.catalog) (none_refused (λ (t : State). t.catalog) s (s.catalog.next == last_stamp) (is_some (first_unknown s.catalog ids)) (is_some (first_unsealed s (chosen s.catalog ids)))
    (codes "stamps-spent" ∷ []) (codes "unknown-segment" ∷ words_of (option_map encode_lower (first_unknown s.catalog ids))) (codes "unsealed" ∷ words_of (first_unsealed s (chosen s.catalog ids)))
    (on_catalog s (committed s.catalog payload (chosen s.catalog ids))) other)

abbrev Entry : Type 0
Entry = List ℕ × LiveSegment

kept_first : (b : Bool) (e : Entry) (es : List Entry) (id : List ℕ) → b ≡ true → is_at (byte_cmp id) e.0 ≡ true → at (cond b (e ∷ es) es) id ≡ Some e.1
kept_first true e es id takes here = ap (λ (is : Bool). cond is (Some e.1) (at es id)) here
kept_first false e es id takes here = absurd cc

passed_over : (b : Bool) (e : Entry) (es : List Entry) (id : List ℕ) (segment : LiveSegment) → is_at (byte_cmp id) e.0 ≡ false → at es id ≡ Some segment → at (cond b (e ∷ es) es) id ≡ Some segment
passed_over true e es id segment apart found = ap (λ (is : Bool). cond is (Some e.1) (at es id)) apart ∙ found
passed_over false e es id segment apart found = found

-- an entry that a filter takes is found in what it gives
at_filtered : (p : Entry → Bool) (es : List Entry) (id : List ℕ) (segment : LiveSegment) → p (id, segment) ≡ true → at es id ≡ Some segment → at (filter p es) id ≡ Some segment
at_filtered p [] id segment takes found = absurd cc
at_filtered p (e ∷ es) id segment takes found =
    elim (is_at (byte_cmp id) e.0) as (λ b. is_at (byte_cmp id) e.0 ≡ b → cond b (Some e.1) (at es id) ≡ Some segment → at (filter p (e ∷ es)) id ≡ Some segment) [
      | true ↦ λ here same.
          let one : e.1 ≡ segment = cc in
          let it : p e ≡ true = subst (λ (key : List ℕ). p (key, e.1) ≡ true) (text_at id e.0 here) (subst (λ (value : LiveSegment). p (id, value) ≡ true) (sym one) takes) in
          kept_first (p e) e (filter p es) id it here ∙ same
      | false ↦ λ apart same. passed_over (p e) e (filter p es) id segment apart (at_filtered p es id segment takes same)
    ] refl found

living_chosen : (c : Catalog) (ids : List (List ℕ)) (id : List ℕ) (segment : LiveSegment) → has ids id ≡ true → live_at c id ≡ Some segment → 0 < num_docs segment → at (chosen c ids) id ≡ Some segment
living_chosen c ids id segment named live some =
    at_filtered (λ e. has ids e.0 && nat_lt 0 (num_docs e.1)) c.live id segment (ap (λ (b : Bool). b && nat_lt 0 (num_docs segment)) named ∙ lt-ltb 0 (num_docs segment) some) live

-- ---- what was sealed

sealed_is : (read written : Option (List ℕ)) (bytes : List ℕ) (file : Option FileState) → file ≡ Some (SealedFile bytes) → FileHolds file read written → read ≡ Some bytes
sealed_is read written bytes file is h = (subst (λ (o : Option FileState). FileHolds o read written) is h).0

-- ---- the laws

module _ {O W C : Type 0} (g : Ghosts O W C) (old new : StoreState O) (h : HoldsSome g old) where
  catalog_after : (event : Event) (answer : List ℕ) (did : Stepped g old new event answer) → new.kept.catalog ≡ (step h.state event did.outcomes).1.catalog
  catalog_after event answer did = (did.each h.tells h.state h.held h.whole).held.catalog

  pub leaves_alone : (event : Event) (answer : List ℕ) → WritesByStep old.kept event → Stepped g old new event answer
      → (outcomes : List Bool) × (answer ≡ (step h.state event outcomes).0) × ((step h.state event outcomes).1 ≡ h.state → LeavesAlone (g.view old.outside) (g.view new.outside))
  leaves_alone event answer writes did =
      let held = did.each h.tells h.state h.held h.whole in
      (did.outcomes, held.told, λ same. held.unchanged writes same)

  pub draws_anew : (id answer : List ℕ) (n : ℕ) → has old.kept.managed (delete_name id (Some (next_deletes old.kept.catalog n))) ≡ true
      → Stepped g old new (events.Deletes id n) answer → new.kept.catalog ≡ old.kept.catalog
  draws_anew id answer n taken did =
      let at_state : has h.state.managed (delete_name id (Some (next_deletes h.state.catalog n))) ≡ true =
      subst (λ (c : Catalog). has h.state.managed (delete_name id (Some (next_deletes c n))) ≡ true) h.held.catalog
      (subst (λ (names : List (List ℕ)). has names (delete_name id (Some (next_deletes old.kept.catalog n))) ≡ true) h.held.managed taken) in
      catalog_after (events.Deletes id n) answer did ∙ ap (λ (t : State). t.catalog) (taken_refused h.state id n at_state) ∙ sym h.held.catalog

  module _ (payload : Option (List ℕ)) (ids : List (List ℕ)) (answer : List ℕ) (did : Stepped g old new (events.Commit payload ids) answer) (other : new.kept.catalog ≢ old.kept.catalog) where
    anew : (commit_step h.state payload ids).1.catalog ≢ h.state.catalog
    anew same = other (catalog_after (events.Commit payload ids) answer did ∙ same ∙ sym h.held.catalog)

    pub commits_living : HasLiving ids old.kept.catalog new.kept.catalog.commit
    commits_living id segment named live some =
        ap (λ (c : Catalog). at c.commit.segments id) (catalog_after (events.Commit payload ids) answer did ∙ committed_anew h.state payload ids anew)
        ∙ living_chosen h.state.catalog ids id segment named (ap (λ (c : Catalog). live_at c id) (sym h.held.catalog) ∙ live) some

    pub commits_saved : new.kept.form ≡ old.kept.form → (g.view new.outside).reads meta_name ≡ Some (saved_text new.kept.form.settings new.kept.form.schema new.kept.catalog.commit)
    commits_saved form =
        let saved = (did.each h.tells h.state h.held h.whole).saves (λ same. anew (ap (λ (t : State). t.catalog) same)) in
        saved.text ∙ ap (λ (f : IndexForm). Some (saved_text f.settings f.schema (commit_step h.state payload ids).1.catalog.commit)) (sym form)
        ∙ ap (λ (c : Catalog). Some (saved_text new.kept.form.settings new.kept.form.schema c.commit)) (sym (catalog_after (events.Commit payload ids) answer did))

  pub shows_commit : (number : ℕ) (answer : List ℕ) (reader : Reader) → MayReload old.kept.catalog number → reader_at new.kept.catalog number ≡ Some reader → Stepped g old new (events.Reload number) answer → ShowsMeta g new reader.shown
  shows_commit number answer reader may there did tells =
      let holds = (did.each h.tells h.state h.held h.whole).held in
      let bodies = bodies_in h.state h.state.catalog.commit in
      let found : reader_at (reload_step h.state.catalog number bodies).1 number ≡ Some reader = ap (λ (c : Catalog). reader_at c number) (sym holds.catalog) ∙ there in
      let shown = reload_shown h.state.catalog number bodies reader (subst (λ (c : Catalog). MayReload c number) h.held.catalog may) found in (
        holds.meta.0,
        holds.meta.1,
        (new.kept.form.settings, (reload_step h.state.catalog number bodies).1.commit, holds.meta.2, shown.0 ∙ sym shown.1),
      )

  pub bytes_shown : (number ord : ℕ) (component : SegmentComponent) (answer : List ℕ) → Stepped g old new (events.Bytes number ord component) answer → answer ≡ (bytes_step old.kept.catalog number ord component).0
  bytes_shown number ord component answer did =
      (did.each h.tells h.state h.held h.whole).told ∙ ap (λ (c : Catalog). (bytes_step c number ord component).0) (sym h.held.catalog)

module _ {O W C : Type 0} (g : Ghosts O W C) (old mid new : StoreState O) (h : HoldsSome g old) (id : List ℕ) (component : SegmentComponent) (bytes : List ℕ) (segment : LiveSegment) (body : List ℕ)
    (live : live_at old.kept.catalog id ≡ Some segment) (opened : at old.kept.open_files (name_of id segment.deletes component) ≡ Some body) where
  abbrev file : List ℕ
  file = name_of id segment.deletes component

  abbrev longer : State
  longer = with_file h.state file (Open (body ++ bytes))

  live_here : live_at h.state.catalog id ≡ Some segment
  live_here = ap (λ (c : Catalog). live_at c id) (sym h.held.catalog) ∙ live

  is_file : IsFileOf file
  is_file = name_is_file id segment.deletes component (all_found IsSegment h.state.catalog.live id segment h.held.segments live_here).id

  wrote_so : (write_step h.state id component bytes).1 ≡ longer
  wrote_so =
      ap (λ (r : StepResult State). r.1)
      (file_known h.state id file component segment (λ _ name. write_name h.state name bytes) live_here refl
      ∙ body_step h.state file (wrote h.state file bytes) (g.view old.outside).reads old.kept (Some body) h.held is_file opened)

  sealed_so : (seal_step longer id component).1 ≡ with_file longer file (SealedFile (sealed (body ++ bytes)))
  sealed_so =
      ap (λ (r : StepResult State). r.1)
      (file_known longer id file component segment (λ _ name. seal_name longer name) live_here refl
      ∙ ap (λ (o : Option FileState). given longer (written_to o) (codes "not-open") (sealed_as longer file)) (file_put h.state file (Open (body ++ bytes))))

  pub reads_sealed : (first second : List ℕ) → Stepped g old mid (events.Write id component bytes) first → Stepped g mid new (events.Seal id component) second
      → (g.view new.outside).reads file ≡ Some (sealed (body ++ bytes))
  reads_sealed first second did ended =
      let whole : IsWhole longer = subst IsWhole wrote_so (after_whole h.state ((events.Write id component bytes, did.outcomes) ∷ []) h.whole) in
      let between : Holds (g.view mid.outside).reads mid.kept longer = subst (Holds (g.view mid.outside).reads mid.kept) wrote_so (did.each h.tells h.state h.held h.whole).held in
      let last : Holds (g.view new.outside).reads new.kept (with_file longer file (SealedFile (sealed (body ++ bytes)))) = subst (Holds (g.view new.outside).reads new.kept) sealed_so (ended.each h.tells longer between whole).held in
      sealed_is ((g.view new.outside).reads file) (at new.kept.open_files file) (sealed (body ++ bytes)) _ (file_put longer file (SealedFile (sealed (body ++ bytes)))) (last.files file is_file)
