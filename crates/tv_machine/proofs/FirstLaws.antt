-- The state of an index that was just made meets the premises of the laws, and so do others.
use Rattle.std.proofs.Common.{◌≡◌, ◌≢◌, inl, ℕ, ◌<◌, Bool, true, false, true≢false, cond, List, [], ◌∷◌, ◌++◌, Some, None, codes, refl, sym, ap, subst, ◌∙◌, arith}
use Rattle.std.specs.Prelude.{is_some, nat_lt}
use Rattle.std.specs.Fmt.{digits}
use Rattle.std.proofs.lemmas.Bool.{false_from_ne_true}
use Rattle.std.proofs.lemmas.Bool.Decides.{nat_tests}
use Rattle.hex.specs.Hex.{encode_with}
use Rattle.json.proofs.Printed.Utf8.{IsUtf8-are_ascii}
use Rattle.serde_json.specs.Data.{Data}
use Rattle.std.specs.List.{AllByRecursion}
use Rattle.std.specs.BTreeMap.{is_at}
use Rattle.std.specs.List.Sorted.{IsStrictlySortedBy}
use Rattle.tv_events.specs.declared.event.Event.TheVariants as events
use Rattle.tv_events.specs.declared.reload_policy.ReloadPolicy.TheVariants.{Manual}
use Rattle.tv_formats.specs.Names.{byte_cmp, is, has, is_undotted, list_name, meta_name}
use Rattle.tv_formats.specs.Files.{Reads}
use Rattle.tv_formats.specs.Ids.{IsId}
use Rattle.tv_formats.specs.Listing.{list_text}
use Rattle.tv_formats.specs.Schemas.{IsSchemaText}
use Rattle.tv_formats.specs.Collections.{begun}
use Rattle.tv_machine.specs.CollectionEvents.{garbage, gc_begin_step, gc_step}
use Rattle.tv_machine.specs.DeleteEvents.{delete_name, deletes_step, next_deletes}
use Rattle.tv_machine.specs.Living.{is_busy, living}
use Rattle.tv_machine.specs.NewNames.{IsNewDelete}
use Rattle.tv_machine.specs.ReopenEvents.{reopened}
use Rattle.tv_machine.specs.Reopening.{found_in}
use Rattle.tv_machine.specs.Machine.{Turn, after, events_of, step}
use Rattle.tv_events.specs.Script.{Fits}
use Rattle.tv_machine.specs.Serving.{Serves, ServesAsSealed, ServesStates}
use Rattle.tv_machine.specs.Collecting.{CollectsIn, CollectsInStepsIn, CollectsAllElse, Ends, IsAtOnce, Tries}
use Rattle.tv_machine.specs.Telling.{Determined}
use Rattle.tv_formats.specs.Commits.{default_settings, first_commit, printed}
use Rattle.tv_machine.specs.Index.{DirectoryHolds, IsFileOf, OpensTo, first_state}
use Rattle.tv_machine.specs.State.{State, SealedFile, file_at}
use Rattle.tv_machine.specs.SoundStates.{IsSoundState}
use Rattle.tv_formats.proofs.Entries.{is_text, text_at}
use Rattle.tv_machine.proofs.HeldStates.{nothing_held}
use Rattle.tv_machine.proofs.SoundStates.{first_sound, step_sound}
use Rattle.tv_machine.proofs.Serving.{serves, serves_as_sealed, serves_states}
use Rattle.tv_machine.proofs.Collects.{collects_in}
use Rattle.tv_machine.proofs.CollectsInSteps.{collects_in_steps, collects_in_steps_in, collects_at_once, collects_all_else}
use Rattle.tv_formats.proofs.ListTexts.{written_is_list}
use Rattle.tv_machine.proofs.NewDeletes.{first_in_order, new_delete, step_in_order}
use Rattle.tv_formats.proofs.PlainNames.{all_at}
use Rattle.tv_formats.proofs.ReadPrinted.{printed_means}
use Rattle.tv_machine.proofs.Reopenings.{reopens}
use Rattle.tv_formats.proofs.Samples.{id_b}
use Rattle.tv_machine.proofs.Telling.{determined}

pub first_opens : (schema : List ℕ) → OpensTo default_settings schema (λ n. None) first_state
first_opens schema = record {
  listed = [];
  listing = refl;
  covered = λ some. absurd (true≢false (sym some));
  found = (refl, refl);
  managed = refl;
  live = refl;
  next = refl;
  reading = refl;
  collections = refl;
  names = λ n there. absurd (true≢false (sym there));
  files = λ n file. refl;
}

-- a state with a file that has no footer, and that nothing requires
abbrev stray : State
stray = record first_state { files = (codes "notes", SealedFile []) ∷ []; managed = codes "meta.json" ∷ codes "notes" ∷ [] }

is_stray : (n : List ℕ) → is_some (file_at stray n) ≡ true → codes "notes" ≡ n
is_stray n h = sym (text_at n (codes "notes") (either (is_at (byte_cmp n) (codes "notes")) h)) where
  either : (b : Bool) → is_some (cond b (Some (SealedFile [])) None) ≡ true → b ≡ true
  either true k = refl
  either false k = absurd (true≢false (sym k))

-- it is sound
pub stray_sound : IsSoundState stray
unfolding IsStrictlySortedBy
stray_sound = record {
  meta = refl;
  names = λ n there. subst IsFileOf (is_stray n there) (refl, λ e. absurd cc);
  listed = λ n there. subst (λ (name : List ℕ). has stray.managed name ≡ true) (is_stray n there) refl;
  whole = record { each = (λ n required. absurd (true≢false (sym required)), tt); unheld = (λ n required. absurd (true≢false (sym required)), tt); collecting = nothing_held stray refl ((refl, tt), (tt, tt)) };
  good = (λ n bytes required is. absurd (true≢false (sym required)), tt);
  live = λ n bytes required is. absurd (true≢false (sym required));
  stamps = inl (omega arith);
  within = (tt, tt);
  live_within = tt;
}

pub first_serves : (turns : List Turn) → Serves first_state turns
first_serves turns = serves first_state turns refl refl

-- the reader ends whose reload holds the meta lock
pub first_frees : is_busy (after first_state ((events.Reader Manual, []) ∷ (events.ReloadLock 0, []) ∷ (events.ReleaseReader 0, []) ∷ [])).catalog ≡ false
unfolding encode_with digits
first_frees =
    let front = (events.Reader Manual, []) ∷ (events.ReloadLock 0, []) ∷ [] in
    (first_serves (front ++ (events.ReleaseReader 0, []) ∷ [])).frees front [] 0 (events.ReleaseReader 0, []) _ refl (inl refl) refl refl

pub first_states : (turns : List Turn) → ServesStates first_state turns
first_states turns = serves_states first_state turns refl first_sound

pub first_as_sealed : (turns : List Turn) → AllByRecursion Fits (events_of turns) → ServesAsSealed first_state turns
first_as_sealed turns fits = serves_as_sealed first_state turns first_sound fits

pub first_collects : (turns : List Turn) → CollectsIn first_state turns
unfolding IsStrictlySortedBy
first_collects turns = collects_in first_state turns (tt, tt)

pub first_determined : Determined first_state
first_determined = determined first_state refl

-- ---- collections in steps

pub first_in_steps : (turns : List Turn) → AllByRecursion Fits (events_of turns) → CollectsInStepsIn first_state turns
first_in_steps turns fits = collects_in_steps_in first_state turns first_sound fits

pub first_at_once : (outcomes : List Bool) → IsAtOnce first_state outcomes
first_at_once outcomes = collects_at_once first_state outcomes refl

pub first_all_else : CollectsAllElse first_state
first_all_else = collects_all_else first_state first_sound

-- a file that nothing requires is collected, unless its delete is refused
pub stray_taken : garbage stray ≡ codes "notes" ∷ []
stray_taken = refl

pub stray_gone : file_at (gc_step stray []).1 (codes "notes") ≡ None
stray_gone = refl

pub stray_stays : file_at (gc_step stray (false ∷ [])).1 (codes "notes") ≡ Some (SealedFile [])
stray_stays = refl

pub stray_all_else : CollectsAllElse stray
stray_all_else = collects_all_else stray stray_sound

-- a collection of it, which is unfinished
abbrev begun_stray : State
begun_stray = (gc_begin_step stray).1

pub begun_sound : IsSoundState begun_stray
begun_sound = step_sound stray events.GcBegin [] ((tt, tt), tt) stray_sound

pub stray_tries : (outcomes : List Bool) → Tries begun_stray 0 (begun (codes "notes" ∷ [])) (codes "notes") [] outcomes
stray_tries outcomes = (collects_in_steps begun_stray begun_sound).tries 0 (begun (codes "notes" ∷ [])) (codes "notes") [] outcomes refl refl

pub stray_ends : Ends begun_stray 0 (begun (codes "notes" ∷ []))
stray_ends = (collects_in_steps begun_stray begun_sound).ends 0 (begun (codes "notes" ∷ [])) refl

-- ---- deletes and reopenings

-- a state with a segment of three documents
abbrev counted : State
counted = (step (step first_state (events.Segment id_b) []).1 (events.Docs id_b 3) []).1

less : (a b : ℕ) → nat_lt a b ≡ true → a < b
less a b e = grind (arith, nat_tests)

is_id : IsId id_b
is_id = record { size = refl; bytes = λ i. less _ 256 (all_at (λ b. nat_lt b 256) id_b i refl) }

pub counted_sound : IsSoundState counted
counted_sound = step_sound (step first_state (events.Segment id_b) []).1 (events.Docs id_b 3) [] ((tt, (is_id, (omega arith, tt))), tt)
    (step_sound first_state (events.Segment id_b) [] ((tt, (is_id, tt)), tt) first_sound)

-- an event of deletes isn't refused there
pub deletes_change : (deletes_step counted id_b 1).1 ≢ counted
unfolding encode_with digits
deletes_change = λ same. absurd (omega (arith, ap (λ (s : State). s.catalog.next) same))

pub counted_new : IsNewDelete counted id_b (delete_name id_b (Some (next_deletes counted.catalog 1)))
counted_new = new_delete counted id_b 1 counted_sound deletes_change

pub counted_unneeded : has (living counted.catalog) (delete_name id_b (Some (next_deletes counted.catalog 1))) ≡ false
counted_unneeded =
    let made = step_in_order first_state (events.Segment id_b) [] first_sound first_in_order in
    counted_new.unneeded (step_in_order (step first_state (events.Segment id_b) []).1 (events.Docs id_b 3) [] (step_sound first_state (events.Segment id_b) [] ((tt, (is_id, tt)), tt) first_sound) made)

-- what a directory reads that has this index alone, which was just made
abbrev first_reads : List ℕ → Reads
first_reads schema n = cond (is n meta_name) (Some (printed default_settings schema first_commit ++ 10 ∷ [])) (cond (is n list_name) (Some (list_text first_state.managed)) None)

nothing_else : (schema n : List ℕ) → IsFileOf n → first_reads schema n ≡ None
nothing_else schema n file =
    let no_meta : is n meta_name ≡ false = false_from_ne_true (is n meta_name) (λ same. file.1 (is_text n meta_name same)) in
    let no_list : is n list_name ≡ false = false_from_ne_true (is n list_name) (λ same. true≢false (sym file.0 ∙ ap is_undotted (is_text n list_name same))) in
    rw (no_meta, no_list) refl

pub first_holds : (schema : List ℕ) (tree : Data) → IsSchemaText schema tree → DirectoryHolds default_settings schema (first_reads schema) first_state
unfolding IsStrictlySortedBy
first_holds schema tree text = record {
  names = λ n there. absurd (true≢false (sym there));
  files = λ n file. nothing_else schema n file;
  meta = (printed default_settings schema first_commit ++ 10 ∷ [], refl, printed_means default_settings schema tree first_commit (record { ordered = tt; segments = tt; opstamp = omega arith; payload = tt }) (omega arith) text);
  listing = written_is_list (meta_name ∷ []) ((refl, IsUtf8-are_ascii meta_name refl), tt) (tt, tt);
}

pub first_reopens : (schema : List ℕ) (tree : Data) → IsSchemaText schema tree → OpensTo default_settings schema (first_reads schema) (found_in (first_reads schema) (reopened first_state))
first_reopens schema tree text = reopens default_settings schema (first_reads schema) first_state first_sound (first_holds schema tree text)
