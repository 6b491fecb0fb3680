-- The events that touch no file, as steps of the machine.
use Rattle.std.proofs.Common.{ℕ, ◌≡◌, ◌+◌, ◌<◌, ◌^◌, false, not, ◌==◌, List, Some, refl, sym, subst, arith}
use Rattle.std.specs.List.{AllByRecursion}
use Rattle.tv_formats.specs.Collections.{Collections}
use Rattle.tv_events.specs.declared.event.Event.{Event}
use Rattle.tv_events.specs.declared.event.Event.TheVariants as events
use Rattle.tv_formats.specs.declared.segment.LiveSegment.{LiveSegment}
use Rattle.tv_formats.specs.Commits.{Commit, IsSegment}
use Rattle.tv_formats.specs.Meaning.{Means}
use Rattle.tv_formats.specs.Files.{Reads}
use Rattle.tv_machine.specs.Machine.{catalog_step}
use Rattle.tv_machine.specs.Readable.{ReadsGood}
use Rattle.tv_machine.specs.ReloadEvents.{published}
use Rattle.tv_machine.specs.SearcherEvents.{with_searcher}
use Rattle.tv_formats.specs.Segments.{fresh_segment}
use Rattle.tv_machine.specs.SegmentEvents.{has_docs}
use Rattle.tv_machine.specs.State.{Catalog, State, StepResult, on_catalog}
use Rattle.tv_machine.proofs.Changes.{catalog_changes}
use Rattle.tv_machine.proofs.SoundStates.{undeleted}
use Rattle.tv_catalog.specs.Effects.{TakesMetaLock, written_by}
use Rattle.tv_catalog.specs.Catalogs.{FitsCatalog}
use Rattle.tv_catalog.specs.Kept.{KeptState}
use Rattle.tv_store.specs.Kept.{Holds}
use Rattle.tv_catalog.specs.ReaderNumbers.{FewNumbers}
use Rattle.tv_store.proofs.FewNumbers.{few_more}
use Rattle.tv_catalog.proofs.SharedLaws.{put_segments, found_segment}
use Rattle.tv_store.proofs.Named.{fresh_is}
use Rattle.tv_store.proofs.ReaderNumbers.{few_published, few_released}
use Rattle.tv_store.proofs.Steps.{IsNoCommit}

-- the current commit stays
pub commit_stays : (c : Catalog) (managed : List (List ℕ)) (event : Event) (result : StepResult Catalog) → catalog_step c managed event ≡ Some result → result.1.commit ≡ c.commit
commit_stays c managed event result =
    catalog_changes (λ d. d.commit ≡ c.commit) c managed event result (record {
      same = refl;
      fresh = λ id is free. refl;
      said = λ id n segment is there none. refl;
      publishes = λ number reader noted bodies is there read. refl;
      shows = λ number reader is there. refl;
      reader = λ number. refl;
      searcher = λ number. refl;
    })

-- live segments are segments still
segments_stay : (c : Catalog) (managed : List (List ℕ)) (event : Event) (result : StepResult Catalog) → FitsCatalog event → AllByRecursion IsSegment c.live → catalog_step c managed event ≡ Some result → AllByRecursion IsSegment result.1.live
segments_stay c managed event result fits all =
    catalog_changes (λ d. AllByRecursion IsSegment d.live) c managed event result (record {
      same = all;
      fresh = λ id is free. put_segments c.live id fresh_segment (fresh_is id (subst FitsCatalog is fits)) all;
      said = λ id n segment is there none.
          let known = found_segment c.live id segment there all in
          put_segments c.live id (record segment { max_doc = n }) (numbered segment n id none known (subst FitsCatalog is fits).1) all;
      publishes = λ number reader noted bodies is there read. all;
      shows = λ number reader is there. all;
      reader = λ number. all;
      searcher = λ number. all;
    }) where
      numbered : (segment : LiveSegment) (n : ℕ) (id : List ℕ) → has_docs segment ≡ false → IsSegment (id, segment) → n < 2 ^ 32 → IsSegment (id, record segment { max_doc = n })
      numbered segment n id none known small = record { id = known.id; max_doc = small; deletes = omega (arith, undeleted segment.deletes (not (segment.max_doc == 0)) none); opstamp = known.opstamp }

-- the numbers of who reads are few still
pub numbers_grow : (bound : ℕ) (c : Catalog) (collections : Collections) (managed : List (List ℕ)) (event : Event) (result : StepResult Catalog) → FewNumbers bound c.reading collections → catalog_step c managed event ≡ Some result
    → FewNumbers (bound + written_by event) result.1.reading collections
numbers_grow bound c collections managed event result few =
    catalog_changes (λ d. FewNumbers (bound + written_by event) d.reading collections) c managed event result (record {
      same = more;
      fresh = λ id is free. more;
      said = λ id n segment is there none. more;
      publishes = λ number reader noted bodies is there read.
          subst (λ (e : Event). FewNumbers (bound + written_by e) (published c number reader (record { generation = reader.next; commit = noted; bodies = bodies })).1.reading collections) (sym is)
          (few_published bound c.reading collections _ number reader _ there refl refl few);
      shows = λ number reader is there. subst (λ (e : Event). FewNumbers (bound + written_by e) (with_searcher c reader.shown).reading collections) (sym is) (record {
        next_reader = omega (arith, few.next_reader);
        next_searcher = omega (arith, few.next_searcher);
        next_collection = omega (arith, few.next_collection);
        next_snapshots = (few_more bound 1 c.reading collections few).next_snapshots;
      });
      reader = λ number. few_released (bound + written_by event) c.reading collections _ number refl more;
      searcher = λ number. record { next_reader = more.next_reader; next_searcher = more.next_searcher; next_collection = more.next_collection; next_snapshots = more.next_snapshots };
    }) where
      more : FewNumbers (bound + written_by event) c.reading collections
      more = few_more bound (written_by event) c.reading collections few

-- it reads no file, takes no lock and doesn't commit
pub record Plain (event : Event) : Type 0 where
  pub reads : (s : State) → ReadsGood s event
  pub free : (c : Catalog) → TakesMetaLock c event → ⊥
  pub none : IsNoCommit event

pub plain_event : (c : Catalog) (managed : List (List ℕ)) (event : Event) (result : StepResult Catalog) → catalog_step c managed event ≡ Some result → Plain event
plain_event c managed (events.Commit payload ids) result e = absurd cc
plain_event c managed events.Gc result e = absurd cc
plain_event c managed events.GcBegin result e = absurd cc
plain_event c managed (events.Reader policy) result e = absurd cc
plain_event c managed (events.Reload number) result e = absurd cc
plain_event c managed (events.ReloadLock number) result e = absurd cc
plain_event c managed (events.ReloadOpen number) result e = absurd cc
plain_event c managed events.Deliver result e = absurd cc
plain_event c managed other result e = record { reads = λ s. tt; free = λ k takes. takes; none = tt }

-- what is held after it
pub catalog_held : (reads : Reads) (kept : KeptState) (s : State) (event : Event) (result : StepResult Catalog) → FitsCatalog event → catalog_step kept.catalog kept.managed event ≡ Some result → Holds reads kept s
    → Holds reads (record kept { catalog = result.1 }) (on_catalog s result).1
catalog_held reads kept s event result fits e h =
    let here : catalog_step s.catalog s.managed event ≡ Some result = subst (λ (c : Catalog). catalog_step c s.managed event ≡ Some result) h.catalog (subst (λ (names : List (List ℕ)). catalog_step kept.catalog names event ≡ Some result) h.managed e) in
    record {
      catalog = refl;
      managed = h.managed;
      collections = h.collections;
      segments = segments_stay s.catalog s.managed event result fits h.segments here;
      names = h.names;
      files = h.files;
      left = h.left;
      meta = (h.meta.0, h.meta.1, subst (λ (commit : Commit). Means kept.form.settings kept.form.schema h.meta.0 commit) (sym (commit_stays s.catalog s.managed event result here)) h.meta.2);
      listing = h.listing;
      listed = h.listed;
    }
