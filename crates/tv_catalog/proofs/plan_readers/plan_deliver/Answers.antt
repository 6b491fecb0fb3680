use Rattle.std.proofs.Common.{rules, ◌≡◌, true, false, true≢false, filter, map, codes, inl, inr, refl, sym, ap, subst, ◌∙◌}
use Rattle.std.specs.Prelude.{is_some}
use Rattle.std.specs.Fmt.{decimal}
use Rattle.std.specs.List.{AllByRecursion, list_any}
use Rattle.tv_formats.specs.Commits.{IsSegment}
use Rattle.tv_events.specs.AnswerLines.{line}
use Rattle.tv_machine.specs.Living.{is_busy}
use Rattle.tv_machine.specs.ReloadEvents.{with_notice}
use Rattle.tv_machine.specs.State.{Catalog, Readers}
use Rattle.tv_catalog.specs.Actions.{loaded_by}
use Rattle.tv_catalog.specs.Kept.{kept_with}
use Rattle.tv_snapshots.specs.Reloads.{CanServe, IsSpent}
use Rattle.tv_catalog.proofs.PlannedReaders.{deliver_fits, deliver_reads, deliver_spent, idle_reads, may_deliver, planned_deliver, planned_idle}
use Rattle.tv_catalog.proofs.Reloading.{delivered_busy, delivered_live}
use Rattle.tv_catalog.proofs.plan_readers.plan_deliver.Goals as goal

pub returns-then-is_spent-clause-cause : goal.returns-then-is_spent-clause-cause
returns-then-is_spent-clause-cause g c =
    let catalog = c.args.catalog.now in
    let kept = kept_with catalog (g.K.KnownFiles.known c.args.files.now) in
    let free : is_busy catalog ≡ false = sym c.is_busy.ensures ∙ c.if-is_busy.false in
    let who : c.readers-readers.result.now ≡ catalog.reading = c.readers-readers.ensures in
    let none : list_any (λ e. is_some e.1.reload) (with_notice catalog) ≡ false =
    ap (λ (w : Readers). list_any (λ e. is_some e.1.reload) (filter (λ e. e.1.has_notice) w.readers)) (sym who) ∙ sym c.is_unfinished.ensures ∙ c.if-is_unfinished.false in
    deliver_spent kept free none (subst (λ (w : Readers). IsSpent w.readers) who (c.is_spent.ensures.spent c.if-is_spent.true))

pub returns-then-has_notice-clause-plans : goal.returns-then-has_notice-clause-plans
returns-then-has_notice-clause-plans g c =
    let catalog = c.args.catalog.now in
    let kept = kept_with catalog (g.K.KnownFiles.known c.args.files.now) in
    let free : is_busy catalog ≡ false = sym c.is_busy.ensures ∙ c.if-is_busy.false in
    let who : c.readers-readers.result.now ≡ catalog.reading = c.readers-readers.ensures in
    let none : list_any (λ e. is_some e.1.reload) (with_notice catalog) ≡ false =
    ap (λ (w : Readers). list_any (λ e. is_some e.1.reload) (filter (λ e. e.1.has_notice) w.readers)) (sym who) ∙ sym c.is_unfinished.ensures ∙ c.if-is_unfinished.false in
    let can : CanServe catalog.reading.readers = subst (λ (w : Readers). CanServe w.readers) who (c.is_spent.ensures.fits c.if-is_spent.false) in
    let some : list_any (λ e. e.1.has_notice) catalog.reading.readers ≡ true = ap (λ (w : Readers). list_any (λ e. e.1.has_notice) w.readers) (sym who) ∙ sym c.has_notice.ensures ∙ c.if-has_notice.true in
    let may = may_deliver catalog free none in
    record {
      steps = λ s m deletes.
          planned_deliver s c.into_bytes-line.result.items (ap is_busy (sym m.catalog) ∙ free) (ap (λ (k : Catalog). list_any (λ e. is_some e.1.reload) (with_notice k)) (sym m.catalog) ∙ none)
          (c.into_bytes-line.ensures.bytes ∙ c.in_ok-answer.ensures ∙ ap (λ (w : Readers). line (codes "delivered") (map (λ e. decimal e.0) (filter (λ e. e.1.has_notice) w.readers))) (who ∙ ap (λ (k : Catalog). k.reading) m.catalog)) deletes;
      suits = λ s m. tt;
      ready = tt;
      change = can;
      segments = λ s m reply. subst (AllByRecursion IsSegment) (sym (delivered_live s.catalog (loaded_by reply))) m.segments;
      beside = inr tt;
      feed = c.into_bytes-line.ensures.feed;
      room = search rules;
      adds = search rules;
      numbers = search rules;
      changes = λ by_step. tt;
      locks = λ takes. (may, some);
      unlocked = λ takes. tt;
      loads = ((may, some), λ s m. deliver_reads s (ap is_busy (sym m.catalog) ∙ free) (ap (λ (k : Catalog). list_any (λ e. is_some e.1.reload) (with_notice k)) (sym m.catalog) ∙ none) (ap (λ (k : Catalog). list_any (λ e. e.1.has_notice) k.reading.readers) (sym m.catalog) ∙ some));
      keeps = λ reply gives. delivered_busy catalog (loaded_by reply);
      sure = inl refl;
      saves = tt;
      fits = λ spent. deliver_fits kept free none can spent;
      spends = λ never. absurd never;
    }

pub returns-clause-plans : goal.returns-clause-plans
returns-clause-plans g c =
    let catalog = c.args.catalog.now in
    let kept = kept_with catalog (g.K.KnownFiles.known c.args.files.now) in
    let free : is_busy catalog ≡ false = sym c.is_busy.ensures ∙ c.if-is_busy.false in
    let who : c.readers-readers.result.now ≡ catalog.reading = c.readers-readers.ensures in
    let none : list_any (λ e. is_some e.1.reload) (with_notice catalog) ≡ false =
    ap (λ (w : Readers). list_any (λ e. is_some e.1.reload) (filter (λ e. e.1.has_notice) w.readers)) (sym who) ∙ sym c.is_unfinished.ensures ∙ c.if-is_unfinished.false in
    let can : CanServe catalog.reading.readers = subst (λ (w : Readers). CanServe w.readers) who (c.is_spent.ensures.fits c.if-is_spent.false) in
    let idle : list_any (λ e. e.1.has_notice) catalog.reading.readers ≡ false = ap (λ (w : Readers). list_any (λ e. e.1.has_notice) w.readers) (sym who) ∙ sym c.has_notice.ensures ∙ c.if-has_notice.false in
    record {
      steps = λ s m deletes.
          planned_idle s c.into_bytes-line.result.items (ap is_busy (sym m.catalog) ∙ free) (ap (λ (k : Catalog). list_any (λ e. is_some e.1.reload) (with_notice k)) (sym m.catalog) ∙ none) (ap (λ (k : Catalog). list_any (λ e. e.1.has_notice) k.reading.readers) (sym m.catalog) ∙ idle)
          (c.into_bytes-line.ensures.bytes ∙ c.in_ok-answer.ensures ∙ ap (λ (w : Readers). line (codes "delivered") (map (λ e. decimal e.0) (filter (λ e. e.1.has_notice) w.readers))) (who ∙ ap (λ (k : Catalog). k.reading) m.catalog)) deletes;
      suits = λ s m. tt;
      ready = tt;
      change = tt;
      segments = λ s m reply. m.segments;
      beside = inl refl;
      feed = c.into_bytes-line.ensures.feed;
      room = search rules;
      adds = search rules;
      numbers = search rules;
      changes = λ by_step. tt;
      locks = λ takes. absurd takes;
      unlocked = λ takes. absurd (true≢false (sym takes.1 ∙ idle));
      loads = λ s m. idle_reads s (ap is_busy (sym m.catalog) ∙ free) (ap (λ (k : Catalog). list_any (λ e. is_some e.1.reload) (with_notice k)) (sym m.catalog) ∙ none) (ap (λ (k : Catalog). list_any (λ e. e.1.has_notice) k.reading.readers) (sym m.catalog) ∙ idle);
      keeps = λ reply gives. refl;
      sure = inl refl;
      saves = tt;
      fits = λ spent. deliver_fits kept free none can spent;
      spends = λ never. absurd never;
    }
