use Rattle.std.proofs.Common.{rules, ◌≡◌, ℕ, false, [], ◌∷◌, codes, Some, inr, is_some, refl, sym, ap, subst, ◌∙◌}
use Rattle.std.specs.Fmt.{decimal}
use Rattle.std.specs.List.{AllByRecursion}
use Rattle.std.specs.Option.{option_copied}
use Rattle.tv_formats.specs.Commits.{IsSegment}
use Rattle.tv_events.specs.AnswerLines.{line}
use Rattle.tv_machine.specs.Living.{is_busy}
use Rattle.tv_machine.specs.State.{Catalog, reader_at}
use Rattle.tv_catalog.proofs.PlannedReaders.{may_reload, planned_lock}
use Rattle.tv_catalog.proofs.Reloading.{noted_busy, reload_live}
use Rattle.tv_catalog.proofs.SharedLaws.{only_numbers}
use Rattle.tv_catalog.proofs.plan_readers.plan_reload_lock.Goals as goal

pub returns-clause-plans : goal.returns-clause-plans
returns-clause-plans g c =
    let catalog = c.args.catalog.now in
    let number = c.args.number in
    let reader = c.in-Some.reader.now in
    let there : reader_at catalog number ≡ Some reader = sym c.reader.ensures ∙ ap option_copied c.in-Some.is in
    let none : is_some reader.reload ≡ false = sym c.is_reloading.ensures ∙ c.if-is_reloading.false in
    let free : is_busy catalog ≡ false = sym c.is_busy.ensures ∙ c.if-is_busy.false in
    let noted = c.in_ok-noted.noted in
    let is : noted ≡ catalog.commit = c.in_ok-noted.ensures ∙ c.commit.ensures in
    record {
      steps = λ s m deletes.
          planned_lock s number reader noted c.into_bytes.result.items (ap (λ (k : Catalog). reader_at k number) (sym m.catalog) ∙ there) none (ap is_busy (sym m.catalog) ∙ free) (is ∙ ap (λ (k : Catalog). k.commit) m.catalog)
          (c.into_bytes.ensures.bytes ∙ c.in_ok-answer.ensures ∙ ap (λ (n : ℕ). line (codes "locked") (decimal number ∷ decimal n ∷ [])) c.opstamp.ensures) deletes;
      suits = λ s m. tt;
      ready = free;
      change = (free, ap is_some there);
      segments = λ s m reply. subst (AllByRecursion IsSegment) (sym (reload_live s.catalog number (reader_at s.catalog number) _)) m.segments;
      beside = inr tt;
      feed = c.into_bytes.ensures.feed;
      room = search rules;
      adds = search rules;
      numbers = search rules;
      changes = λ by_step. tt;
      locks = λ takes. may_reload catalog number reader there none free;
      unlocked = λ takes. tt;
      loads = λ s m. refl;
      keeps = λ reply gives. rw there (noted_busy catalog number reader noted);
      sure = inr tt;
      saves = tt;
      fits = λ spent. only_numbers spent;
      spends = λ never. absurd never;
    }
