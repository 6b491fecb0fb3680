use Rattle.std.proofs.Common.{rules, ◌≡◌, ◌<◌, ℕ, false, [], ◌∷◌, codes, Some, inl, inr, is_some, refl, sym, ap, subst, ◌∙◌}
use Rattle.std.specs.Fmt.{decimal}
use Rattle.std.specs.List.{AllByRecursion}
use Rattle.std.specs.Option.{option_copied}
use Rattle.tv_formats.specs.Commits.{Commit, IsSegment}
use Rattle.tv_events.specs.AnswerLines.{line}
use Rattle.tv_machine.specs.Living.{is_busy}
use Rattle.tv_machine.specs.State.{Catalog, reader_at}
use Rattle.tv_catalog.specs.Actions.{loaded_by}
use Rattle.tv_catalog.specs.Kept.{kept_with}
use Rattle.tv_catalog.proofs.PlannedReaders.{may_reload, planned_reload, published_live, reload_fits, reload_reads}
use Rattle.tv_catalog.proofs.Reloading.{published_busy}
use Rattle.tv_catalog.proofs.plan_readers.plan_reload.Goals as goal

pub returns-clause-plans : goal.returns-clause-plans
returns-clause-plans g c =
    let catalog = c.args.catalog.now in
    let number = c.args.number in
    let reader = c.in-Some.reader.now in
    let there : reader_at catalog number ≡ Some reader = sym c.reader.ensures ∙ ap option_copied c.in-Some.is in
    let none : is_some reader.reload ≡ false = sym c.is_reloading.ensures ∙ c.if-is_reloading.false in
    let free : is_busy catalog ≡ false = sym c.is_busy.ensures ∙ c.if-is_busy.false in
    let generation = c.next_generation-generation.result in
    let small : generation < 18446744073709551615 = search rules in
    let fits : reader.next < 18446744073709551615 = subst (λ (n : ℕ). n < 18446744073709551615) c.next_generation-generation.ensures small in
    record {
      steps = λ s m deletes.
          planned_reload s number generation reader c.into_bytes.result.items (ap (λ (k : Catalog). reader_at k number) (sym m.catalog) ∙ there) none (ap is_busy (sym m.catalog) ∙ free) c.next_generation-generation.ensures
          (c.into_bytes.ensures.bytes ∙ c.in_ok-answer.ensures
          ∙ ap (λ (n : ℕ). line (codes "published") (decimal number ∷ decimal generation ∷ decimal n ∷ []))
          (c.opstamp-opstamp.ensures ∙ ap (λ (k : Commit). k.opstamp) c.commit.ensures ∙ ap (λ (k : Catalog). k.commit.opstamp) m.catalog)) deletes;
      suits = λ s m. tt;
      ready = tt;
      change = (reader, there, fits);
      segments = λ s m reply. subst (AllByRecursion IsSegment) (sym (published_live s.catalog number (reader_at s.catalog number) (loaded_by reply))) m.segments;
      beside = inr tt;
      feed = c.into_bytes.ensures.feed;
      room = search rules;
      adds = search rules;
      numbers = search rules;
      changes = λ by_step. tt;
      locks = λ takes. may_reload catalog number reader there none free;
      unlocked = λ takes. tt;
      loads = (may_reload catalog number reader there none free, λ s m. reload_reads s number reader (ap (λ (k : Catalog). reader_at k number) (sym m.catalog) ∙ there) none (ap is_busy (sym m.catalog) ∙ free));
      keeps = λ reply gives. rw there (published_busy catalog number reader (loaded_by reply) free none);
      sure = inl refl;
      saves = tt;
      fits = λ spent. reload_fits (kept_with catalog (g.K.KnownFiles.known c.args.files.now)) number reader there none free fits spent;
      spends = λ never. absurd never;
    }
