use Rattle.std.proofs.Common.{rules, ◌≡◌, ◌<◌, ℕ, false, [], ◌∷◌, codes, inl, inr, refl, sym, ap, subst, ◌∙◌}
use Rattle.std.specs.Fmt.{decimal}
use Rattle.std.specs.List.{AllByRecursion}
use Rattle.tv_formats.specs.Commits.{Commit, IsSegment}
use Rattle.tv_events.specs.AnswerLines.{line}
use Rattle.tv_machine.specs.Living.{is_busy}
use Rattle.tv_machine.specs.State.{Catalog, Readers}
use Rattle.tv_catalog.specs.Actions.{loaded_by}
use Rattle.tv_catalog.specs.Kept.{kept_with}
use Rattle.tv_catalog.proofs.PlannedReaders.{added_live, planned_reader, reader_fits, reader_reads}
use Rattle.tv_catalog.proofs.Reloading.{added_busy}
use Rattle.tv_catalog.proofs.plan_readers.plan_reader.Goals as goal

pub returns-clause-plans : goal.returns-clause-plans
returns-clause-plans g c =
    let catalog = c.args.catalog.now in
    let policy = c.args.policy in
    let number = c.next_reader-number.result in
    let free : is_busy catalog ≡ false = sym c.is_busy.ensures ∙ c.if-is_busy.false in
    let next : number ≡ catalog.reading.next_reader = c.next_reader-number.ensures ∙ ap (λ (who : Readers). who.next_reader) c.readers.ensures in
    let small : number < 18446744073709551615 = search rules in
    let fits : catalog.reading.next_reader < 18446744073709551615 = subst (λ (n : ℕ). n < 18446744073709551615) next small in
    record {
      steps = λ s m deletes.
          planned_reader s policy number c.into_bytes.result.items (ap is_busy (sym m.catalog) ∙ free) (next ∙ ap (λ (k : Catalog). k.reading.next_reader) m.catalog)
          (c.into_bytes.ensures.bytes ∙ c.in_ok-answer.ensures
          ∙ ap (λ (n : ℕ). line (codes "reader") (decimal number ∷ decimal 0 ∷ decimal n ∷ []))
          (c.opstamp.ensures ∙ ap (λ (k : Commit). k.opstamp) c.commit.ensures ∙ ap (λ (k : Catalog). k.commit.opstamp) m.catalog)) deletes;
      suits = λ s m. tt;
      ready = tt;
      change = fits;
      segments = λ s m reply. subst (AllByRecursion IsSegment) (sym (added_live s.catalog policy (loaded_by reply))) m.segments;
      beside = inr tt;
      feed = c.into_bytes.ensures.feed;
      room = search rules;
      adds = search rules;
      numbers = search rules;
      changes = λ by_step. tt;
      locks = λ takes. free;
      unlocked = λ takes. tt;
      loads = (free, λ s m. reader_reads s policy (ap is_busy (sym m.catalog) ∙ free));
      keeps = λ reply gives. added_busy catalog policy (loaded_by reply) free;
      sure = inl refl;
      saves = tt;
      fits = λ spent. reader_fits (kept_with catalog (g.K.KnownFiles.known c.args.files.now)) policy free fits spent;
      spends = λ never. absurd never;
    }
