use Rattle.std.proofs.Common.{rules, ◌≡◌, true, Some, inr, is_some, refl, sym, ap, subst, ◌∙◌}
use Rattle.std.specs.List.{AllByRecursion}
use Rattle.std.specs.Option.{option_copied}
use Rattle.tv_formats.specs.Collections.{Rises}
use Rattle.tv_formats.specs.Commits.{Commit, IsSegment}
use Rattle.tv_machine.specs.Living.{HasOneLock, unread_by}
use Rattle.tv_machine.specs.State.{Catalog, Read, Readers, reader_at}
use Rattle.tv_catalog.specs.Actions.{loaded_by}
use Rattle.tv_machine.proofs.Locks.{read_free}
use Rattle.tv_catalog.proofs.PlannedReaders.{busy_by, planned_open_reload, unread_reads}
use Rattle.tv_catalog.proofs.Reloading.{kept_live}
use Rattle.tv_catalog.proofs.SharedLaws.{only_numbers}
use Rattle.tv_catalog.proofs.plan_readers.plan_reload_open.Goals as goal

pub returns-clause-plans : goal.returns-clause-plans
returns-clause-plans g c =
    let catalog = c.args.catalog.now in
    let number = c.args.number in
    let reader = c.in-Some.reader.now in
    let there : reader_at catalog number ≡ Some reader = sym c.reader.ensures ∙ ap option_copied c.in-Some.is in
    let noted = c.in_ok-noted.noted in
    let unread : unread_by reader.reload ≡ Some noted = sym c.noted.ensures ∙ ap option_copied c.in-Some-noted.is ∙ ap (λ (k : Commit). Some k) (sym c.in_ok-noted.ensures) in
    let locked : is_some (unread_by reader.reload) ≡ true = ap is_some unread in
    let one : HasOneLock catalog.reading.readers = subst (λ (v : Readers). HasOneLock v.readers) c.readers.ensures c.in_order.ensures.one in
    let rises : Rises catalog.reading.readers = subst (λ (v : Readers). Rises v.readers) c.readers.ensures c.in_order.ensures.order in
    record {
      steps = λ s m deletes.
          planned_open_reload s number reader noted c.into_bytes.result.items (ap (λ (k : Catalog). reader_at k number) (sym m.catalog) ∙ there) unread (c.into_bytes.ensures.bytes ∙ c.in_ok-answer.ensures) deletes;
      suits = λ s m. (number, rw (ap (λ (k : Catalog). reader_at k number) (sym m.catalog) ∙ there) unread);
      ready = busy_by catalog number reader there locked;
      change = ap is_some there;
      segments = λ s m reply. subst (AllByRecursion IsSegment) (sym (kept_live s.catalog number (loaded_by reply))) m.segments;
      beside = inr tt;
      feed = c.into_bytes.ensures.feed;
      room = search rules;
      adds = search rules;
      numbers = search rules;
      changes = λ by_step. tt;
      locks = λ takes. absurd takes;
      unlocked = λ takes. absurd takes;
      loads = (rw there locked, λ s m. unread_reads s number reader noted (ap (λ (k : Catalog). reader_at k number) (sym m.catalog) ∙ there) unread);
      keeps = λ reply gives. rw (gives.1, there) (read_free catalog number reader (record reader { reload = Some (Read gives.0.commit gives.0.bodies) }) one rises there locked refl);
      sure = inr tt;
      saves = tt;
      fits = λ spent. only_numbers spent;
      spends = λ never. absurd never;
    }
