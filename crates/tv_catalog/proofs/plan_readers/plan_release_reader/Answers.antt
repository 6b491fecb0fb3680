use Rattle.std.proofs.Common.{rules, ◌≡◌, Some, inr, refl, sym, ap, subst, ◌∙◌}
use Rattle.tv_formats.specs.Collections.{Rises}
use Rattle.tv_machine.specs.Living.{HasOneLock}
use Rattle.tv_machine.specs.State.{Catalog, Readers, reader_at}
use Rattle.tv_machine.proofs.Locks.{gone_free}
use Rattle.tv_catalog.proofs.PlannedReaders.{busy_by, holder_of, planned_end}
use Rattle.tv_catalog.proofs.SharedLaws.{only_numbers}
use Rattle.tv_catalog.proofs.plan_readers.plan_release_reader.Goals as goal

pub returns-clause-plans : goal.returns-clause-plans
returns-clause-plans g c =
    let catalog = c.args.catalog.now in
    let number = c.args.number in
    let holder = holder_of catalog number c.requires in
    let there : reader_at catalog number ≡ Some holder.0 = holder.1 in
    let one : HasOneLock catalog.reading.readers = subst (λ (v : Readers). HasOneLock v.readers) c.readers.ensures c.in_order.ensures.one in
    let rises : Rises catalog.reading.readers = subst (λ (v : Readers). Rises v.readers) c.readers.ensures c.in_order.ensures.order in
    record {
      steps = λ s m deletes. planned_end s number holder.0 c.into_bytes.result.items (ap (λ (k : Catalog). reader_at k number) (sym m.catalog) ∙ there) (c.into_bytes.ensures.bytes ∙ c.in_ok-answer.ensures) deletes;
      suits = λ s m. tt;
      ready = busy_by catalog number holder.0 there holder.2;
      change = tt;
      segments = λ s m reply. m.segments;
      beside = inr tt;
      feed = c.into_bytes.ensures.feed;
      room = search rules;
      adds = search rules;
      numbers = search rules;
      changes = λ by_step. tt;
      locks = λ takes. absurd takes;
      unlocked = λ takes. absurd takes;
      loads = λ s m. refl;
      keeps = λ reply gives. gone_free catalog number holder.0 one rises there holder.2;
      sure = inr tt;
      saves = tt;
      fits = λ spent. only_numbers spent;
      spends = λ never. absurd never;
    }
