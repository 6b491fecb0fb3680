use Rattle.std.proofs.Common.{inl, rules, refl, ◌≡◌, Some, inr, ap, sym, ◌∙◌}
use Rattle.tv_machine.specs.State.{live_at}
use Rattle.tv_catalog.specs.declared.action.Action.TheVariants as actions
use Rattle.tv_catalog.proofs.PlannedSegments.{planned_release, released_segments}
use Rattle.tv_catalog.proofs.SharedLaws.{only_numbers}
use Rattle.tv_catalog.proofs.plan_segments.plan_release.Goals as goal

pub returns-clause-plans : goal.returns-clause-plans
returns-clause-plans g c =
    let live : live_at c.args.catalog.now c.args.id ≡ Some c.in-Some.segment = sym c.live_segment.ensures ∙ c.in-Some.is in
    record {
      steps = λ s m deletes.
          planned_release s c.args.id c.in-Some.segment c.in_ok-names.names.items c.into_bytes.result.items (ap (λ k. live_at k c.args.id) (sym m.catalog) ∙ live) c.in_ok-names.ensures
          (c.into_bytes.ensures.bytes ∙ c.in_ok-answer.ensures);
      suits = λ s m. tt;
      ready = tt;
      change = tt;
      segments = λ s m reply. released_segments s (actions.Leave c.in_ok-names.names) c.args.id reply tt m.segments;
      beside = inr tt;
      feed = c.into_bytes.ensures.feed;
      room = search rules;
      adds = search rules;
      numbers = search rules;
      changes = λ by_step. tt;
      locks = λ takes. takes;
      unlocked = λ takes. takes;
      loads = λ s m. refl;
      keeps = λ reply gives. refl;
      sure = inl refl;
      saves = tt;
      fits = λ spent. only_numbers spent;
      spends = λ spent. absurd spent;
    }
