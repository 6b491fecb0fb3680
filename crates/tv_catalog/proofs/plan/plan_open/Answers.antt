use Rattle.std.proofs.Common.{rules, ◌≡◌, inl, refl, true, ap, subst, sym, ◌∙◌}
use Rattle.tv_formats.specs.Names.{has}
use Rattle.tv_machine.specs.Living.{living}
use Rattle.tv_machine.specs.State.{live_at}
use Rattle.tv_catalog.proofs.LivingNames.{living_name}
use Rattle.tv_catalog.proofs.Planned.{planned_open}
use Rattle.tv_catalog.proofs.plan.plan_open.Goals as goal

pub returns-clause-plans : goal.returns-clause-plans
returns-clause-plans g c =
    let live = sym c.live_segment.ensures ∙ c.in-Some.is in
    record {
      steps = λ s m deletes.
          planned_open s c.args.id c.in_ok-name.name c.args.component c.in-Some.segment c.in_ok-line.line.items (ap (λ k. live_at k c.args.id) (sym m.catalog) ∙ live) (sym c.lacks_deletes.ensures ∙ c.if-lacks_deletes.false)
          c.in_ok-name.ensures.name (c.in_ok-line.ensures.line ∙ c.in_ok-answer.ensures) deletes;
      suits = λ s m.
          subst (λ n. has (living s.catalog) n ≡ true) (sym c.in_ok-name.ensures.name) (living_name s c.args.id c.in-Some.segment c.args.component (ap (λ k. live_at k c.args.id) (sym m.catalog) ∙ live));
      ready = search rules;
      change = tt;
      segments = λ s m reply. search rules;
      beside = inl refl;
      feed = search rules;
      room = search rules;
      adds = search rules;
      changes = search rules;
      locks = search rules;
      unlocked = search rules;
      loads = λ s m. refl;
      numbers = search rules;
      keeps = λ reply gives. refl;
      sure = inl refl;
      saves = tt;
      fits = search rules;
      spends = search rules;
    }
