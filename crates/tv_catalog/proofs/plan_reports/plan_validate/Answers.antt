use Rattle.std.proofs.Common.{inl, rules, arith, ◌≡◌, ◌≤◌, ◌+◌, ℕ, [], List, length, vec_capacity, true, refl, sym, ap, subst, ◌∙◌}
use Rattle.std.proofs.lemmas.Grind.{common_steps}
use Rattle.std.specs.List.{AllByRecursion}
use Rattle.tv_formats.specs.Files.{has_no_feed}
use Rattle.tv_machine.specs.Index.{IsFileOf}
use Rattle.tv_events.specs.AnswerLines.{line}
use Rattle.tv_machine.specs.ReportEvents.{committed_names, validated}
use Rattle.tv_machine.specs.State.{Catalog, State}
use Rattle.tv_catalog.proofs.ValidatedFiles.{files_committed, planned_validate, validated_fits}
use Rattle.tv_catalog.specs.Actions.{line_of}
use Rattle.tv_catalog.specs.Kept.{kept_with}
use Rattle.tv_catalog.specs.Plans.{InMemory}
use Rattle.tv_catalog.proofs.plan_reports.plan_validate.Goals as goal

pub returns-clause-plans : goal.returns-clause-plans
returns-clause-plans g c =
    let names = c.in_ok-names.names.items in
    let told = c.in_ok-line.line in
    let kept = kept_with c.args.catalog.now (g.K.KnownFiles.known c.args.files.now) in
    let found : names ≡ committed_names c.args.catalog.now (g.K.KnownFiles.known c.args.files.now).managed = c.in_ok-names.ensures ∙ ap (committed_names c.args.catalog.now) c.managed.ensures.names in
    let are : (s : State) → InMemory kept s → names ≡ committed_names s.catalog s.managed =
    λ s m. found ∙ ap (λ (k : Catalog). committed_names k (g.K.KnownFiles.known c.args.files.now).managed) m.catalog ∙ ap (committed_names s.catalog) m.managed in
    let fits : length (line [] names) + 18 ≤ vec_capacity told = subst (λ (ns : List (List ℕ)). length (line [] ns) + 18 ≤ vec_capacity told) c.as_slice.ensures.value c.in_ok-line.ensures.room in
    record {
      steps = λ s m deletes. ap (validated s) (sym (are s m)) ∙ planned_validate s names told.items c.in_ok-line.ensures.word;
      suits = λ s m. subst (AllByRecursion IsFileOf) (sym (are s m)) (files_committed s.catalog.commit.segments s.managed m.committed);
      ready = tt;
      change = tt;
      segments = λ s m reply. m.segments;
      beside = first_of (search rules, grind (arith, common_steps));
      feed = subst (λ (t : List ℕ). has_no_feed t ≡ true) (sym c.in_ok-line.ensures.word) refl;
      room = λ reply gives. subst (λ (t : List ℕ). length (line_of t reply) ≤ vec_capacity told) (sym c.in_ok-line.ensures.word) (validated_fits names reply (vec_capacity told) fits gives);
      adds = omega arith;
      numbers = omega arith;
      changes = λ writes. tt;
      locks = λ takes. takes;
      unlocked = λ takes. takes;
      loads = λ s m. refl;
      keeps = λ reply gives. refl;
      sure = inl refl;
      saves = tt;
      fits = first_of (search rules, grind (arith, common_steps));
      spends = first_of (search rules, grind (arith, common_steps));
    }
