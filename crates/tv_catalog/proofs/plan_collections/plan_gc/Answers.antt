use Rattle.std.proofs.Common.{subst, sym, [], cond, false, Bool, rules, ◌≡◌, ◌++◌, ℕ, List, length, codes, map, string_bytes, inl, refl, ap, ◌∙◌, arith}
use Rattle.tv_formats.specs.Collections.{held}
use Rattle.tv_formats.specs.Names.{has, meta_name}
use Rattle.tv_events.specs.AnswerLines.{line}
use Rattle.tv_machine.specs.Living.{is_busy, living}
use Rattle.tv_machine.specs.State.{Catalog, State}
use Rattle.tv_catalog.specs.Plans.{InMemory}
use Rattle.tv_catalog.specs.Kept.{kept_with}
use Rattle.tv_catalog.proofs.PlannedCollections.{gc_fits, planned_gc}
use Rattle.tv_catalog.specs.Effects.{collection_after}
use Rattle.tv_catalog.specs.Exhausted.{SomePassesEnd}
use Rattle.tv_catalog.proofs.SharedLaws.{only_numbers}
use Rattle.tv_catalog.proofs.plan_collections.plan_gc.Goals as goal

pub returns-clause-plans : goal.returns-clause-plans
returns-clause-plans g c =
    let kept = kept_with c.args.catalog.now (g.K.KnownFiles.known c.args.files.now) in
    let names = map string_bytes c.in_ok-living.living.keys in
    let needs : (s : State) → InMemory kept s → (n : List ℕ) → has names n ≡ has (living s.catalog) n = λ s m n. c.in_ok-living.ensures n ∙ ap (λ (k : Catalog). has (living k) n) m.catalog in
    let free : is_busy kept.catalog ≡ false = sym c.is_busy.ensures ∙ c.if-is_busy.false in
    record {
      steps = λ s m deletes. planned_gc s names deletes (ap is_busy (sym m.catalog) ∙ free) (needs s m);
      suits = needs;
      ready = c.in_ok-living.ensures meta_name;
      change = tt;
      segments = λ s m reply. search rules;
      beside = inl refl;
      feed = search rules;
      room = λ reply gives.
          let fits = gc_fits (names ++ held kept.collections) kept.managed c.in_ok-line.line.items gives.0 reply gives.1 in
          let all = ap (λ (ns : List (List ℕ)). length (line (codes "gc deleted failed") ns)) c.managed.ensures.names in
          omega (arith, fits, all, c.in_ok-line.ensures.room);
      adds = search rules;
      numbers = search rules;
      changes = search rules;
      locks = λ takes. free;
      unlocked = λ takes. tt;
      loads = λ s m. refl;
      keeps = λ reply gives. refl;
      sure = inl refl;
      saves = tt;
      fits = λ spent. subst (λ (b : Bool). SomePassesEnd (cond b [] (collection_after kept.collections))) free (only_numbers spent);
      spends = λ spent. inl (subst (λ (b : Bool). SomePassesEnd (cond b [] (collection_after kept.collections))) (sym free) spent);
    }
