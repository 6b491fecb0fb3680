use Rattle.std.proofs.Common.{inl, rules, refl, ◌≡◌, ◌<◌, ◌||◌, false, Some, inr, ap, subst, sym, ◌∙◌, map, string_bytes}
use Rattle.tv_formats.specs.declared.segment.DeleteMeta.{DeleteMeta}
use Rattle.tv_formats.specs.Collections.{held}
use Rattle.tv_formats.specs.Names.{at, has}
use Rattle.tv_machine.specs.CommitEvents.{last_stamp}
use Rattle.tv_machine.specs.DeleteEvents.{delete_name, is_committed_delete, next_deletes}
use Rattle.tv_machine.specs.State.{Catalog, live_at}
use Rattle.tv_catalog.specs.declared.action.Action.TheVariants as actions
use Rattle.tv_catalog.proofs.PlannedSegments.{deleted_segments, planned_deletes}
use Rattle.tv_catalog.proofs.SharedLaws.{only_numbers}
use Rattle.tv_catalog.proofs.plan_segments.plan_deletes.Goals as goal

pub returns-clause-plans : goal.returns-clause-plans
returns-clause-plans g c =
    let catalog = c.args.catalog.now in
    let id = c.args.id in
    let segment = c.in-Some.segment in
    let name = c.in_ok-name.name in
    let stamp = c.next_opstamp-2.result in
    let all = map string_bytes c.managed.result.now.keys in
    let live : live_at catalog id ≡ Some segment = sym c.live_segment.ensures ∙ c.in-Some.is in
    let is : name ≡ delete_name id (Some (next_deletes catalog c.args.n)) = c.in_ok-name.ensures.name ∙ ap (λ (d : DeleteMeta). delete_name id (Some d)) c.next_deletes.ensures in
    let spared : has (held (g.K.KnownFiles.known c.args.files.now).collections) name ≡ false = sym c.is_held.ensures ∙ c.if-is_held.false in
    let free : (has all name || is_committed_delete (at catalog.commit.segments id) id name) ≡ false = sym c.in_ok-is_name_in_use.ensures ∙ c.if-branch.false in
    let next : catalog.next < last_stamp = search rules in
    record {
      steps = λ s m deletes.
          planned_deletes catalog (g.K.KnownFiles.known c.args.files.now).collections all s id name c.args.n stamp segment c.in_ok-names.names.items c.into_bytes.result.items m.catalog m.collections (c.managed.ensures.names ∙ m.managed) live c.if-segment-n.false
          (λ e. c.if-next_opstamp-eq18446744073709551615.false (c.next_opstamp.ensures ∙ sym c.next_opstamp-2.ensures ∙ e)) is spared free c.in_ok-names.ensures c.next_opstamp-2.ensures
          (c.into_bytes.ensures.bytes ∙ c.in_ok-answer.ensures);
      suits = λ s m. tt;
      ready = tt;
      change = (next, c.if-segment-n.false, live);
      segments = λ s m reply.
          deleted_segments s (actions.Leave c.in_ok-names.names) id segment c.args.n reply tt (ap (λ (k : Catalog). live_at k id) (sym m.catalog) ∙ live) c.if-segment-n.false (subst (λ (k : Catalog). k.next < last_stamp) m.catalog next) m.segments;
      beside = inr tt;
      feed = c.into_bytes.ensures.feed;
      room = search rules;
      adds = search rules;
      numbers = search rules;
      changes = λ by_step. tt;
      locks = λ takes. takes;
      unlocked = λ takes. takes;
      loads = λ s m. refl;
      keeps = λ reply gives. refl;
      sure = inl refl;
      saves = tt;
      fits = λ spent. only_numbers spent;
      spends = λ spent. absurd spent;
    }
