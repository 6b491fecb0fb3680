use Rattle.std.proofs.Common.{rules, ◌≡◌, ◌+◌, ◌<◌, ◌≤◌, ℕ, List, Some, length, is_some, inl, inr, refl, sym, ap, subst, ◌∙◌}
use Rattle.tv_formats.specs.Names.{at}
use Rattle.tv_machine.specs.State.{live_at}
use Rattle.tv_catalog.specs.Kept.{kept_with}
use Rattle.tv_catalog.proofs.SharedLaws.{has_body}
use Rattle.tv_catalog.proofs.Planned.{length_passes, planned_write, sum_fits, sum_is, sum_is_small, sum_isnt, wrote_some}
use Rattle.tv_catalog.proofs.Spending.{only_length}
use Rattle.tv_catalog.proofs.plan.plan_write.Goals as goal

pub returns-in_default-checked_add-clause-cause : goal.returns-in_default-checked_add-clause-cause
returns-in_default-checked_add-clause-cause g c =
    let len = c.in-Some-body_len.len in
    let large = sum_isnt c.checked_add.result (len + length c.as_slice.result.now) c.checked_add.ensures c.in_default-checked_add.is in
    inr
    (length_passes (kept_with c.args.catalog.now (g.K.KnownFiles.known c.args.files.now)) c.args.id c.args.component c.in-Some.segment c.in_ok-name.name c.args.bytes.now len (sym c.live_segment.ensures ∙ c.in-Some.is) c.in_ok-name.ensures.name
    (sym c.in-Some-body_len.is ∙ c.body_len.ensures) (subst (λ (bs : List ℕ). 18446744073709551616 ≤ len + length bs) c.as_slice.ensures large))

pub returns-clause-plans : goal.returns-clause-plans
returns-clause-plans g c =
    let kept = kept_with c.args.catalog.now (g.K.KnownFiles.known c.args.files.now) in
    let name = c.in_ok-name.name in
    let bytes = c.args.bytes.now in
    let len = c.in-Some-body_len.len in
    let live = sym c.live_segment.ensures ∙ c.in-Some.is in
    let has_len = sym c.in-Some-body_len.is ∙ c.body_len.ensures in
    let it = has_body (at kept.open_files name) len has_len in
    let fits : len + length bytes < 18446744073709551616 =
    subst (λ (bs : List ℕ). len + length bs < 18446744073709551616) c.as_slice.ensures (sum_is_small c.checked_add.result _ c.in-Some-checked_add.len _ c.checked_add.ensures c.in-Some-checked_add.is) in
    let sum : c.in-Some-checked_add.len ≡ len + length bytes =
    sum_is c.checked_add.result _ c.in-Some-checked_add.len _ c.checked_add.ensures c.in-Some-checked_add.is ∙ ap (λ (bs : List ℕ). len + length bs) c.as_slice.ensures in
    record {
      steps = λ s m deletes.
          planned_write s c.args.id name c.args.component c.in-Some.segment bytes it.0 c.in-Some-checked_add.len c.into_bytes.result.items (ap (λ k. live_at k c.args.id) (sym m.catalog) ∙ live) c.in_ok-name.ensures.name
          (sym (m.written name c.in_ok-name.ensures.file) ∙ it.1) (sum ∙ ap (λ n. n + length bytes) it.2) (c.into_bytes.ensures.bytes ∙ c.in_ok-answer.ensures);
      suits = λ s m. tt;
      change = tt;
      segments = λ s m reply. search rules;
      beside = inl refl;
      locks = search rules;
      unlocked = search rules;
      loads = λ s m. refl;
      numbers = search rules;
      keeps = λ reply gives. refl;
      sure = inl refl;
      saves = tt;
      spends = search rules;
      ready = (
        record { plain = c.in_ok-name.ensures.plain; file = c.in_ok-name.ensures.file },
        (
          ap is_some it.1,
          λ body is.
              let both : Some it.0 ≡ Some body = sym it.1 ∙ is in
              let one : it.0 ≡ body = cc in
              subst (λ n. n + length bytes < 18446744073709551616) (it.2 ∙ ap length one) fits,
        ),
      );
      feed = c.into_bytes.ensures.feed;
      room = search rules;
      adds = search rules;
      changes = λ by_step. wrote_some kept c.args.id c.args.component c.in-Some.segment name bytes len live c.in_ok-name.ensures.name has_len by_step;
      fits = λ spent. absurd (
          sum_fits kept c.args.id c.args.component c.in-Some.segment name bytes (Some len) live c.in_ok-name.ensures.name has_len
          (λ l same. let one : len ≡ l = cc in subst (λ (k : ℕ). k + length bytes < 18446744073709551616) one fits) (only_length spent));
    }
