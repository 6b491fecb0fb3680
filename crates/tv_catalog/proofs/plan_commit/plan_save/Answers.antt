use Rattle.std.proofs.Common.{rules, true, ◌≡◌, ◌≤◌, ◌<◌, ◌++◌, ◌∷◌, [], ℕ, List, codes, decimal, inl, length, refl, sym, ap, subst, vec_capacity, ◌∙◌}
use Rattle.std.specs.Prelude.{◌&&◌, nat_lt}
use Rattle.std.specs.List.{AllByRecursion}
use Rattle.tv_machine.specs.Index.{IsFileOf}
use Rattle.tv_formats.specs.Commits.{Commit, IsSegment, Settings, printed}
use Rattle.tv_formats.specs.Names.{has}
use Rattle.tv_formats.specs.Segments.{all_required, num_docs}
use Rattle.tv_formats.specs.declared.segment.LiveSegment.{LiveSegment}
use Rattle.tv_formats.proofs.Required.{required_some}
use Rattle.tv_machine.specs.CommitEvents.{chosen, first_unknown, last_stamp}
use Rattle.tv_events.specs.AnswerLines.{line}
use Rattle.tv_machine.specs.State.{Catalog}
use Rattle.tv_catalog.specs.Committing.{commit_line}
use Rattle.tv_catalog.proofs.SharedLaws.{all_required_are_files}
use Rattle.tv_catalog.proofs.PlannedCommit.{planned_commit, room_for, save_keeps}
use Rattle.tv_catalog.proofs.plan_commit.plan_save.Goals as goal

pub returns : goal.returns
returns g c = λ ids known are.
    let catalog = c.args.catalog.now in
    let payload = c.args.payload.now in
    let segments = c.args.segments.entries in
    let commit = c.in_ok-commit.commit in
    let made = c.in_ok-commit.ensures in
    let required = c.in_ok-required.required in
    let told = c.in_ok-line.line in
    let number : commit.opstamp ≡ catalog.next = ap (λ (k : Commit). k.opstamp) made.commit ∙ c.next_opstamp.ensures in
    let files : required.items ≡ all_required commit.segments = c.in_ok-required.ensures ∙ ap all_required c.by_id.ensures in
    let same : commit.segments ≡ segments = ap (λ (k : Commit). k.segments) made.commit in
    let line_is : told.items ≡ commit_line catalog.next segments =
    c.in_ok-line.ensures.line ∙ c.in_ok-answer.ensures
    ∙ ap (λ (n : ℕ). line (codes "commit") (decimal n ∷ decimal c.len-count.result ∷ [])) (c.opstamp.ensures ∙ number)
    ∙ ap (λ (n : ℕ). line (codes "commit") (decimal catalog.next ∷ decimal n ∷ [])) c.len-count.ensures.len in
    let fits : length told.items ≤ vec_capacity told = search rules in
    record {
      steps = λ s m deletes.
          let next = ap (λ (k : Catalog). k.next) m.catalog in
          planned_commit s payload ids segments commit c.in_ok-text.text required told.items (subst (λ (n : ℕ). n < last_stamp) next c.requires.next) (ap (λ (k : Catalog). first_unknown k ids) (sym m.catalog) ∙ known)
          (are ∙ ap (λ (k : Catalog). chosen k ids) m.catalog)
          (made.commit ∙ ap (λ (n : ℕ). record { opstamp = n; payload = payload; segments = segments }) (c.next_opstamp.ensures ∙ next))
          (files ∙ ap all_required same) (line_is ∙ ap (λ (n : ℕ). commit_line n segments) next) deletes;
      suits = λ s m. tt;
      ready = record {
        prints = record {
          opstamp = number;
          sound = made.sound c.len-count.ensures.ordered c.requires.sound;
          blocksize = subst (λ (x : Settings). x.blocksize < 18446744073709551616) c.settings.ensures c.print.ensures.blocksize;
          text_is =
              c.in_ok-text.ensures.text
              ∙ ap (λ (x : Settings). printed x c.schema.result.now commit ++ 10 ∷ []) c.settings.ensures ∙ ap (λ (x : List ℕ). printed (g.K.KnownFiles.known c.args.files.now).form.settings x commit ++ 10 ∷ []) c.schema.ensures;
        };
        next = c.requires.next;
        files = files;
        each = subst (λ (ns : List (List ℕ)). AllByRecursion IsFileOf ns) (sym (files ∙ ap all_required same)) (all_required_are_files segments c.requires.sound);
        live = λ n named.
            required_some (λ e. has ids e.0 && nat_lt 0 (num_docs e.1)) catalog.live n
            (subst (λ (es : List (List ℕ × LiveSegment)). has (all_required es) n ≡ true) (same ∙ are) named);
      };
      change = tt;
      segments = λ s m reply. subst (AllByRecursion IsSegment) (sym (save_keeps s commit c.in_ok-text.text required reply)) m.segments;
      beside = inl refl;
      feed = c.in_ok-line.ensures.feed;
      room = λ reply gives. room_for segments commit required.items told.items (vec_capacity told) reply c.requires.sound (files ∙ ap all_required same) fits c.in_ok-line.ensures.room gives;
      adds = search rules;
      numbers = search rules;
      changes = λ by_step. tt;
      locks = λ takes. takes;
      unlocked = λ takes. takes;
      loads = λ s m. refl;
      keeps = λ reply gives. refl;
      sure = inl refl;
      saves = tt;
      fits = search rules;
      spends = search rules;
    }
