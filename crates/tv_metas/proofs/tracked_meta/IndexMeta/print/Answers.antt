use Rattle.std.proofs.Common.{◌≡◌, ℕ, Option, List, [], ap, map, ◌∙◌}
use Rattle.std.proofs.lemmas.Result.{IfOk-weaker}
use Rattle.tv_formats.specs.Commits.{printed}
use Rattle.tv_metas.specs.Segments.{entry_of}
use Rattle.tv_metas.specs.Tracked.{Share}
use Rattle.tv_metas.specs.TrackedMetas.{put_all, tracked_commit, tracked_settings}
use Rattle.tv_metas.proofs.PutAll.{ordered_commit}
use Rattle.tv_metas.proofs.tracked_meta.IndexMeta.print.Goals as goal

pub returns : goal.returns
returns c =
    let meta = c.args.self.now in
    let segments : map entry_of c.as_slice-2.result.now ≡ put_all [] (map (λ s. s.1) meta.segments.items) =
    ap (map entry_of) c.as_slice-2.ensures.value ∙ c.in_ok-segments.ensures ∙ c.in_ok-found.ensures
    ∙ ap (λ (l : List Share). put_all [] (map (λ s. s.1) l)) c.as_slice.ensures.value in
    record {
      text =
          IfOk-weaker c.print_meta.result _ _ (λ text h commit order. h ∙ ap (λ (p : Option (List ℕ)). printed (tracked_settings meta) meta.schema (record { opstamp = meta.opstamp; payload = p; segments = map entry_of c.as_slice-2.result.now })) c.as_deref.ensures.value
          ∙ ap (printed (tracked_settings meta) meta.schema) (ordered_commit (tracked_commit meta) commit (map entry_of c.as_slice-2.result.now) order segments)) c.print_meta.ensures.text;
    }
