use Rattle.std.proofs.Common.{◌≡◌, ℕ, List, map, string_bytes, ap, ◌∙◌}
use Rattle.std.specs.List.{flat_map}
use Rattle.std.proofs.lemmas.Result.{IfOk-weaker}
use Rattle.tv_formats.specs.Segments.{segment_names}
use Rattle.tv_formats.specs.Names.{has}
use Rattle.tv_formats.specs.declared.segment.LiveSegment.{LiveSegment}
use Rattle.tv_catalog.proofs.ReportEvents.{filter_same}
use Rattle.tv_catalog.proofs.catalog.Catalog.committed_names.Goals as goal

pub returns : goal.returns
returns c =
    let names = map string_bytes c.args.managed.now.keys in
    let segments : c.as_slice.result.now ≡ c.args.self.now.commit.segments = c.as_slice.ensures.value ∙ c.in_ok-segments.ensures ∙ ap (λ catalog. catalog.commit.segments) c.self.view_is in
    IfOk-weaker c.shared_names.result _ _ (λ found is.
    is ∙ filter_same _ _ names (λ n. c.in_ok-committed.ensures n ∙ ap (λ (es : List (List ℕ × LiveSegment)). has (flat_map segment_names es) n) segments)) c.shared_names.ensures
