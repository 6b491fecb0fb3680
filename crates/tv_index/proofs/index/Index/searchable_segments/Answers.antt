use Rattle.std.proofs.Common.{◌≡◌, ◌≤◌, ◌∙◌, All, List, Some, ap, map, sym, subst}
use Rattle.tv_formats.specs.Names.{meta_name}
use Rattle.tv_formats.specs.Segments.{num_deleted}
use Rattle.tv_metas.specs.declared.segment_meta.InnerSegmentMeta.{InnerSegmentMeta}
use Rattle.tv_index.specs.Indexes.{IndexState, MeansSuch}
use Rattle.tv_metas.specs.Segments.{entry_of}
use Rattle.tv_index.specs.Standing.{MetaFaults}
use Rattle.tv_metas.specs.Tracked.{TrackAll}
use Rattle.tv_index.proofs.Indexes.{all_within, shares_mean}
use Rattle.tv_index.proofs.Standings.{meta_fails}
use Rattle.tv_index.proofs.index.Index.searchable_segments.Goals as goal

pub track_segments-requires : goal.track_segments-requires
track_segments-requires g c = record {
  within =
      subst (λ (segments : List InnerSegmentMeta). All (λ s. num_deleted s.deletes ≤ s.max_doc) segments) (sym c.as_slice.ensures.value)
      (all_within c.in_ok-meta.meta c.in_ok-meta.ensures.meta.has.is_commit);
}

pub returns-in_err-meta-clause-faults : goal.returns-in_err-meta-clause-faults
returns-in_err-meta-clause-faults g c =
    subst (λ (index : IndexState g.row.D.Denot). MetaFaults g.D.Directory index.directory.0 c.load_meta.new.directory.0 (Some index.schema) c.from_residual.result)
    c.self.view_is (meta_fails g.D.Directory c.self.inside.directory.0 c.load_meta.new.directory.0 (Some c.self.inside.schema) c.from_residual.result
    c.in_err-meta.field-0.0 c.from_residual.ensures.1 c.in_err-meta.ensures.faults.cause)

pub returns-clause-segments : goal.returns-clause-segments
returns-clause-segments g c =
    let shares = c.in_ok-segments.segments.items in
    record {
      means = λ tells.
          subst (λ (index : IndexState g.row.D.Denot). MeansSuch index.schema ((g.D.Directory.view index.directory.0).reads meta_name)
          (λ commit. commit.segments ≡ map (λ s. s.1) shares)) c.self.view_is
          (shares_mean g.D.Directory c.self.inside.directory.0 c.self.inside.schema c.in_ok-meta.meta shares c.in_ok-meta.ensures.meta
          (c.in_ok-segments.ensures.segments ∙ ap (map entry_of) c.as_slice.ensures.value) tells);
      tracks =
          subst (λ (index : IndexState g.row.D.Denot). TrackAll shares index.kept c.track_segments.new.inventory) c.self.view_is
          c.in_ok-segments.ensures.tracks;
    }
