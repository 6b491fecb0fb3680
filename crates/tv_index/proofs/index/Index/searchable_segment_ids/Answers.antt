use Rattle.std.proofs.Common.{◌≡◌, ◌∙◌, Some, ap, map, subst}
use Rattle.tv_formats.specs.Names.{meta_name}
use Rattle.tv_index.specs.Indexes.{IndexState, MeansSuch}
use Rattle.tv_index.specs.Standing.{MetaFaults}
use Rattle.tv_index.proofs.Indexes.{ids_mean}
use Rattle.tv_index.proofs.Standings.{meta_fails}
use Rattle.tv_index.proofs.index.Index.searchable_segment_ids.Goals as goal

pub returns-clause-ids : goal.returns-clause-ids
returns-clause-ids g c tells =
    subst (λ (index : IndexState g.row.D.Denot). MeansSuch index.schema ((g.D.Directory.view index.directory.0).reads meta_name) (λ commit. c.in_ok-ids.ids.items ≡ map (λ e. e.0) commit.segments)) c.self.view_is
    (ids_mean g.D.Directory c.self.inside.directory.0 c.self.inside.schema c.in_ok-meta.meta c.in_ok-ids.ids.items c.in_ok-meta.ensures.meta
    (c.in_ok-ids.ensures ∙ ap (map (λ s. s.segment_id)) c.as_slice.ensures.value) tells)

pub returns-in_err-meta-clause-faults : goal.returns-in_err-meta-clause-faults
returns-in_err-meta-clause-faults g c =
    subst (λ (index : IndexState g.row.D.Denot). MetaFaults g.D.Directory index.directory.0 c.load_meta.new.directory.0 (Some index.schema) c.from_residual.result)
    c.self.view_is (meta_fails g.D.Directory c.self.inside.directory.0 c.load_meta.new.directory.0 (Some c.self.inside.schema) c.from_residual.result
    c.in_err-meta.field-0.0 c.from_residual.ensures.1 c.in_err-meta.ensures.faults.cause)
