use Rattle.std.proofs.Common.{ℕ, List, ap, subst, ◌∙◌}
use Rattle.std.specs.Prelude.{IfOk}
use Rattle.tv_formats.specs.declared.segment.LiveSegment.{LiveSegment}
use Rattle.tv_formats.specs.Segments.{required_names}
use Rattle.tv_metas.specs.Tracked.{Share}
use Rattle.tv_reader.specs.Bodies.{ReadBodies}
use Rattle.tv_reader.proofs.segment_reader.SegmentReader.open.Goals as goal

pub returns-clause-bodies : goal.returns-clause-bodies
returns-clause-bodies g c t =
    let reads = (g.D.Directory.view c.args.index.now.directory.0).reads in
    subst (λ (id : List ℕ). IfOk c.open_files.result (λ reader. ReadBodies reads (required_names id c.args.segment.now.1.1) reader.bodies)) c.id.ensures
    (subst (λ (live : LiveSegment). IfOk c.open_files.result (λ reader. ReadBodies reads (required_names c.id.result live) reader.bodies)) (c.live_of.ensures ∙ ap (λ (s : Share). s.1.1) c.meta.ensures)
    (c.open_files.ensures.bodies t))
