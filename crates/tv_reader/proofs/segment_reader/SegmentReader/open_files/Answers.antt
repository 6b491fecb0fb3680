use Rattle.std.proofs.Common.{ap}
use Rattle.tv_reader.specs.Segments.{SegmentShown}
use Rattle.tv_reader.proofs.Bodies.{required_read}
use Rattle.tv_reader.proofs.segment_reader.SegmentReader.open_files.Goals as goal

pub returns-clause-bodies : goal.returns-clause-bodies
returns-clause-bodies g c t =
    required_read (g.D.Directory.view c.args.index.now.directory.0).reads c.args.id c.args.live c.required_components.result.now c.in_ok-bodies.bodies.items _
    c.required_components.ensures (ap (λ (r : SegmentShown). r.bodies) c.from_parts.ensures) (c.in_ok-bodies.ensures.bodies t)
