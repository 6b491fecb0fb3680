use Rattle.std.proofs.Common.{◌∙◌, ap, sym, Some}
use Rattle.std.specs.Prelude.{option_map}
use Rattle.tv_index.proofs.Standings.{parsed_faults, parsed_meta, unread_cause}
use Rattle.tv_index.proofs.opening.load_meta.Goals as goal

pub returns-in-Ok : goal.returns-in-Ok
returns-in-Ok g c =
    let read = c.in-Ok.ensures in
    record {
      meta = parsed_meta g.D.Directory c.args.directory.now.0 c.atomic_read.new.self.0 (option_map (λ s. s.now) c.args.expected) c.parse.result c.as_slice.result.now (λ t. read.bytes t ∙ ap Some (sym c.as_slice.ensures.value)) c.parse.ensures.ok c.parse.ensures.schema c.parse.ensures.spelled;
      faults = parsed_faults g.D.Directory c.args.directory.now.0 c.atomic_read.new.self.0 (option_map (λ s. s.now) c.args.expected) c.parse.result c.as_slice.result.now read.faults.quiet (λ t. read.bytes t ∙ ap Some (sym c.as_slice.ensures.value)) c.parse.ensures.err;
      frame = read.frame;
      images = read.images;
    }

pub returns-in-Err-clause-faults : goal.returns-in-Err-clause-faults
returns-in-Err-clause-faults g c = record {
  quiet = tt;
  cause = unread_cause g.D.Directory c.args.directory.now.0 c.atomic_read.new.self.0 (option_map (λ s. s.now) c.args.expected) c.in-Err.error c.unread.result c.in-Err.ensures.faults.cause c.unread.ensures;
}
