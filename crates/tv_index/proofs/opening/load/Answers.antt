use Rattle.tv_index.proofs.Standings.{has_found, loads_found, unless_found}
use Rattle.tv_index.proofs.opening.load.Goals as goal

pub returns-in-Ok : goal.returns-in-Ok
returns-in-Ok g c =
    let loaded = c.in-Ok.ensures in
    record {
      found = loads_found g.D.Directory c.args.directory.now.0 c.args.schema.now c.in-Ok.meta loaded.meta;
      commit = has_found g.D.Directory c.args.directory.now.0 c.args.schema.now c.in-Ok.meta loaded.meta;
      faults = record { quiet = loaded.faults.quiet; cause = tt };
      frame = loaded.frame;
      images = loaded.images;
    }

pub returns-in-Err : goal.returns-in-Err
returns-in-Err g c =
    let failed = c.in-Err.ensures in
    let told = unless_found g.D.Directory c.args.directory.now.0 c.load_meta.new.directory.0 c.args.schema.now c.in-Err.error c.none_if_absent.result failed.faults.cause c.none_if_absent.ensures in
    record { found = told.0; commit = told.1; faults = told.2; frame = failed.frame; images = failed.images }
