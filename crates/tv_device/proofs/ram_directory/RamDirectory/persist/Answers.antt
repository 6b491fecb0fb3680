use Rattle.std.proofs.Common.{rules, ◌∙◌, [], refl}
use Rattle.tv_device.specs.Persisting.{contents}
use Rattle.tv_device.specs.ViewLaws.{kept_itself, kept_then}
use Rattle.tv_device.proofs.PersistedFiles.{first_of, persists_none, rest_next, split_at, stops_at}
use Rattle.tv_formats.proofs.DiskLaws.{touches_same, touches_then}
use Rattle.tv_device.proofs.TouchedNames.{touches_among}
use Rattle.tv_device.proofs.ram_directory.RamDirectory.persist.Goals as goal

pub loop-name-init : goal.loop-name-init
loop-name-init g c = record {
  persisting = record { before = []; split = search rules; persisted = λ t. persists_none _ };
  faults = refl;
  kept = kept_itself _ _;
  images = λ tells. touches_same _ _;
}

pub loop-name-preserved : goal.loop-name-preserved
loop-name-preserved g c =
    let D = g.D.Directory in
    let inv = c.loop-name.invariant in
    let done = c.in_ok-persist_file.ensures in
    let first = first_of c.loop-name.name-iterator c.next.new.self (c.in-Some.name.now, c.in-Some.file.now) c.as_str.result.now c.as_slice.result.now (search rules) c.as_str.ensures.text c.as_slice.ensures in
    record {
      persisting =
          rest_next D.told.content (contents c.args.self.now.files.map.entries) (contents c.loop-name.name-iterator) (contents c.next.new.self) (D.view c.args.dest.now).reads (D.view c.loop-name.dest).reads (D.view c.persist_file.new.dest).reads c.as_str.result.now c.as_slice.result.now
          inv.persisting first done.ok.absent done.ok.ok;
      faults = done.faults.quiet ∙ inv.faults;
      kept = kept_then inv.kept done.frame;
      images = λ tells. touches_then (inv.images tells) (touches_among _ inv.persisting.before _ _ _ (split_at inv.persisting first) (done.images tells));
    }

pub returns-in_err-persist_file-clause-faults : goal.returns-in_err-persist_file-clause-faults
returns-in_err-persist_file-clause-faults g c =
    let D = g.D.Directory in
    let inv = c.loop-name.invariant in
    let first = first_of c.loop-name.name-iterator c.next.new.self (c.in-Some.name.now, c.in-Some.file.now) c.as_str.result.now c.as_slice.result.now (search rules) c.as_str.ensures.text c.as_slice.ensures in
    search (rules, stops_at D.told (D.view c.args.dest.now) (D.view c.loop-name.dest) (D.view c.persist_file.new.dest) (contents c.args.self.now.files.map.entries) (contents c.loop-name.name-iterator) (contents c.next.new.self) c.as_str.result.now c.as_slice.result.now inv.persisting first inv.faults)

pub returns-in_err-persist_file-clause-images : goal.returns-in_err-persist_file-clause-images
returns-in_err-persist_file-clause-images g c =
    let inv = c.loop-name.invariant in
    let first = first_of c.loop-name.name-iterator c.next.new.self (c.in-Some.name.now, c.in-Some.file.now) c.as_str.result.now c.as_slice.result.now (search rules) c.as_str.ensures.text c.as_slice.ensures in
    λ tells. touches_then (inv.images tells) (touches_among _ inv.persisting.before _ _ _ (split_at inv.persisting first) (c.in_err-persist_file.ensures.images tells))

pub returns-in_err-persist_file-clause-frame : goal.returns-in_err-persist_file-clause-frame
returns-in_err-persist_file-clause-frame g c = kept_then c.loop-name.invariant.kept c.in_err-persist_file.ensures.frame
