use Rattle.std.proofs.Common.{Some, ap}
use Rattle.std.specs.Prelude.{option_map}
use Rattle.tv_device.proofs.StoredFiles.{gives_by, sets_to, stands_as}
use Rattle.tv_device.proofs.files.put.Goals as goal

pub returns : goal.returns
returns c =
    let given = gives_by c.args.files.now.entries c.insert.new.self.entries c.args.name (Some c.args.file) c.in_ok-insert.ensures.updates.1 c.in_ok-insert.ensures.updates.2 in
    record { ok = sets_to _ _ _ _ given; state = stands_as _ _ _ _ given; number = ap (option_map (λ file. file.number)) given.changed; numbers = λ n other. ap (option_map (λ file. file.number)) (given.others n other); err = tt }
