use Rattle.std.proofs.Common.{refl}
use Rattle.tv_device.proofs.StoredFiles.{same_numbers}
use Rattle.tv_device.proofs.files.Files.replace.Goals as goal

pub returns : goal.returns
returns c =
    let put = c.in_ok-put.ensures in
    record { ok = put.ok; state = put.state; numbers = same_numbers c.args.self.now.map.entries c.put.new.files.entries c.args.name c.args.number c.requires put.number put.numbers; last = refl; err = tt }
