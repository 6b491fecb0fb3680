use Rattle.std.proofs.Common.{None, ap}
use Rattle.std.specs.Prelude.{option_map}
use Rattle.tv_device.proofs.StoredFiles.{gives_by, sets_to, stands_as}
use Rattle.tv_device.proofs.files.Files.delete.Goals as goal

pub returns-clause-ok : goal.returns-clause-ok
returns-clause-ok c =
    sets_to _ _ _ _ (gives_by c.args.self.now.map.entries c.remove.new.self.entries c.args.name.now None c.remove.ensures.updates.1 c.remove.ensures.updates.2)

pub returns-clause-numbers : goal.returns-clause-numbers
returns-clause-numbers c n other =
    ap (option_map (λ file. file.number)) ((gives_by c.args.self.now.map.entries c.remove.new.self.entries c.args.name.now None c.remove.ensures.updates.1 c.remove.ensures.updates.2).others n other)

pub returns-clause-state : goal.returns-clause-state
returns-clause-state c =
    stands_as _ _ _ _ (gives_by c.args.self.now.map.entries c.remove.new.self.entries c.args.name.now None c.remove.ensures.updates.1 c.remove.ensures.updates.2)
