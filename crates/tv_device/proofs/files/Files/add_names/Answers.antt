use Rattle.std.proofs.Common.{rules}
use Rattle.tv_device.proofs.CollectedFiles.{names_one}
use Rattle.tv_device.proofs.files.Files.add_names.Goals as goal

pub loop-name-preserved : goal.loop-name-preserved
loop-name-preserved c n =
    names_one c.add_name.new.names.keys c.loop-name.names.keys c.in-Some.name.now c.in-Some._file.now c.loop-name.name-iterator c.next.new.self n (c.in_ok-add_name.ensures n) (search rules) (c.loop-name.invariant n)
