use Rattle.std.proofs.Common.{rules, ◌≡◌, ap}
use Rattle.tv_device.specs.StoredFiles.{bytes_of}
use Rattle.tv_device.proofs.CopiedFiles.{copies_first, copies_one}
use Rattle.tv_device.proofs.files.Files.copied.Goals as goal

pub loop-name-init : goal.loop-name-init
loop-name-init c =
    rw c.into_iter-name-iterator.ensures.into_iter_gives.0 (copies_first c.args.self.now.map.entries c.new-map.result.entries c.new-map.ensures.empty c.into_iter-name-iterator.ensures.into_iter_gives.6)

pub loop-name-preserved : goal.loop-name-preserved
loop-name-preserved c =
    let name : c.new.result ≡ c.in-Some.name.now = search rules in
    let set = rw name at c.in_ok-put.ensures.ok in
    copies_one c.args.self.now.map.entries c.loop-name.name-iterator c.next.new.self c.loop-name.map.entries c.put.new.files.entries (c.in-Some.name.now, c.in-Some.file.now) (bytes_of c.in_ok-share.field-0) c.loop-name.invariant
    (search rules) set (ap bytes_of c.in_ok-share.ensures)
