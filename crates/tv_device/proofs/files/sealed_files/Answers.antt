use Rattle.std.specs.Vec.Iter.{into_iter_items}
use Rattle.tv_device.proofs.StoredFiles.{puts_one, seals_one}
use Rattle.tv_device.proofs.files.sealed_files.Goals as goal

pub loop-name-preserved : goal.loop-name-preserved
loop-name-preserved c =
    let left = into_iter_items c.loop-name.name-iterator in
    let set = rw (c.in_ok-new.ensures.bytes, c.new-in-loop-name.ensures) at c.in_ok-put.ensures.ok in
    let stands = rw (c.in_ok-new.ensures.bytes, c.new-in-loop-name.ensures) at c.in_ok-put.ensures.state in (
      tt,
      tt,
      puts_one c.args.files.items left (into_iter_items c.next.new.self) c.loop-name.map.entries c.put.new.files.entries (c.in-Some.name, c.in-Some.bytes) c.loop-name.invariant.2 c.in-Some.ensures.steps.0 set,
      seals_one _ _ _ _ c.loop-name.invariant.3 stands set,
    )
