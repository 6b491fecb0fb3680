use Rattle.std.proofs.Common.{None, ap, ◌∙◌}
use Rattle.std.proofs.lemmas.Result.{IfOk-weaker}
use Rattle.tv_formats.specs.Names.{at}
use Rattle.tv_registers.specs.Managers.{register_of}
use Rattle.tv_registers.specs.Registers.{Register}
use Rattle.tv_registers.proofs.Looked.{each_gone, merged_in}
use Rattle.tv_registers.proofs.laws.takes_every_merged_segment_out.Goals as goal

pub returns : goal.returns
returns c =
    let before = c.args.before.now in
    let m = c.args.manager.now in
    let kept = c.args.inventory.now in
    IfOk-weaker c.end_merge.result _ _
    (λ status is id there.
    ap (λ (r : Register). at r id) (merged_in status before None (m, kept) (c.end_merge.new.self, c.end_merge.new.inventory) is) ∙ each_gone id before (register_of status m, kept) there)
    c.end_merge.ensures.ok
