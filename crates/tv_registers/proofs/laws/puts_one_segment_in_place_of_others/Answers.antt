use Rattle.std.proofs.Common.{Some, not, ap, ◌∙◌}
use Rattle.std.specs.Prelude.{filter}
use Rattle.std.proofs.lemmas.Result.{IfOk-weaker}
use Rattle.tv_formats.specs.Names.{at, is}
use Rattle.tv_registers.specs.Managers.{register_of}
use Rattle.tv_registers.specs.Registers.{Register, id_of, with_entry}
use Rattle.tv_registers.proofs.Looked.{each_gone, merged_in, not_had, others_left, put_there, still_had}
use Rattle.tv_registers.proofs.laws.puts_one_segment_in_place_of_others.Goals as goal

pub returns-clause-there : goal.returns-clause-there
returns-clause-there c =
    let before = c.args.before.now in
    let after = c.args.after in
    let m = c.args.manager.now in
    let kept = c.args.inventory.now in
    let others = filter (λ id. not (is (id_of after) id)) before in
    IfOk-weaker c.end_merge.result _ _
    (λ status is.
    ap (λ (r : Register). at r (id_of after)) (merged_in status before (Some after) (m, kept) (c.end_merge.new.self, c.end_merge.new.inventory) is)
    ∙ others_left (id_of after) others (with_entry after (register_of status m, kept)) (not_had (id_of after) before) ∙ put_there after (register_of status m))
    c.end_merge.ensures.ok

pub returns-clause-gone : goal.returns-clause-gone
returns-clause-gone c =
    let before = c.args.before.now in
    let after = c.args.after in
    let m = c.args.manager.now in
    let kept = c.args.inventory.now in
    let others = filter (λ id. not (is (id_of after) id)) before in
    IfOk-weaker c.end_merge.result _ _
    (λ status is id there apart.
    ap (λ (r : Register). at r id) (merged_in status before (Some after) (m, kept) (c.end_merge.new.self, c.end_merge.new.inventory) is)
    ∙ each_gone id others (with_entry after (register_of status m, kept)) (still_had id (id_of after) before apart there))
    c.end_merge.ensures.ok
