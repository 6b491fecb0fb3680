use Rattle.std.proofs.Common.{[], ◌∷◌, ◌++◌, get_or, length, map, string_bytes, ap, sym, ◌∙◌, arith, ◌<◌, ◌-◌}
use Rattle.std.proofs.lemmas.List.{get_or-map, map_push}
use Rattle.tv_framing.specs.declared.per_field_usage.NamedPart.{NamedPart}
use Rattle.tv_framing.specs.Fields.{part_alone}
use Rattle.tv_framing.specs.NamedParts.{alone}
use Rattle.tv_framing.proofs.Parts.{range_inside, start_front}
use Rattle.tv_framing.proofs.Reported.{next_fits, reports_on}
use Rattle.tv_framing.proofs.reports.usage_by_name.Goals as goal

pub overflow_cast-part : goal.overflow_cast-part
overflow_cast-part c =
    let front = start_front c.args.starts.now c.loop-i.i c.index-starts-i.result c.loop-i-test.true c.index-starts-i.is in
    omega (arith, (next_fits _ _ _ _ _ _ _ c.loop-i.invariant front).1)

pub overflow_sub-part : goal.overflow_sub-part
overflow_sub-part c =
    let front = start_front c.args.starts.now c.loop-i.i c.index-starts-i.result c.loop-i-test.true c.index-starts-i.is in
    (range_inside c.args.starts.now c.loop-i.i c.loop-i.invariant.from c.args.end c.end_of.result c.index-starts-i.result front c.loop-i.invariant.ascend c.end_of.ensures).0

pub loop-i-preserved : goal.loop-i-preserved
loop-i-preserved c =
    let names = map string_bytes c.args.names.now in
    let s = c.index-starts-i.result in
    let front = start_front c.args.starts.now c.loop-i.i c.index-starts-i.result c.loop-i-test.true c.index-starts-i.is in
    let fits = (next_fits _ _ _ _ _ _ _ c.loop-i.invariant front).0 in
    let lt : c.field_id.result < length c.args.names.now = omega (arith, fits, c.field_id.ensures.number) in
    let name = c.as_str.ensures.value ∙ ap string_bytes c.index-names-field_id.is ∙ sym (get_or-map string_bytes c.args.names.now c.field_id.result c.index-names-field_id.result [] lt) ∙ ap (λ n. get_or names n []) c.field_id.ensures.number in
    let part : NamedPart = record { name = c.as_str.result; idx = s.addr.idx; size = record { 0 = c.end_of.result - s.offset } } in
    reports_on names c.args.starts.now (length c.args.names.now) c.loop-i.i c.args.end c.end_of.result (map alone c.loop-i.parts.items) (map alone c.push.new.self.items) s c.loop-i.invariant front c.end_of.ensures
    (ap (map alone) c.in_ok-push.ensures.items ∙ map_push alone c.loop-i.parts.items part
    ∙ ap (λ n. map alone c.loop-i.parts.items ++ part_alone n s.addr.idx (record { 0 = c.end_of.result - s.offset }) ∷ []) name)
