use Rattle.std.proofs.Common.{◌∙◌, [], ap, sym, subst, fold, arith, rules}
use Rattle.std.proofs.lemmas.Cmp.{nat_list_cmp_total}
use Rattle.std.proofs.lemmas.Fn.{always_returns_same}
use Rattle.std.proofs.lemmas.List.{nil_from_length}
use Rattle.std.proofs.lemmas.List.Sorted.{ranks_by}
use Rattle.std.specs.Ordering.{is_lt}
use Rattle.std.specs.Vec.Iter.{into_iter_items}
use Rattle.tv_formats.specs.Names.{byte_cmp}
use Rattle.tv_framing.specs.Fields.{FieldSpace}
use Rattle.tv_framing.specs.PerField.{AreByName, fields_sum}
use Rattle.tv_framing.specs.Usage.{capped}
use Rattle.tv_framing.specs.Places.{with_field}
use Rattle.tv_framing.proofs.Gathered.{by_name_all}
use Rattle.tv_framing.proofs.Reordered.{same_by_name, stable_filter}
use Rattle.tv_framing.proofs.Summed.{same_total}
use Rattle.tv_framing.proofs.per_field_usage.PerFieldSpaceUsage.new.Goals as goal

pub loop-field-init : goal.loop-field-init
loop-field-init c =
    let sorted = c.sort_by.new.self.items in
    let stable = c.sort_by.ensures.stable (λ one other. is_lt (byte_cmp one.name other.name)) (ranks_by nat_list_cmp_total (λ (f : FieldSpace). f.name)) (always_returns_same _ _ _ (λ a r f called. search rules)) in
    ap (λ l. fold with_field l (into_iter_items c.into_iter-field-iterator.result)) c.empty-usage.ensures
    ∙ ap (fold with_field []) c.into_iter-field-iterator.ensures.into_iter_gives.0
    ∙ same_by_name c.args.fields.items sorted (λ n. stable_filter (λ (f : FieldSpace). f) n c.args.fields.items sorted stable)

pub returns-clause-by_name : goal.returns-clause-by_name
returns-clause-by_name c =
    let none = nil_from_length (into_iter_items c.loop-field.field-iterator) (omega (arith, c.in-None.ensures.steps.0)) in
    let made = sym (ap (fold with_field c.loop-field.usage) none) ∙ c.loop-field.invariant in
    subst (AreByName c.args.fields.items) (sym made) (by_name_all c.args.fields.items)

pub returns-clause-total : goal.returns-clause-total
returns-clause-total c =
    let none = nil_from_length (into_iter_items c.loop-field.field-iterator) (omega (arith, c.in-None.ensures.steps.0)) in
    let made = sym (ap (fold with_field c.loop-field.usage) none) ∙ c.loop-field.invariant in
    ap (λ l. capped (fields_sum l)) made ∙ same_total c.args.fields.items
