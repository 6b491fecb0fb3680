use Rattle.std.proofs.Common.{◌∙◌, ap, subst, sym, length, map, string_bytes, nat_le, nat_lt}
use Rattle.std.specs.List.{list_all}
use Rattle.tv_framing.specs.Composite.{fields_below}
use Rattle.tv_framing.specs.Places.{by_name}
use Rattle.tv_framing.specs.Reports.{indexes_fit, usages}
use Rattle.tv_framing.specs.Starts.{parts_of, start_addresses}
use Rattle.tv_framing.specs.Usage.{capped}
use Rattle.tv_framing.specs.PerField.{AreByName, fields_sum}
use Rattle.tv_framing.proofs.FooterEnds.{of_fault}
use Rattle.tv_framing.proofs.Gathered.{by_name_all}
use Rattle.tv_framing.proofs.Parts.{addresses_of}
use Rattle.tv_framing.proofs.Reported.{usages_sum}
use Rattle.tv_framing.proofs.Summed.{same_total}
use Rattle.tv_framing.proofs.composite_file.CompositeFile.space_usage.Goals as goal

pub usage_by_name-requires-clause-below : goal.usage_by_name-requires-clause-below
usage_by_name-requires-clause-below c =
    ap (λ l. list_all (λ addr. nat_lt addr.field (length c.args.names.now)) (start_addresses l)) c.as_slice-2.ensures.value
    ∙ ap (list_all (λ addr. nat_lt addr.field (length c.args.names.now))) (sym (addresses_of c.self.inside.bytes c.self.inside.starts.items))
    ∙ ap (fields_below (length c.args.names.now)) c.self.view_is
    ∙ c.requires.below

pub returns-then-not-are_small-clause-above : goal.returns-then-not-are_small-clause-above
returns-then-not-are_small-clause-above c =
    let small = sym (ap indexes_fit c.self.view_is) ∙ ap (list_all (λ addr. nat_le addr.idx 65535)) (addresses_of c.self.inside.bytes c.self.inside.starts.items) ∙ ap (λ l. list_all (λ addr. nat_le addr.idx 65535) (start_addresses l)) (sym c.as_slice.ensures.value) ∙ sym c.are_small.ensures in
    of_fault c.refusal.result c.refusal.ensures (λ f is. small ∙ c.if-not-are_small.true)

pub returns-clause-fits : goal.returns-clause-fits
returns-clause-fits c =
    let small = sym (ap indexes_fit c.self.view_is) ∙ ap (list_all (λ addr. nat_le addr.idx 65535)) (addresses_of c.self.inside.bytes c.self.inside.starts.items) ∙ ap (λ l. list_all (λ addr. nat_le addr.idx 65535) (start_addresses l)) (sym c.as_slice.ensures.value) ∙ sym c.are_small.ensures in
    small ∙ c.if-not-are_small.false

pub returns-clause-ok : goal.returns-clause-ok
returns-clause-ok c =
    let names = map string_bytes c.args.names.now in
    let made = c.in_ok-usage_by_name.ensures c.self.inside.bytes (sym c.len-end.ensures.length) ∙ ap (λ l. by_name (usages names (parts_of c.self.inside.bytes l))) c.as_slice-2.ensures.value ∙ ap (λ l. by_name (usages names l)) c.self.view_is in
    subst (AreByName (usages names c.args.self.now)) (sym made) (by_name_all (usages names c.args.self.now))

pub returns-clause-total : goal.returns-clause-total
returns-clause-total c =
    let names = map string_bytes c.args.names.now in
    let made = c.in_ok-usage_by_name.ensures c.self.inside.bytes (sym c.len-end.ensures.length) ∙ ap (λ l. by_name (usages names (parts_of c.self.inside.bytes l))) c.as_slice-2.ensures.value ∙ ap (λ l. by_name (usages names l)) c.self.view_is in
    ap (λ l. capped (fields_sum l)) made ∙ same_total (usages names c.args.self.now) ∙ ap capped (usages_sum names c.args.self.now)
