use Rattle.std.proofs.Common.{◌≡◌, sym, ap, ◌∙◌, Some}
use Rattle.std.specs.Option.{option_copied_mut}
use Rattle.std.specs.BTreeMap.{is_at, insert_entry}
use Rattle.std.specs.Map.{lookup}
use Rattle.std.specs.Ordering.{nat_cmp}
use Rattle.tv_formats.specs.Collections.{Collections, collection_at, having_tried, with_collection}
use Rattle.tv_managed.proofs.Collections.{set_is_put}
use Rattle.tv_managed.proofs.collection.Collections.mark.Goals as goal

pub returns : goal.returns
returns c = λ d name left at next.
    let entries = c.self.inside.unfinished.entries in
    let number = c.args.number in
    let found : lookup (is_at (nat_cmp number)) entries ≡ Some d = ap (λ v. collection_at v number) c.self.view_is ∙ at in
    let some : Some c.unwrap.result.now ≡ Some d = sym (ap option_copied_mut c.unwrap.ensures) ∙ c.get_mut.ensures.value ∙ found in
    let is : c.unwrap.result.now ≡ d = cc in
    let now : c.mark.new.self ≡ having_tried d name left c.args.is_done = c.mark.ensures name left (ap (λ v. v.untried) is ∙ next) ∙ ap (λ v. having_tried v name left c.args.is_done) is in
    let put = (c.get_mut.follows.holds c.mark.new.self).0 ∙ set_is_put entries number d c.mark.new.self c.get_mut.ensures.ordered found ∙ ap (insert_entry nat_cmp entries number) now in
    let Of : _ → Collections = λ es. record { unfinished = es; next = c.self.inside.next } in
    ap Of put ∙ ap (λ v. with_collection v number (having_tried d name left c.args.is_done)) c.self.view_is
