use Rattle.std.proofs.Common.{◌≡◌, ◌∙◌, ◌+◌, ℕ, List, Some, sym, ap, subst}
use Rattle.std.specs.Option.{option_copied_mut}
use Rattle.std.specs.BTreeMap.{is_at, insert_entry}
use Rattle.std.specs.Map.{lookup}
use Rattle.std.specs.Ordering.{nat_cmp}
use Rattle.tv_machine.specs.Living.{HasOneLock, is_locked}
use Rattle.tv_machine.specs.State.{Reader, Readers, at_number}
use Rattle.tv_snapshots.proofs.Reloading.{one_put, written_is_put}
use Rattle.tv_snapshots.proofs.readers.Readers.publish.Goals as goal

pub invariant_of-self : goal.invariant_of-self
invariant_of-self c =
    let entries = c.self.inside.readers.entries in
    let number = c.args.number in
    let found : lookup (is_at (nat_cmp number)) entries ≡ Some c.unwrap.result.now = sym c.get_mut.ensures.value ∙ ap option_copied_mut c.unwrap.ensures in
    let put = (c.get_mut.follows.holds c.show.new.self).0 ∙ written_is_put entries number c.unwrap.result.now c.show.new.self c.get_mut.ensures.ordered found in
    subst HasOneLock (sym put) (one_put entries number c.unwrap.result.now c.show.new.self c.self.invariant found (λ l. sym (ap is_locked c.show.ensures) ∙ l))

pub returns : goal.returns
returns c = record {
  published = λ reader at.
      let entries = c.self.inside.readers.entries in
      let number = c.args.number in
      let found : lookup (is_at (nat_cmp number)) entries ≡ Some c.unwrap.result.now = sym c.get_mut.ensures.value ∙ ap option_copied_mut c.unwrap.ensures in
      let put = (c.get_mut.follows.holds c.show.new.self).0 ∙ written_is_put entries number c.unwrap.result.now c.show.new.self c.get_mut.ensures.ordered found in
      let there : lookup (is_at (nat_cmp number)) entries ≡ Some reader = ap (λ (v : Readers). at_number v.readers number) c.self.view_is ∙ at in
      let same : Some c.unwrap.result.now ≡ Some reader = sym found ∙ there in
      let is : c.unwrap.result.now ≡ reader = cc in
      let now : c.show.new.self ≡ record reader { next = reader.next + 1; shown = c.args.shown } = c.show.ensures ∙ ap (λ (r : Reader). record r { next = r.next + 1; shown = c.args.shown }) is in
      let Of : List (ℕ × Reader) → Readers = λ es. record { readers = es; searchers = c.self.inside.searchers.entries; next_reader = c.self.inside.next_reader; next_searcher = c.self.inside.next_searcher } in
      ap Of (put ∙ ap (insert_entry nat_cmp entries number) now) ∙ ap (λ (v : Readers). record v { readers = insert_entry nat_cmp v.readers number (record reader { next = reader.next + 1; shown = c.args.shown }) }) c.self.view_is;
}
