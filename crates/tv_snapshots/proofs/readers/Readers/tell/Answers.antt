use Rattle.std.proofs.Common.{rules, ◌∙◌, ℕ, List, refl, sym, ap, subst}
use Rattle.std.proofs.lemmas.Map.Made.{map_same_pairs}
use Rattle.tv_machine.specs.Living.{HasOneLock}
use Rattle.tv_machine.specs.ReloadEvents.{told_of_commit, with_notices}
use Rattle.tv_machine.specs.State.{Reader, Readers}
use Rattle.tv_snapshots.proofs.Reloading.{one_mapped}
use Rattle.tv_snapshots.proofs.readers.Readers.tell.Goals as goal

pub invariant_of-self : goal.invariant_of-self
invariant_of-self c =
    let entries = c.self.inside.readers.entries in
    let told = map_same_pairs _ told_of_commit _ (λ k v b w f' t. search rules) entries c.retain.new.self.entries c.retain.ensures.filtered in
    subst HasOneLock (sym told) (one_mapped entries told_of_commit (λ r. refl) c.self.invariant)

pub returns : goal.returns
returns c =
    let entries = c.self.inside.readers.entries in
    let told = map_same_pairs _ told_of_commit _ (λ k v b w f' t. search rules) entries c.retain.new.self.entries c.retain.ensures.filtered in
    let Of : List (ℕ × Reader) → Readers = λ es. record { readers = es; searchers = c.self.inside.searchers.entries; next_reader = c.self.inside.next_reader; next_searcher = c.self.inside.next_searcher } in
    ap Of told ∙ ap with_notices c.self.view_is
