use Rattle.std.proofs.Common.{rules, ◌≡◌, ◌++◌, ◌+◌, ◌∷◌, [], ℕ, List, drop, map, take, ap, sym, ◌∙◌}
use Rattle.std.proofs.lemmas.List.{at_drop_more, map_push, take_more}
use Rattle.tv_base.specs.Entries.{released}
use Rattle.tv_registers.specs.Sharing.{shared, taken_back}
use Rattle.tv_registers.proofs.Shares.{shared_next, taken_last}
use Rattle.tv_registers.proofs.sharing.push_shares.Goals as goal

pub loop-value-preserved : goal.loop-value-preserved
loop-value-preserved g c =
    let ticket = g.T.Counted.ticket in
    let all = c.args.chosen.now in
    let i = c.loop-value.value-index in
    let value = c.value-item.result in
    let share = c.in_ok-share.share in
    let before = c.loop-value.inventory in
    let now = c.share_one.new.inventory in
    let done = c.loop-value.shares.items in
    let here = c.loop-value-test.true in
    let pushed : c.push.new.self.items ≡ done ++ share ∷ [] = search rules in
    let equal : share ≡ value.now = c.in_ok-share.ensures.same in
    let numbers = map ticket (map (λ c. c.now) (drop (i + 1) all)) in
    let given : released (ticket share) now ≡ before = ap (λ x. released (ticket x) now) equal ∙ c.in_ok-share.ensures.shares.undone in
    record {
      same =
          pushed ∙ ap (λ l. l ++ share ∷ []) c.loop-value.invariant.same ∙ ap (λ x. map (λ c. c.now) (take i all) ++ x ∷ []) equal
          ∙ sym (ap (map (λ c. c.now)) (take_more all i value here ∙ ap (λ v. take i all ++ v ∷ []) (sym c.value-item.is)) ∙ map_push (λ c. c.now) (take i all) value);
      shares =
          sym (shared_next (ticket value.now) numbers before now c.in_ok-share.ensures.shares.ok)
          ∙ sym (at_drop_more (λ l. shared (map ticket (map (λ c. c.now) l)) before) all i value here
          ∙ ap (λ v. shared (map ticket (map (λ c. c.now) (v ∷ drop (i + 1) all))) before) (sym c.value-item.is))
          ∙ c.loop-value.invariant.shares;
      undone =
          ap (λ l. taken_back (map ticket l) now) pushed ∙ ap (λ (l : List ℕ). taken_back l now) (map_push ticket done share)
          ∙ taken_last (map ticket done) (ticket share) now ∙ ap (taken_back (map ticket done)) given ∙ c.loop-value.invariant.undone;
    }
