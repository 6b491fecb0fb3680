use Rattle.std.proofs.Common.{rules, ◌≡◌, ◌++◌, ◌+◌, ◌∷◌, [], List, ℕ, map, take, ap, sym, ◌∙◌}
use Rattle.std.proofs.lemmas.List.{map_push, take_more}
use Rattle.std.specs.Prelude.{None, Some}
use Rattle.tv_formats.specs.Names.{at}
use Rattle.tv_registers.specs.Registers.{EntryState, entries_at}
use Rattle.tv_registers.proofs.Chosen.{more_absent, more_there}
use Rattle.tv_registers.proofs.choosing.choose_ids.Goals as goal
use Rattle.tv_registers.proofs.choosing.choose_ids.Goals.{in-Some+in_ok-push, in_default}

pub loop-id-preserved : goal.loop-id-preserved
loop-id-preserved c =
    let ids = c.args.ids.now in
    let i = c.loop-id.id-index in
    let id = c.id-item.result in
    let register = c.args.segments.now.entries in
    let more : take (i + 1) ids ≡ take i ids ++ id ∷ [] = take_more ids i id c.loop-id-test.true ∙ ap (λ (k : List ℕ). take i ids ++ k ∷ []) (sym c.id-item.is) in
    elim c.match-get.branch [
      | in-Some+in_ok-push w ↦
          let there : at register id ≡ Some w.in-Some.entry.now = search rules in
          let pushed : c.match-get.chosen.items ≡ c.loop-id.chosen.items ++ w.in-Some.entry ∷ [] = search rules in
          ap (map (λ e. e.now)) pushed ∙ map_push (λ e. e.now) c.loop-id.chosen.items w.in-Some.entry ∙ ap (λ (es : List EntryState). es ++ w.in-Some.entry.now ∷ []) c.loop-id.invariant
          ∙ sym (ap (entries_at register) more ∙ more_there (at register) (take i ids) id w.in-Some.entry.now there)
      | in_default w ↦
          let none : at register id ≡ None = search rules in
          let same : map (λ e. e.now) c.match-get.chosen.items ≡ map (λ e. e.now) c.loop-id.chosen.items = search rules in
          same ∙ c.loop-id.invariant ∙ sym (ap (entries_at register) more ∙ more_absent (at register) (take i ids) id none)
    ]
