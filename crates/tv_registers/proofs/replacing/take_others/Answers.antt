use Rattle.std.proofs.Common.{rules, ◌≡◌, ◌+◌, ◌∷◌, Bool, true, false, cond, not, ℕ, List, drop, ap, sym, ◌∙◌}
use Rattle.std.proofs.lemmas.List.{at_drop_more}
use Rattle.std.specs.Prelude.{filter}
use Rattle.tv_formats.specs.Names.{is}
use Rattle.tv_registers.specs.Registers.{Counted, without_each}
use Rattle.tv_registers.proofs.replacing.take_others.Goals as goal
use Rattle.tv_registers.proofs.replacing.take_others.Goals.{then-ne, else-ne}

pub loop-id-preserved : goal.loop-id-preserved
loop-id-preserved c =
    let ids = c.args.ids.now in
    let i = c.loop-id.id-index in
    let id = c.id-item.result in
    let other : List ℕ → Bool = λ k. not (is c.args.stays k) in
    let left = filter other (drop (i + 1) ids) in
    let before : Counted = (c.loop-id.segments.entries, c.loop-id.inventory) in
    let here : without_each (filter other (drop i ids)) before ≡ without_each (filter other (id ∷ drop (i + 1) ids)) before =
    at_drop_more (λ l. without_each (filter other l) before) ids i id c.loop-id-test.true ∙ ap (λ k. without_each (filter other (k ∷ drop (i + 1) ids)) before) (sym c.id-item.is) in
    elim c.if-ne.branch [
      | then-ne w ↦
          let differs : is c.args.stays id ≡ false = search rules in
          let now : ◌≡◌ {A = Counted} (c.if-ne.segments.entries, c.if-ne.inventory) (w.take_entry.new.segments.entries, w.take_entry.new.inventory) =
          λ k. ((w.segments-is k).entries, w.inventory-is k) in
          ap (without_each left) (now ∙ w.take_entry.ensures)
          ∙ sym (here ∙ ap (λ (b : Bool). without_each (cond (not b) (id ∷ left) left) before) differs) ∙ c.loop-id.invariant
      | else-ne w ↦
          let same : is c.args.stays id ≡ true = search rules in
          let now : ◌≡◌ {A = Counted} (c.if-ne.segments.entries, c.if-ne.inventory) before = λ k. ((w.segments-is k).entries, w.inventory-is k) in
          ap (without_each left) now ∙ sym (here ∙ ap (λ (b : Bool). without_each (cond (not b) (id ∷ left) left) before) same) ∙ c.loop-id.invariant
    ]
