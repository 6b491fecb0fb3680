use Rattle.std.proofs.Common.{rules, ◌≡◌, ◌+◌, ◌++◌, [], ◌∷◌, ◌∙◌, List, ℕ, ap, append_assoc, length, sym}
use Rattle.std.proofs.lemmas.List.{length-append}
use Rattle.tv_directory.proofs.CutTexts.{one_more}
use Rattle.tv_directory.proofs.bench_told.Told.tell.Goals as goal

pub returns : goal.returns
returns c =
    let old = c.self.inside in
    let line = c.args.line.now ++ 10 ∷ [] in
    let first : c.extend_from_slice.new.self.items ≡ old.text.items ++ c.args.line.now = rw c.unwrap.ensures at c.extend_from_slice.ensures.items in
    let second : c.push.new.self.items ≡ c.extend_from_slice.new.self.items ++ 10 ∷ [] = rw c.unwrap-2.ensures at c.push.ensures.items in
    let text : c.push.new.self.items ≡ old.text.items ++ line =
    second ∙ ap (λ (l : List ℕ). l ++ 10 ∷ []) first ∙ append_assoc old.text.items c.args.line.now (10 ∷ []) in
    let pieces : c.push-2.new.self.items ≡ old.pieces.items ++ (c.args.moment, length c.args.line.now + 1) ∷ [] = search rules in
    rw (text, pieces, ← c.self.view_is)
    (one_more old.pieces.items old.text.items line c.args.moment (length c.args.line.now + 1) c.self.invariant (sym (length-append c.args.line.now (10 ∷ []))))
