use Rattle.std.proofs.Common.{arith, ◌≡◌, ◌≤◌, [], ◌∷◌, ℕ, List, Bool, false, true, refl, String, Global, sym, ap, subst, ◌∙◌, get_or, drop, suc, take, string_bytes, length}
use Rattle.std.proofs.lemmas.List.{length-map, get_or-map}
use Rattle.tv_formats.specs.Collections.{having_tried, without}
use Rattle.tv_managed.specs.Collecting.{names_of}
use Rattle.tv_managed.specs.Names.{AreManaged, tried_so}
use Rattle.tv_managed.proofs.Removals.{texts_left, texts_without, without_more, without_none}
use Rattle.tv_managed.proofs.TriedSo.{outcome_more}
use Rattle.tv_managed.proofs.collection.without_done.Goals as goal
use Rattle.tv_managed.proofs.collection.without_done.Goals.{then-is_done, else-is_done}

pub loop-i-init : goal.loop-i-init
loop-i-init c = record { managed = c.requires.managed; rest = sym (without_none (names_of c.args.names.keys)) }

pub loop-i-preserved : goal.loop-i-preserved
loop-i-preserved c =
    let texts = c.args.tried.now in
    let names = names_of texts in
    let outcomes = c.args.outcomes.now in
    let i = c.loop-i.i in
    let all = names_of c.args.names.keys in
    let so_far = tried_so names (take i outcomes) in
    let keys = c.loop-i.names.keys in
    let was = c.loop-i.invariant in
    let le : length outcomes ≤ length names = omega (arith, length-map texts string_bytes, c.requires.within) in
    elim c.if-is_done.branch [
      | then-is_done w ↦
          let name = w.as_str.result.now in
          let gone : get_or outcomes i false ≡ true = w.if-is_done.true in
          let same : get_or names i name ≡ name = get_or-map string_bytes texts i w.index-tried-i.result name (omega arith) ∙ ap string_bytes (sym w.index-tried-i.is) ∙ sym w.as_str.ensures.value in
          let next = outcome_more names outcomes i name false (omega arith) le in
          let cut : names_of w.remove.new.self.keys ≡ without (name ∷ []) (names_of keys) = texts_without keys w.remove.new.self.keys name w.remove.ensures.keys was.managed in
          record {
            managed = subst (λ (l : List (String Global)). AreManaged (names_of l)) (ap (λ n. n.keys) (sym w.names-is)) (texts_left keys w.remove.new.self.keys name w.remove.ensures.keys was.managed);
            rest = ap (λ n. names_of n.keys) w.names-is ∙ cut ∙ ap (without (name ∷ [])) was.rest
                ∙ sym (without_more so_far.done all name (drop (suc i) names) so_far refl)
                ∙ ap (λ (n : List ℕ). without (having_tried so_far n (drop (suc i) names) true).done all) (sym same)
                ∙ ap (λ (b : Bool). without (having_tried so_far (get_or names i name) (drop (suc i) names) b).done all) (sym gone)
                ∙ ap (λ v. without v.done all) (sym next);
          }
      | else-is_done w ↦
          let kept : get_or outcomes i false ≡ false = w.if-is_done.false in
          let next = outcome_more names outcomes i [] false (omega arith) le in
          record {
            managed = subst (λ (l : List (String Global)). AreManaged (names_of l)) (ap (λ n. n.keys) (sym w.names-is)) was.managed;
            rest = ap (λ n. names_of n.keys) w.names-is ∙ was.rest
                ∙ ap (λ (b : Bool). without (having_tried so_far (get_or names i []) (drop (suc i) names) b).done all) (sym kept)
                ∙ ap (λ v. without v.done all) (sym next);
          }
    ]
