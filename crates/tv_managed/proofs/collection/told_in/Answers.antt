use Rattle.std.proofs.Common.{arith, ◌≡◌, ◌≤◌, ◌<◌, ◌+◌, ◌-◌, ◌∷◌, ℕ, List, String, Global, false, sym, ap, subst, ◌∙◌, get_or, drop, drop-cons, suc, take, string_bytes, length}
use Rattle.std.proofs.lemmas.List.{length-map, get_or-map}
use Rattle.tv_managed.specs.Answers.{HasRoom}
use Rattle.tv_managed.specs.Collecting.{names_of}
use Rattle.tv_managed.specs.Names.{tried_so}
use Rattle.tv_managed.proofs.TriedSo.{outcome_more, told_done, told_failed}
use Rattle.tv_managed.proofs.collection.told_in.Goals as goal
use Rattle.tv_managed.proofs.collection.told_in.Goals.{in-Some, in_default}

-- what comes after the text that comes first
next_left : (texts rest : List (String Global)) (i : ℕ) (text : String Global) → i < length texts → drop i texts ≡ text ∷ rest → rest ≡ drop (i + 1) texts
next_left texts rest i text lt is =
    let both = sym (drop-cons texts i text lt) ∙ is in
    let one : i + 1 ≡ suc i = omega arith in
    rw one (cc)

-- and that is the text at its place
next_text : (texts rest : List (String Global)) (i : ℕ) (text : String Global) → i < length texts → drop i texts ≡ text ∷ rest → get_or texts i text ≡ text
next_text texts rest i text lt is =
    let both = sym (drop-cons texts i text lt) ∙ is in
    cc

pub loop-gone-preserved : goal.loop-gone-preserved
loop-gone-preserved c =
    let texts = c.args.names.items in
    let names = names_of texts in
    let outcomes = c.args.outcomes.now in
    let i = c.loop-gone.gone-index in
    let was = c.loop-gone.invariant in
    let lt : i < length texts = omega (arith, c.requires.within, c.loop-gone-test.true) in
    let le : length outcomes ≤ length names = omega (arith, length-map texts string_bytes, c.requires.within) in
    elim c.match-next.branch [
      | in-Some w ↦
          let text = w.in-Some.name in
          let here = sym was.left ∙ w.in-Some.ensures.items in
          let gone = get_or outcomes i false in
          let so_far = tried_so names (take i outcomes) in
          let name = get_or names i (string_bytes text) in
          let left = drop (suc i) names in
          let next = outcome_more names outcomes i (string_bytes text) false (omega arith) le in
          let same : string_bytes text ≡ name = ap string_bytes (sym (next_text texts _ i text lt here)) ∙ sym (get_or-map string_bytes texts i text (string_bytes text) lt) in
          let fewer : length texts - i ≡ 1 + (length texts - (i + 1)) = omega arith in
          record {
            left = next_left texts _ i text lt here;
            count = omega (arith, was.count, w.in-Some.ensures.cases.1);
            room = subst (HasRoom (length texts - (i + 1))) (sym w.answer-is) (w.add.ensures.room (length texts - (i + 1)) (subst (λ (n : ℕ). HasRoom n c.loop-gone.answer) fewer was.room));
            deleted = ap (λ a. names_of a.deleted_files.items) w.answer-is ∙ told_done gone so_far name left _ _ text w.add.ensures.deleted was.deleted same ∙ ap (λ v. v.done) (sym next);
            failed = ap (λ a. names_of a.failed_to_delete_files.items) w.answer-is ∙ told_failed gone so_far name left _ _ text w.add.ensures.failed was.failed same ∙ ap (λ v. v.failed) (sym next);
          }
      | in_default w ↦ absurd (omega (arith, was.count, lt, w.in_default.ensures.cases.0))
    ]
