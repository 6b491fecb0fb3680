use Rattle.std.proofs.Common.{◌≡◌, ℕ, arith, length, subst, string_bytes, sym}
use Rattle.std.proofs.lemmas.List.{length-map}
use Rattle.tv_managed.specs.Answers.{IsReady}
use Rattle.tv_managed.specs.Names.{AreManaged}
use Rattle.tv_managed.proofs.collection.Collection.new.Goals as goal

pub invariant_of-result : goal.invariant_of-result
invariant_of-result c =
    let names = c.in_ok-names.names.items in
    let count : c.len-2.result ≡ length names = omega (arith, c.len-2.ensures) in
    (record { managed = subst AreManaged (sym c.in_ok-names.ensures) c.requires; each = omega (arith, length-map names string_bytes, c.in_ok-outcomes.ensures.len, c.len.ensures); within = omega arith }, subst (λ (n : ℕ). IsReady n c.in_ok-answer.answer) count c.in_ok-answer.ensures)
