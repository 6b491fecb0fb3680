use Rattle.std.proofs.Common.{◌≢◌, ◌≤◌, ⊎_elim, ℕ, List, length, Result, Ok, Err, arith}
use Rattle.std.specs.Prelude.{IfErr}
use Rattle.tv_formats.specs.Footer.{footer_magic, four_bytes}
use Rattle.tv_base.specs.declared.io.IoError.{IoError}
use Rattle.tv_framing.specs.Faults.{OfFault}
use Rattle.tv_framing.specs.Footers.{HasOtherMagic, IsTooSmall, Refuses, last_four}
use Rattle.tv_framing.proofs.FooterEnds.{of_fault}
use Rattle.tv_framing.proofs.laws.looks_at_the_magic_number_first.Goals as goal

first : {T : Type 0} (bytes : List ℕ) (r : Result T IoError) → IfErr r (OfFault (Refuses bytes)) → 8 ≤ length bytes → last_four bytes ≢ four_bytes footer_magic → IfErr r (OfFault (HasOtherMagic bytes))
first bytes (Ok found) refuses large other = tt
first bytes (Err e) refuses large other =
    of_fault e refuses (λ fault reason. ⊎_elim (λ (a : IsTooSmall bytes fault). absurd (omega (arith, a.small, large)))
    (⊎_elim (λ a. a) (⊎_elim (λ a. absurd (other a.magic)) (⊎_elim (λ a. absurd (other a.magic)) (λ a. absurd (other a.magic))))) reason)

pub returns : goal.returns
returns c = first c.args.file c.extract_footer.result c.extract_footer.ensures.err
