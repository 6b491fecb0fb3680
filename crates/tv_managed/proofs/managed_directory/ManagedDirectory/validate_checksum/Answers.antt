use Rattle.std.proofs.Common.{◌==◌, ℕ, ap, ◌∙◌}
use Rattle.std.proofs.lemmas.Result.{IfOk-weaker}
use Rattle.tv_formats.specs.Checksum.{crc32}
use Rattle.tv_managed.proofs.managed_directory.ManagedDirectory.validate_checksum.Goals as goal

pub returns-clause-answer : goal.returns-clause-answer
returns-clause-answer g c tells =
    let found = c.in_ok-footer.ensures.read tells in
    IfOk-weaker c.is_right.result _ _
    (λ right says. (found.0, found.1, record { footer = _; body = c.in_ok-footer.body; framed = found.2; says = says ∙ ap (λ (n : ℕ). n == crc32 c.in_ok-footer.body) c.crc.ensures.crc }))
    c.is_right.ensures.says
