use Rattle.std.proofs.Common.{◌≡◌, ℕ, subst}
use Rattle.std.specs.Prelude.{IfOk}
use Rattle.tv_formats.specs.Footer.{footer}
use Rattle.tv_managed.proofs.managed_directory.footer_bytes.Goals as goal

pub returns : goal.returns
returns c body taken =
    subst (λ (n : ℕ). IfOk c.to_bytes.result (λ bytes. bytes.items ≡ footer n)) (c.finish.ensures body taken) (c.to_bytes.ensures.own c.finish.result c.new.ensures.footer)
