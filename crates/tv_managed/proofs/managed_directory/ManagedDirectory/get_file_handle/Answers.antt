use Rattle.std.proofs.Common.{◌∙◌}
use Rattle.std.proofs.lemmas.Result.{IfOk-weaker}
use Rattle.tv_managed.proofs.managed_directory.ManagedDirectory.get_file_handle.Goals as goal

pub returns-clause-back : goal.returns-clause-back
returns-clause-back g c tells body h =
    IfOk-weaker c.bytes_of.result _ _ (λ bytes is. is ∙ c.in_ok-body.ensures.back tells body h) c.bytes_of.ensures.bytes
