use Rattle.std.proofs.Common.{◌≡◌, ℕ, true, true≢false, List, sym, subst}
use Rattle.std.proofs.lemmas.Result.{IfOk-weaker}
use Rattle.tv_formats.specs.Names.{is_plain}
use Rattle.tv_metas.proofs.tracked.SegmentMeta.file_name.Goals as goal

pub returns-clause-other : goal.returns-clause-other
returns-clause-other c =
    IfOk-weaker c.segment_file_name.result _ _ (λ name plain is. true≢false (sym (subst (λ (n : List ℕ). is_plain n ≡ true) is plain)))
    c.segment_file_name.ensures.plain
