use Rattle.std.proofs.Common.{List, map, subst, arith}
use Rattle.std.specs.List.{AllByRecursion}
use Rattle.tv_formats.specs.Commits.{IsSegment}
use Rattle.tv_metas.specs.Tracked.{Share}
use Rattle.tv_index.proofs.Saves.{ordered_is_commit}
use Rattle.tv_index.proofs.saving.learn_commit.Goals as goal

pub returns-clause-commit : goal.returns-clause-commit
returns-clause-commit c commit order =
    ordered_is_commit c.args.meta.now commit (subst (λ (l : List Share). AllByRecursion IsSegment (map (λ s. s.1) l)) c.as_slice.ensures.value c.are_segments.ensures) (omega arith) order
