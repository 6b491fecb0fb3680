use Rattle.std.proofs.Common.{[], ap, ◌∙◌}
use Rattle.std.specs.Prelude.{is_some, map}
use Rattle.std.proofs.Math.Bool.{or-false}
use Rattle.std.proofs.lemmas.Result.{on_ok_weaker}
use Rattle.tv_formats.specs.Names.{at, has}
use Rattle.tv_registers.specs.Managers.{CountedBoth}
use Rattle.tv_registers.specs.Registers.{id_of}
use Rattle.tv_registers.proofs.Looked.{put_ids}
use Rattle.tv_registers.proofs.laws.commits_these_segments_alone.Goals as goal

pub returns-clause-ids : goal.returns-clause-ids
returns-clause-ids c =
    on_ok_weaker c.commit.result
    (λ is id.
    ap (λ (b : CountedBoth). is_some (at b.0.committed id)) is ∙ put_ids c.args.entries.items ([], c.args.inventory.now) id
    ∙ or-false (has (map id_of c.args.entries.items) id))
    c.commit.ensures.ok
