use Rattle.std.proofs.lemmas.Result.{IfOk-weaker}
use Rattle.tv_snapshots.proofs.FileNames.{named_file}
use Rattle.tv_snapshots.proofs.names.file_of.Goals as goal

pub returns-clause-file : goal.returns-clause-file
returns-clause-file c =
    let made = c.segment_file_name in
    IfOk-weaker made.result _ _ (λ name is. named_file c.args.id name c.args.deletes c.args.component made.ensures.id is) made.ensures.name
