use Rattle.std.proofs.Common.{◌<◌, length, string_bytes, arith}
use Rattle.tv_replay.proofs.StandingIndexes.{plain_at}
use Rattle.tv_replay.proofs.summary.count_files.Goals as goal

pub exists-requires : goal.exists-requires
exists-requires g c =
    let within : c.loop-name.name-index < length c.args.names.now = omega arith in
    rw c.as_str.ensures.value (plain_at string_bytes c.args.names.now c.loop-name.name-index c.name-item.result within c.name-item.is c.requires)
