use Rattle.tv_replay.proofs.generating.numbered_id.Goals as goal

pub returns : goal.returns
returns c = rw (c.from_bytes.ensures, c.to_be_bytes.ensures, c.from.ensures) at c.uuid_string.ensures.digits
