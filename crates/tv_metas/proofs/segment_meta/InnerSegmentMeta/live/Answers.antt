use Rattle.std.proofs.Common.{refl}
use Rattle.tv_metas.proofs.segment_meta.InnerSegmentMeta.live.Goals as goal

pub returns : goal.returns
returns c = refl
