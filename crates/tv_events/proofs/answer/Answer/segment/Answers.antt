use Rattle.std.proofs.Common.{rules}
use Rattle.tv_formats.proofs.NoFeeds.{no_feed_number}
use Rattle.tv_events.proofs.answer.Answer.segment.Goals as goal

pub more-requires-2 : goal.more-requires-2
more-requires-2 c = rw (c.as_bytes.ensures.value, c.format.ensures.text) (no_feed_number c.from-count.result (search rules))
