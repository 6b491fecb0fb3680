use Rattle.std.proofs.Common.{rules}
use Rattle.tv_formats.proofs.NoFeeds.{no_feed_number}
use Rattle.tv_events.proofs.answer.Answer.number.Goals as goal

pub word-requires : goal.word-requires
word-requires c = rw (c.as_bytes.ensures.value, c.format.ensures.text) (no_feed_number c.args.number (search rules))
