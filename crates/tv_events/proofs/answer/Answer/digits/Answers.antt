use Rattle.tv_formats.proofs.NoFeeds.{no_feed_id}
use Rattle.tv_events.proofs.answer.Answer.digits.Goals as goal

pub more-requires : goal.more-requires
more-requires c = rw (c.as_bytes.ensures.value, c.in_ok-digits.ensures) (no_feed_id c.args.bytes.now)
