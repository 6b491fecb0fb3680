use Rattle.tv_formats.proofs.NoFeeds.{no_feed_id}
use Rattle.tv_events.proofs.answer.Answer.id.Goals as goal

pub word-requires : goal.word-requires
word-requires c = rw c.write_digits.ensures.digits (no_feed_id c.args.id)
