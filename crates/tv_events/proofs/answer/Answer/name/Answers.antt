use Rattle.tv_formats.proofs.NoFeeds.{no_feed_name}
use Rattle.tv_events.proofs.answer.Answer.name.Goals as goal

pub word-requires : goal.word-requires
word-requires c = rw c.as_bytes.ensures.value (no_feed_name c.as_str.result.now c.as_str.ensures.name)
