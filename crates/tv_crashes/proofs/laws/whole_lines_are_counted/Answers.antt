use Rattle.tv_crashes.proofs.ToldLines.{at_most, line_of_one, no_feed_no_line}
use Rattle.tv_crashes.proofs.laws.whole_lines_are_counted.Goals as goal

pub returns : goal.returns
returns c = record { part = no_feed_no_line; line = line_of_one; no_more = at_most }
