use Rattle.std.proofs.Common.{◌≡◌, ◌≤◌, true, drop, vec_capacity}
use Rattle.tv_formats.specs.Files.{has_no_feed}
use Rattle.tv_events.specs.AnswerLines.{line}
use Rattle.tv_catalog.proofs.lines.push_names.Given as goal

abbrev pub invariant-loop-name : goal.invariant-loop-name
invariant-loop-name l = record {
  line : line l.text.items (drop l.name-index l.names) ≡ line l.initial.text.items l.names;
  room : vec_capacity l.initial.text ≤ vec_capacity l.text;
  feed : has_no_feed l.text.items ≡ true;
}
