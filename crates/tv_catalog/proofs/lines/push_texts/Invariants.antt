use Rattle.std.proofs.Common.{◌≡◌, ◌≤◌, true, drop, vec_capacity}
use Rattle.std.specs.List.{list_all}
use Rattle.tv_formats.specs.Files.{has_no_feed}
use Rattle.tv_formats.specs.Names.{is_plain}
use Rattle.tv_events.specs.AnswerLines.{line}
use Rattle.tv_catalog.specs.Kept.{texts_of}
use Rattle.tv_catalog.proofs.lines.push_texts.Given as goal

abbrev pub invariant-loop-name : goal.invariant-loop-name
invariant-loop-name l = record {
  line : line l.text.items (texts_of (drop l.name-index l.names)) ≡ line l.initial.text.items (texts_of l.names);
  room : vec_capacity l.initial.text ≤ vec_capacity l.text;
  feed : has_no_feed l.text.items ≡ true;
  plain : list_all is_plain (texts_of (drop l.name-index l.names)) ≡ true;
}
