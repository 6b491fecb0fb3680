use Rattle.std.proofs.Common.{◌≡◌, ◌<◌, ◌+◌, ◌^◌, length, map, string_bytes}
use Rattle.tv_events.specs.AnswerLines.{line}
use Rattle.tv_catalog.proofs.SharedLaws.{words_len}
use Rattle.tv_catalog.proofs.plan_collections.line_len.Given as goal

abbrev pub invariant-loop-name : goal.invariant-loop-name
invariant-loop-name l = record {
  sum : l.len + words_len (map string_bytes l.name-iterator) ≡ length (line l.text (map string_bytes l.names.keys));
  fits : l.len < 2 ^ 64;
}
