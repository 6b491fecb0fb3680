use Rattle.std.proofs.Common.{◌≡◌, true, codes, map, string_bytes}
use Rattle.std.specs.List.{list_all}
use Rattle.tv_formats.specs.Names.{is_plain}
use Rattle.tv_events.specs.AnswerLines.{line}
use Rattle.tv_catalog.proofs.catalog.Catalog.managed.Given as goal

abbrev pub invariant-loop-name : goal.invariant-loop-name
invariant-loop-name l = record {
  text : l.answer ≡ line (codes "managed") (map (λ name. string_bytes name.now) l.yielded);
  plain : list_all is_plain (map string_bytes l.name-iterator) ≡ true;
}
