use Rattle.std.proofs.Common.{◌≡◌, drop, map}
use Rattle.std.specs.Prelude.{string_bytes}
use Rattle.tv_formats.specs.Ids.{are_distinct}
use Rattle.tv_formats.specs.Names.{has}
use Rattle.tv_formats.proofs.Apart.{are_news}
use Rattle.tv_metas.proofs.SeenNames.{seen_texts}
use Rattle.tv_metas.proofs.schema_tree.are_distinct.Given as goal

abbrev pub invariant-loop-name : goal.invariant-loop-name
invariant-loop-name l =
    are_distinct (map string_bytes l.names) ≡ are_news (has (seen_texts l.seen.keys)) (map string_bytes (drop l.name-index l.names))
