use Rattle.std.proofs.Common.{◌≡◌, ◌≤◌, ◌+◌, ◌++◌, true, map, length, string_bytes, vec_len, vec_capacity}
use Rattle.std.specs.List.{list_all}
use Rattle.std.specs.Vec.Iter.{into_iter_items}
use Rattle.tv_formats.specs.Names.{is_plain}
use Rattle.tv_store.proofs.files_collecting.file_names.Given as goal

abbrev pub invariant-loop-text : goal.invariant-loop-text
invariant-loop-text l = record {
  next : goal.iterator-loop-text.can_next l.text-iterator;
  finite : goal.iterator-loop-text.is_finite l.text-iterator;
  plain : list_all is_plain (map string_bytes (into_iter_items l.text-iterator)) ≡ true;
  room : vec_len l.names + length (into_iter_items l.text-iterator) ≤ vec_capacity l.names;
  names : l.names.items ++ map string_bytes (into_iter_items l.text-iterator) ≡ map string_bytes l.fn.texts.items;
}
