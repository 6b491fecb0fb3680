use Rattle.std.proofs.Common.{◌≡◌, true, filter, map, string_bytes}
use Rattle.std.specs.List.{list_all}
use Rattle.tv_formats.specs.Names.{has, is_plain}
use Rattle.tv_metas.proofs.naming.shared_names.Given as goal

abbrev pub invariant-loop-name : goal.invariant-loop-name
invariant-loop-name l = record {
  names : l.shared.items ≡ filter (λ name. has (map string_bytes l.others.keys) name) (map (λ name. string_bytes name.now) l.yielded);
  plain : list_all is_plain (map string_bytes l.name-iterator) ≡ true;
}
