use Rattle.std.proofs.Common.{◌≡◌, ◌+◌, ◌-◌, drop, length, take}
use Rattle.std.specs.Vec.Iter.{into_iter_items, into_iter_len}
use Rattle.tv_managed.specs.Answers.{HasRoom}
use Rattle.tv_managed.specs.Collecting.{names_of}
use Rattle.tv_managed.specs.Names.{tried_so}
use Rattle.tv_managed.proofs.collection.told_in.Given as goal

abbrev pub invariant-loop-gone : goal.invariant-loop-gone
invariant-loop-gone l = record {
  left : into_iter_items l.names ≡ drop l.gone-index l.fn.names.items;
  count : into_iter_len l.names + l.gone-index ≡ length l.fn.names.items;
  room : HasRoom (length l.fn.names.items - l.gone-index) l.answer;
  deleted : names_of l.answer.deleted_files.items ≡ (tried_so (names_of l.fn.names.items) (take l.gone-index l.outcomes)).done;
  failed : names_of l.answer.failed_to_delete_files.items ≡ (tried_so (names_of l.fn.names.items) (take l.gone-index l.outcomes)).failed;
}
