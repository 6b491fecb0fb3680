use Rattle.std.proofs.Common.{◌≡◌, take}
use Rattle.tv_formats.specs.Collections.{without}
use Rattle.tv_managed.specs.Collecting.{names_of}
use Rattle.tv_managed.specs.Names.{AreManaged, tried_so}
use Rattle.tv_managed.proofs.collection.without_done.Given as goal

abbrev pub invariant-loop-i : goal.invariant-loop-i
invariant-loop-i l = record {
  managed : AreManaged (names_of l.names.keys);
  rest : names_of l.names.keys ≡ without (tried_so (names_of l.tried) (take l.i l.outcomes)).done (names_of l.fn.names.keys);
}
