use Rattle.std.proofs.Common.{◌≡◌, take}
use Rattle.tv_managed.specs.Collecting.{names_of, texts_of}
use Rattle.tv_managed.proofs.collection.copies_of.Given as goal

abbrev pub invariant-loop-text : goal.invariant-loop-text
invariant-loop-text l = names_of l.copies.items ≡ texts_of (take l.text-index l.texts)
