use Rattle.tv_formats.proofs.MeansOne.{means_spelled}
use Rattle.tv_formats.proofs.OneMeaning.{one_meaning}
use Rattle.tv_formats.proofs.ReadPrinted.{printed_spells}
use Rattle.tv_formats.proofs.SpelledCommits.{spells_commit}
use Rattle.tv_formats.proofs.laws.json_spells_one_commit.Goals as goal

pub returns : goal.returns
returns c = record {
  printed = λ settings schema tree commit h small s inside. printed_spells settings schema tree commit h small s inside;
  spelled = λ settings schema bytes commit h there. (h.tree, h.schema_is, means_spelled settings schema bytes commit h there);
  one = λ bytes first second commit other tree schema h k. one_meaning bytes first second commit other tree schema h k;
  is_commit = λ bytes settings commit tree h. spells_commit bytes settings commit tree h;
}
