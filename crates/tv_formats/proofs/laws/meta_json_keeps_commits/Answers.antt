use Rattle.tv_formats.proofs.MeansOne.{means_no_other, means_one, means_something, spelled_means}
use Rattle.tv_formats.proofs.ReadPrinted.{printed_means}
use Rattle.tv_formats.proofs.SpelledCommits.{means_commit}
use Rattle.tv_formats.proofs.laws.meta_json_keeps_commits.Goals as goal

pub returns : goal.returns
returns c = record {
  printed = λ settings schema tree commit h small s. printed_means settings schema tree commit h small s;
  spelled = λ settings schema bytes tree commit s h. spelled_means settings schema bytes commit tree s h;
  one = λ schema bytes first second commit other h k. means_one first second schema bytes commit other h k;
  is_commit = λ settings schema bytes commit h. means_commit settings schema bytes commit h;
  something = λ settings schema bytes commit h none. means_something settings schema bytes commit h none;
  no_other = λ settings schema bytes commit h other. means_no_other settings schema bytes commit h other;
}
