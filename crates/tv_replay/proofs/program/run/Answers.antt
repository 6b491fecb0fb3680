use Rattle.std.proofs.Common.{inl, inr, refl, sym, ◌∙◌}
use Rattle.tv_replay.proofs.CommandRuns.{generated_so, measured_so}
use Rattle.tv_replay.proofs.Runs.{says_this, same_words, asked_so, comes_to_end}
use Rattle.tv_replay.proofs.program.run.Goals as goal

pub run_replay-requires-clause-paths : goal.run_replay-requires-clause-paths
run_replay-requires-clause-paths g c = c.requires.paths c.in-Some-Replay.folder.now c.in-Some-Replay.path.now (inl (rw c.in-Some-Replay.field-0-is at c.in-Some-Replay.ensures))

pub returns-in-None-clause-usage_line : goal.returns-in-None-clause-usage_line
returns-in-None-clause-usage_line g c two = (says_this c.as_bytes.ensures.value c.say_line.ensures.says, refl)

pub returns-in-Some-Replay-clause-complete : goal.returns-in-Some-Replay-clause-complete
returns-in-Some-Replay-clause-complete g c u =
    let are = rw c.in-Some-Replay.field-0-is at c.in-Some-Replay.ensures in
    let same = same_words (sym are ∙ u.words_are) in
    comes_to_end g.P.Out.Directory g.P.Place.told _ _ _ u c.run_replay.result (asked_so g.P.Out.Directory g.P.Place.told _ _ c.run_replay.result same.0 same.1 c.run_replay.ensures.ends)

pub returns-in-Some-Generate-clause-ends : goal.returns-in-Some-Generate-clause-ends
returns-in-Some-Generate-clause-ends g c =
    let are = rw c.in-Some-Generate.field-0-is at c.in-Some-Generate.ensures in
    generated_so g.P.Out.Directory g.P.Place.told _ _ _ c.run_generate.result c.in-Some-Generate.n are.0 are.1 c.run_generate.ensures refl

pub run_space-requires-clause-paths : goal.run_space-requires-clause-paths
run_space-requires-clause-paths g c = c.requires.paths c.in-Some-Space.folder.now c.in-Some-Space.path.now (inr (rw c.in-Some-Space.field-0-is at c.in-Some-Space.ensures))

pub returns-in-Some-Space-clause-ends : goal.returns-in-Some-Space-clause-ends
returns-in-Some-Space-clause-ends g c =
    let are = rw c.in-Some-Space.field-0-is at c.in-Some-Space.ensures in
    measured_so g.P.Out.Directory g.P.Place.told _ _ _ c.run_space.result c.in-Some-Space.folder.now c.in-Some-Space.path.now are c.run_space.ensures.ends refl
