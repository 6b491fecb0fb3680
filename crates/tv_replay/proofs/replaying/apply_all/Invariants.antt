use Rattle.std.proofs.Common.{◌≡◌, ◌≤◌, ◌+◌, ◌*◌, length, true}
use Rattle.tv_events.specs.Script.{line_limit}
use Rattle.tv_machine.specs.Living.{is_busy}
use Rattle.tv_store.specs.Kept.{AtMost}
use Rattle.tv_catalog.specs.ReaderNumbers.{FewNumbers}
use Rattle.tv_replay.specs.AppliedEvents.{RunFrame}
use Rattle.tv_replay.specs.Replays.{IsQuietAt}
use Rattle.tv_script.specs.ScriptLines.{pending}
use Rattle.tv_replay.proofs.AppliedEvents.{Progress}
use Rattle.tv_replay.proofs.replaying.apply_all.Given as goal

abbrev pub invariant-loop-events : goal.invariant-loop-events
invariant-loop-events g l =
    let view = g.O.Directory.view in
    let source = g.R.Source.view in
    record {
      run : Progress g.O.Directory l.fn.store l.store (source l.fn.script).left (pending l.buffer (source l.script).left) l.events;
      held : length l.buffer ≤ line_limit + 1;
      is_open : l.store.standing.is_open ≡ true;
      short : AtMost (l.events * line_limit) l.store.kept;
      few : FewNumbers (l.events * line_limit) l.store.kept.catalog.reading l.store.kept.collections;
      quiet : IsQuietAt (view l.fn.store.outside) (view l.store.outside) (source l.fn.script) (source l.script);
      frame : RunFrame g.O.Directory.told (is_busy l.store.kept.catalog) (view l.fn.store.outside) (view l.store.outside);
    }
