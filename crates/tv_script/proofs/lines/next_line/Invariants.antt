use Rattle.std.proofs.Common.{◌≡◌, ◌≤◌, ◌-◌, ◌+◌, length, List, ℕ, Some, vec_len}
use Rattle.tv_events.specs.Script.{line_limit}
use Rattle.tv_script.specs.ScriptLines.{pending, BeginsLine}
use Rattle.tv_script.proofs.lines.next_line.Given as goal

abbrev pub invariant-pieces : goal.invariant-pieces
invariant-pieces g l =
    let view = g.S.Source.view in
    record {
      begins : (script : List ℕ) → pending l.fn.buffer (view l.fn.source).left ≡ Some script → BeginsLine script l.line.items (pending l.buffer (view l.source).left);
      held : length l.buffer + vec_len l.line ≤ line_limit + 1;
      short : vec_len l.line ≤ line_limit;
      quiet : (view l.source).faults ≡ (view l.fn.source).faults;
    }

abbrev pub decreases-pieces : goal.decreases-pieces
decreases-pieces g l = line_limit - vec_len l.line
