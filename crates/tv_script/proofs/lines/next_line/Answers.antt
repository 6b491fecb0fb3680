use Rattle.std.proofs.Common.{◌+◌, ◌≤◌, length, arith, ◌∙◌}
use Rattle.std.proofs.lemmas.Result.{err_from_is_err_and}
use Rattle.tv_events.specs.Script.{line_limit}
use Rattle.tv_script.specs.ScriptLines.{pending}
use Rattle.tv_script.proofs.LineLemmas.{reads_ahead, still_begins, takes_last, takes_line, too_long}
use Rattle.tv_script.proofs.lines.next_line.Goals as goal

pub returns-then-is_empty-clause-line : goal.returns-then-is_empty-clause-line
returns-then-is_empty-clause-line g c script told =
    let begun = c.pieces.invariant.begins script told in
    let b = still_begins script c.pieces.line.items _ (pending c.refill.new.self (g.S.Source.view c.refill.new.source).left) begun c.in_ok-refill.ensures.same in
    takes_last script c.pieces.line.items _ b (c.in_ok-refill.ensures.end (c.is_empty.ensures.0 c.if-is_empty.true) begun.0 begun.1) c.as_slice.result.now c.as_slice.ensures.value c.if-is_empty-2.ensures

pub returns-then-len-gt-LINE_LIMIT-clause-faults : goal.returns-then-len-gt-LINE_LIMIT-clause-faults
returns-then-len-gt-LINE_LIMIT-clause-faults g c =
    let left = (g.S.Source.view c.refill.new.source).left in
    record {
      quiet = tt;
      cause = (
        c.in_ok-refill.ensures.faults.quiet ∙ c.pieces.invariant.quiet,
        λ script told.
            let b = still_begins script c.pieces.line.items _ (pending c.refill.new.self left) (c.pieces.invariant.begins script told) c.in_ok-refill.ensures.same in
            too_long c.in_ok-found.found script c.refill.new.self c.move_line.new.self c.pieces.line.items c.move_line.new.line.items left b c.in_ok-found.ensures (omega arith),
      );
    }

pub returns-then-found-clause-line : goal.returns-then-found-clause-line
returns-then-found-clause-line g c script told =
    let left = (g.S.Source.view c.refill.new.source).left in
    let b = still_begins script c.pieces.line.items _ (pending c.refill.new.self left) (c.pieces.invariant.begins script told) c.in_ok-refill.ensures.same in
    takes_line script c.refill.new.self c.move_line.new.self c.pieces.line.items c.move_line.new.line.items left b (rw c.if-found.true at c.in_ok-found.ensures)

pub returns-in_err-found-clause-ahead : goal.returns-in_err-found-clause-ahead
returns-in_err-found-clause-ahead g c =
    let e = err_from_is_err_and c.from_residual-in_err-found.result c.from_residual-in_err-found.ensures.1 in
    let most : length c.refill.new.self + length c.pieces.line.items ≤ line_limit + 1 = omega (arith, c.in_ok-refill.ensures.room, c.len.ensures, c.pieces.line.ok.0) in
    rw (e.1, e.2) (record { ok = tt; err = reads_ahead c.pieces.line.items c.refill.new.self _ _ _ c.pieces.invariant.begins c.in_ok-refill.ensures.same most })

pub returns-then-len-gt-LINE_LIMIT-clause-ahead : goal.returns-then-len-gt-LINE_LIMIT-clause-ahead
returns-then-len-gt-LINE_LIMIT-clause-ahead g c =
    let most : length c.refill.new.self + length c.pieces.line.items ≤ line_limit + 1 = omega (arith, c.in_ok-refill.ensures.room, c.len.ensures, c.pieces.line.ok.0) in
    record { ok = tt; err = reads_ahead c.pieces.line.items c.refill.new.self _ _ _ c.pieces.invariant.begins c.in_ok-refill.ensures.same most }

pub returns-then-found-clause-ahead : goal.returns-then-found-clause-ahead
returns-then-found-clause-ahead g c =
    let most : length c.refill.new.self + length c.pieces.line.items ≤ line_limit + 1 = omega (arith, c.in_ok-refill.ensures.room, c.len.ensures, c.pieces.line.ok.0) in
    record { ok = reads_ahead c.pieces.line.items c.refill.new.self _ _ _ c.pieces.invariant.begins c.in_ok-refill.ensures.same most; err = tt }
