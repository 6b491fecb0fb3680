use Rattle.std.proofs.Common.{◌≡◌, ◌+◌, ◌∙◌, arith}
use Rattle.tv_replay.proofs.GeneratedLines.{commit_after}
use Rattle.tv_replay.proofs.generating.commit_text.Goals as goal

pub returns : goal.returns
returns c =
    let last = c.as_str-2.ensures.value ∙ c.in_ok-last.ensures in
    let id = c.as_str-3.ensures.value ∙ c.in_ok-id.ensures in
    let is : c.args.i ≡ c.in-Some.before + 1 = omega (arith, c.in-Some.ensures.0, c.in-Some.ensures.1) in
    rw (commit_after c.args.i c.in-Some.before c.as_str-2.result.now c.as_str-3.result.now is last id) at c.next_commit_text.ensures
