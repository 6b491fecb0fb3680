use Rattle.std.proofs.Common.{◌∙◌, string_bytes}
use Rattle.tv_replay.proofs.GeneratedLines.{segment_more}
use Rattle.tv_replay.proofs.generating.generate.Goals as goal

pub loop-i-preserved : goal.loop-i-preserved
loop-i-preserved c =
    segment_more (string_bytes c.loop-i.script) (string_bytes c.push_segment.new.script) (string_bytes c.push_str.new.self) c.as_str.result.now c.as_str-in-loop-i.result.now c.as_str-in-loop-i-2.result.now c.loop-i.i c.loop-i.invariant
    (c.as_str.ensures.value ∙ c.in_ok-id.ensures) (c.as_str-in-loop-i.ensures.value ∙ c.in_ok-byte.ensures) c.in_ok-push_segment.ensures (c.as_str-in-loop-i-2.ensures.value ∙ c.in_ok-commit_text.ensures) c.in_ok-push_str.ensures.bytes
