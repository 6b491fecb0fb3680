use Rattle.std.proofs.Common.{true≢false, sym}
use Rattle.tv_metas.proofs.json_text.tree_of.Goals as goal

pub returns-in-Ok : goal.returns-in-Ok
returns-in-Ok c = record { ok = c.in-Ok.ensures.ok; err = tt }

pub returns-then-is_memory : goal.returns-then-is_memory
returns-then-is_memory c = record { ok = tt; err = tt }

pub returns-else-is_memory : goal.returns-else-is_memory
returns-else-is_memory c = record { ok = tt; err = c.in-Err.ensures.err (λ is. true≢false (sym (c.if-is_memory.ensures.1 is))) }
