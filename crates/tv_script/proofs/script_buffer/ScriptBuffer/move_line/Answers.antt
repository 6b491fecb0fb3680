use Rattle.tv_script.proofs.Feeds.{moves_line, moves_all}
use Rattle.tv_script.proofs.script_buffer.ScriptBuffer.move_line.Goals as goal

pub returns-else-len-held : goal.returns-else-len-held
returns-else-len-held c =
    moves_line c.args.self.now c.self.inside.buffer.items c.deref.result.now c.self.inside.start c.self.inside.end c.feed_at-len.result c.args.line.now.items c.extend_from_slice.new.self.items c.split_at.result.0.now
    c.self.view_is c.deref.ensures.value c.feed_at-len.ensures c.split_at.ensures.front c.in_ok-extend_from_slice.ensures.items c.if-len-held.false

pub returns-then-len-held : goal.returns-then-len-held
returns-then-len-held c =
    moves_all c.args.self.now c.self.inside.buffer.items c.deref.result.now c.self.inside.start c.self.inside.end c.feed_at-len.result c.args.line.now.items c.extend_from_slice.new.self.items c.split_at.result.0.now
    c.self.view_is c.deref.ensures.value c.feed_at-len.ensures c.split_at.ensures.front c.in_ok-extend_from_slice.ensures.items c.if-len-held.true
