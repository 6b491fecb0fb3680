use Rattle.std.proofs.Common.{[], map, ap, sym, ◌∙◌}
use Rattle.std.proofs.lemmas.List.{map_push}
use Rattle.tv_registers.specs.Registers.{entry_of, put, put_each}
use Rattle.tv_registers.proofs.PutBack.{put_last}
use Rattle.tv_registers.proofs.segment_register.SegmentRegister.new.Goals as goal

pub loop-meta-preserved : goal.loop-meta-preserved
loop-meta-preserved c =
    let made = entry_of c.args.cursor.now in
    let meta = c.in-Some.meta in
    c.in_ok-put_new.ensures ∙ ap (λ e. put e c.loop-meta.segments.entries) c.new-entry.ensures ∙ ap (put (made meta)) c.loop-meta.invariant
    ∙ sym (ap (λ l. put_each l []) (map_push made c.loop-meta.yielded meta) ∙ put_last (map made c.loop-meta.yielded) (made meta) [])
