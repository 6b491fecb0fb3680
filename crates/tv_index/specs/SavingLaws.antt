-- What calls keep, the last of which may have saved `meta.json`.
use Rattle.std.proofs.Common.{subst}
use Rattle.tv_device.specs.View.{View, Told, OnlyReads}
use Rattle.tv_device.specs.ViewLaws.{frame_then}
use Rattle.tv_device.specs.Watch.{WatchState, MayNote}
use Rattle.tv_formats.specs.Names.{meta_name}
use Rattle.tv_index.specs.Saving.{FrameNotes}

-- a notice came with the second call, if at all
pub notes_later : {W : Type 0} {told : Told} {first now next : View W} → OnlyReads told first now
    → FrameNotes told now next → FrameNotes told first next
notes_later {next = next} before after = record {
  frame = frame_then before.kept.frame after.frame;
  watched = subst (λ (w : WatchState). MayNote meta_name w next.watched) before.kept.watched after.watched;
}
