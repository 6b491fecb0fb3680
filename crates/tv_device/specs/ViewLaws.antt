-- What calls keep: a call that does nothing keeps all, and two calls one after the other keep what both keep.
use Rattle.std.proofs.Common.{refl, ◌∙◌, arith}
use Rattle.tv_device.specs.View.{View, Told, GoesOn, DeletesNone, TellsNone, Frame, Kept, OnlyReads}

-- a view goes on from itself
pub goes_on_itself : {W : Type 0} (told : Told) (view : View W) → GoesOn told view view
goes_on_itself told view =
    record { writers = λ w o. o; ended = λ t w o l. l; clock = omega arith; refusals = omega arith }

-- nothing changed, so all is kept
pub kept_itself : {W : Type 0} (told : Told) (view : View W) → Kept told view view
kept_itself told view = record {
  frame = record {
    tells_none = record {
      deletes_none = record { goes_on = goes_on_itself told view; refusals = refl; alive = λ t w l. l };
      heard = refl;
      room = omega arith;
    };
    locks = λ t n. refl;
  };
  watched = refl;
}

-- what goes on twice goes on
pub goes_then : {W : Type 0} {told : Told} {first next last : View W} → GoesOn told first next
    → GoesOn told next last → GoesOn told first last
goes_then before after = record {
  writers = λ w o. after.writers w (before.writers w o);
  ended = λ t w o l. after.ended t w (before.writers w o) (before.ended t w o l);
  clock = omega (arith, before.clock, after.clock);
  refusals = omega (arith, before.refusals, after.refusals);
}

-- neither of two calls deleted, so nothing was deleted
pub deletes_then : {W : Type 0} {told : Told} {first next last : View W} → DeletesNone told first next
    → DeletesNone told next last → DeletesNone told first last
deletes_then before after = record {
  goes_on = goes_then before.goes_on after.goes_on;
  refusals = after.refusals ∙ before.refusals;
  alive = λ t w l. after.alive t w (before.alive t w l);
}

-- nor was anything told
pub tells_then : {W : Type 0} {told : Told} {first next last : View W} → TellsNone told first next
    → TellsNone told next last → TellsNone told first last
tells_then before after = record {
  deletes_none = deletes_then before.deletes_none after.deletes_none;
  heard = after.heard ∙ before.heard;
  room = omega (arith, before.room, after.room);
}

-- nor a lock taken or freed
pub frame_then : {W : Type 0} {told : Told} {first next last : View W} → Frame told first next
    → Frame told next last → Frame told first last
frame_then before after = record {
  tells_none = tells_then before.tells_none after.tells_none;
  locks = λ t n. after.locks t n ∙ before.locks t n;
}

-- nor somebody registered or called
pub kept_then : {W : Type 0} {told : Told} {first next last : View W} → Kept told first next
    → Kept told next last → Kept told first last
kept_then before after = record {
  frame = frame_then before.frame after.frame;
  watched = after.watched ∙ before.watched;
}

-- Two calls in a row that only read only read.
pub reads_then : {W : Type 0} {told : Told} {first next last : View W} → OnlyReads told first next
    → OnlyReads told next last → OnlyReads told first last
reads_then before after = record {
  kept = kept_then before.kept after.kept;
  content = λ t n. after.content t n ∙ before.content t n;
}
