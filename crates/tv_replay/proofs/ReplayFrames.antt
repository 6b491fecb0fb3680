-- What one call after the other keeps.
use Rattle.std.proofs.Common.{◌≡◌, Bool, false, inl, inr, refl, sym, ap, subst, ◌∙◌}
use Rattle.tv_formats.specs.Names.{meta_name}
use Rattle.tv_events.specs.declared.event.Event.{Event}
use Rattle.tv_events.specs.declared.event.Event.TheVariants as events
use Rattle.tv_device.specs.Locks.{TakesLock}
use Rattle.tv_device.specs.View.{GoesOn, View, Told}
use Rattle.tv_device.specs.ViewLaws.{goes_on_itself, goes_then}
use Rattle.tv_device.specs.Watch.{WatchState, MayNote, noted}
use Rattle.tv_store.specs.Applying.{KeepsLocks, MayNoteAt}
use Rattle.tv_store.specs.ReloadLocks.{FreesLocks}
use Rattle.tv_store.specs.Stays.{KeepsDotted, MayNotify}
use Rattle.tv_store.specs.StoreCauses.{writer_lock_name}
use Rattle.tv_replay.specs.AppliedEvents.{RunFrame}
use Rattle.tv_replay.specs.Replays.{ReplayFrame}
use Rattle.tv_replay.proofs.KeptLocks.{all_freed, locks_then}

noted_twice : (s : WatchState) → noted meta_name (noted meta_name s) ≡ noted meta_name s
noted_twice s = refl

pub notes_then : {first next last : WatchState} → MayNote meta_name first next → MayNote meta_name next last → MayNote meta_name first last
notes_then (inl a) (inl b) = inl (b ∙ a)
notes_then (inl a) (inr b) = inr (b ∙ ap (noted meta_name) a)
notes_then (inr a) (inl b) = inr (b ∙ a)
notes_then {first} (inr a) (inr b) = inr (b ∙ ap (noted meta_name) a ∙ noted_twice first)

-- a notice that stood after the opening stands at the end
pub noted_since : (first : WatchState) {opened run last : WatchState} → opened ≡ noted meta_name first → MayNote meta_name opened run → last ≡ run → last ≡ noted meta_name first
noted_since first made (inl same) end = end ∙ same ∙ made
noted_since first made (inr again) end = end ∙ again ∙ ap (noted meta_name) made ∙ noted_twice first

-- each event may leave a notice, or none does
pub may_note : (event : Event) (old new : WatchState) → MayNoteAt event old new → MayNote meta_name old new
may_note (events.Commit payload ids) old new h = h
may_note other old new h = inl h

-- no file with a dot in front was changed but the list, where the content is told
abbrev KeepsDottedAt : {W : Type 0} → Told → View W → View W → Type 0
KeepsDottedAt told old new = told.content → KeepsDotted old.reads new.reads

-- one event more
pub frame_then : {W : Type 0} {told : Told} {was now : Bool} {first next last : View W} → RunFrame told was first next → KeepsDottedAt told next last → GoesOn told next last
    → (told.locks → KeepsLocks was now next.locks last.locks) → MayNote meta_name next.watched last.watched → RunFrame told now first last
frame_then {told = told} {was = was} {now = now} {first = first} {next = next} {last = last} before dotted goes_on locks watched = record {
  dotted = λ tells n dot other. dotted tells n dot other ∙ before.dotted tells n dot other;
  goes_on = goes_then before.goes_on goes_on;
  locks = λ tells. locks_then was now first.locks next.locks last.locks (before.locks tells) (locks tells);
  watched = notes_then before.watched watched;
}

pub no_time : {W : Type 0} (told : Told) (busy : Bool) (view : View W) → busy ≡ false → RunFrame told busy view view
no_time told busy view idle = subst (λ (b : Bool). RunFrame told b view view) (sym idle) (record {
  dotted = λ tells n dot other. refl;
  goes_on = goes_on_itself told view;
  locks = λ tells n. refl;
  watched = inl refl;
})

-- an opening, a run, and its locks freed again
pub run_frame : {W : Type 0} {told : Told} {busy : Bool} {before mid new now : View W} → MayNotify told before mid → (told.locks → TakesLock before.locks mid.locks writer_lock_name)
    → RunFrame told busy mid new → FreesLocks told writer_lock_name busy new now → ReplayFrame told before now
run_frame {told = told} {busy = busy} {before = before} {mid = mid} {new = new} {now = now} opened took ran freed = record {
  dotted = λ tells n dot other. freed.frame.content tells n ∙ ran.dotted tells n dot other ∙ opened.dotted tells n dot other;
  goes_on = goes_then opened.deletes_none.goes_on (goes_then ran.goes_on freed.frame.tells_none.deletes_none.goes_on);
  locks = λ tells. all_freed told before.locks mid.locks busy new now tells (took tells) (ran.locks tells) freed;
  watched = subst (λ (w : WatchState). MayNote meta_name before.watched w) (sym freed.frame.watched) (notes_then opened.watched ran.watched);
}
