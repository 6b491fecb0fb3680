-- Why a collection is given up, and what its steps leave alone, put together.
use Rattle.std.proofs.Common.{◌≡◌, true, true≢false, sym, ap, subst, ◌∙◌, arith, Result, Ok, Err}
use Rattle.std.specs.Prelude.{OnErr}
use Rattle.tv_formats.specs.Files.{Rose}
use Rattle.tv_base.specs.declared.error.TantivyError.{TantivyError}
use Rattle.tv_base.specs.declared.error.TantivyError.TheVariants as errors
use Rattle.tv_base.specs.declared.open_errors.LockError.TheVariants as lock
use Rattle.tv_device.specs.View.{Kept, MayDelete, OnlyReads, Told, View}
use Rattle.tv_device.specs.ViewLaws.{goes_then, reads_then}
use Rattle.tv_device.specs.declared.directory.Directory.{Ghosts}
use Rattle.tv_managed.specs.Collecting.{BeginFaults, CollectCause, CollectFaults, EndFaults, IsLast, LockedFaults, TakesNoLock, is_unbegun}
use Rattle.tv_managed.specs.Frames.{KeepsNames}
use Rattle.tv_managed.specs.Names.{ManagedNames}

-- ---- causes

cause_more : {busy spent refused quiet busy2 spent2 refused2 quiet2 : Type 0} (e : TantivyError) → (busy → busy2) → (spent → spent2) → (refused → refused2) → (quiet → quiet2) → CollectCause busy spent refused quiet e → CollectCause busy2 spent2 refused2 quiet2 e
cause_more (errors.IoError fault) b s r q h = (h.0, r h.1)
cause_more (errors.LockFailure lock.LockBusy text) b s r q h = (b h.0, h.1)
cause_more (errors.LockFailure (lock.IoError fault) text) b s r q h = ((h.0.0, r h.0.1), h.1)
cause_more (errors.LockFailure lock.Memory text) b s r q h = absurd h.0
cause_more errors.Exhausted b s r q h = s h
cause_more errors.Memory b s r q h = q h
cause_more other b s r q h = absurd h

-- ---- the beginning

-- an error that is handed on
pub collect_on : {A B D W C : Type 0} (g : Ghosts D W C) {old new : D × ManagedNames} {e : TantivyError} → CollectFaults {A = A} g old new (Err e) → CollectFaults {A = B} g old new (Err e)
collect_on g faults = record { quiet = tt; free = λ locks. tt; numbered = tt; busy = faults.busy; given = faults.given; cause = faults.cause; unchanged = faults.unchanged }

-- the step under the lock failed
pub collect_locked : {A B D W C : Type 0} (g : Ghosts D W C) {old new : D × ManagedNames} {e : TantivyError} → KeepsNames (OnlyReads g.told) g.view old new → LockedFaults {A = A} g old new (Err e) → CollectFaults {A = B} g old new (Err e)
collect_locked g {e = e} keeps faults = record {
  quiet = tt;
  free = λ locks. tt;
  numbered = tt;
  busy = λ locks. cause_more e (λ b. b) (λ s. absurd s) (λ r. r) (λ q. q) (faults.busy locks);
  given = λ locks behind. absurd (true≢false (sym behind ∙ faults.given));
  cause = cause_more e (λ b. b) (λ s. absurd s) (λ r. r) (λ q. q) faults.cause;
  unchanged = λ no. keeps;
}

-- and what came behind it
pub collect_begun : {A B D W C : Type 0} (g : Ghosts D W C) {old mid new : D × ManagedNames} {x : B} (result : Result A TantivyError) → KeepsNames (OnlyReads g.told) g.view old mid → LockedFaults g old mid (Ok x) → BeginFaults g mid new result → OnErr result (new.1 ≡ mid.1) → OnlyReads g.told (g.view mid.0) (g.view new.0)
    → CollectFaults g old new result
collect_begun g (Ok number) keeps locked faults err reads = record {
  quiet = faults.quiet ∙ locked.quiet;
  free = locked.free;
  numbered = λ last. faults.numbered (subst (λ v. IsLast v.collections.next) (sym keeps.names) last);
  busy = λ locks. tt;
  given = λ locks. tt;
  cause = tt;
  unchanged = tt;
}
collect_begun g {old} {new = new} (Err e) keeps locked faults err reads = record {
  quiet = tt;
  free = λ locks. tt;
  numbered = tt;
  busy = λ locks. cause_more e (λ b. absurd b) (λ s. tt) (λ r. tt) (λ q. tt) faults.cause;
  given = λ locks behind. locked.free locks;
  cause = cause_more e (λ b. absurd b)
      (λ spent. (subst (λ v. IsLast v.collections.next) keeps.names spent.0, ap (λ v. (g.view v.0).faults) spent.1 ∙ locked.quiet))
      (λ rose. subst (λ n. Rose n (g.view new.0).faults) locked.quiet rose) (λ same. same ∙ locked.quiet) faults.cause;
  unchanged = λ is. record { names = err ∙ keeps.names; below = reads_then keeps.below reads };
}

-- ---- the way on

-- memory was wanted behind the beginning
pub collect_wanted : {A D W C : Type 0} (g : Ghosts D W C) {old new : D × ManagedNames} → (g.view new.0).faults ≡ (g.view old.0).faults → CollectFaults {A = A} g old new (Err errors.Memory)
collect_wanted g quiet = record {
  quiet = tt;
  free = λ locks. tt;
  numbered = tt;
  busy = λ locks. tt;
  given = λ locks no. absurd (true≢false (sym no));
  cause = quiet;
  unchanged = λ no. absurd (true≢false (sym no));
}

-- the end takes no lock, and no number
begun_by_then : (refused quiet P : Type 0) (e : TantivyError) → TakesNoLock e → CollectCause ⊥ ⊥ refused quiet e → is_unbegun e ≡ true → P
begun_by_then refused quiet P (errors.LockFailure why text) unlocked cause is = absurd unlocked
begun_by_then refused quiet P errors.Exhausted unlocked cause is = absurd cause
begun_by_then refused quiet P (errors.IoError fault) unlocked cause is = absurd (true≢false (sym is))
begun_by_then refused quiet P errors.Memory unlocked cause is = absurd (true≢false (sym is))
begun_by_then refused quiet P other unlocked cause is = absurd cause

pub collect_unended : {A B E D W C : Type 0} (g : Ghosts D W C) {old began mid new : D × ManagedNames} {x : A} {e : TantivyError} → CollectFaults g old began (Ok x) → (g.view mid.0).faults ≡ (g.view began.0).faults → EndFaults {A = B} g mid new (Err e) → CollectFaults {A = E} g old new (Err e)
collect_unended g {old} {new = new} {e = e} begun quiet faults =
    let same = quiet ∙ begun.quiet in
    record {
      quiet = tt;
      free = λ locks. tt;
      numbered = tt;
      busy = λ locks. cause_more e (λ b. absurd b) (λ s. tt) (λ r. tt) (λ q. tt) faults.cause;
      given = λ locks behind. begun.free locks;
      cause = cause_more e (λ b. absurd b) (λ s. absurd s) (λ rose. subst (λ n. Rose n (g.view new.0).faults) same rose) (λ q. q ∙ same) faults.cause;
      unchanged = begun_by_then _ _ _ e faults.unlocked faults.cause;
    }

pub collect_ended : {A B E D W C : Type 0} (g : Ghosts D W C) {old began mid last inside new : D × ManagedNames} {x : A} {y : B} (z : E) → CollectFaults g old began (Ok x) → (g.view mid.0).faults ≡ (g.view began.0).faults → EndFaults g mid last (Ok y) → inside ≡ last → new.0 ≡ inside.0 → CollectFaults g old new (Ok z)
collect_ended g z begun quiet faults same within = record {
  quiet = ap (λ d. (g.view d).faults) within ∙ ap (λ v. (g.view v.0).faults) same ∙ faults.quiet ∙ quiet ∙ begun.quiet;
  free = begun.free;
  numbered = begun.numbered;
  busy = λ locks. tt;
  given = λ locks. tt;
  cause = tt;
  unchanged = tt;
}

-- ---- frames

-- what deletes nothing
pub deletes_kept : {W : Type 0} {told : Told} {old new : View W} → Kept told old new → MayDelete told old new
deletes_kept kept = record { goes_on = kept.frame.tells_none.deletes_none.goes_on; heard = kept.frame.tells_none.heard; room = kept.frame.tells_none.room; locks = kept.frame.locks; watched = kept.watched }

-- one call, and another
pub deletes_then : {W : Type 0} {told : Told} {old mid new : View W} → MayDelete told old mid → MayDelete told mid new → MayDelete told old new
deletes_then before after = record {
  goes_on = goes_then before.goes_on after.goes_on;
  heard = after.heard ∙ before.heard;
  room = omega (arith, before.room, after.room);
  locks = λ locks n. after.locks locks n ∙ before.locks locks n;
  watched = after.watched ∙ before.watched;
}
