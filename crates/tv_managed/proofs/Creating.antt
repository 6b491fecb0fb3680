-- What is made of a file, and why none is made, put together from the steps of the call.
use Rattle.std.proofs.Common.{◌≡◌, ◌≢◌, ◌⊎◌, ℕ, false, true≢false, List, [], sym, ap, subst, ◌∙◌, ⊎_elim, inl, inr, Option, None, Some, Ok, Err}
use Rattle.std.specs.Prelude.{IsSome, is_some}
use Rattle.std.proofs.lemmas.Bool.{both_ways}
use Rattle.tv_formats.specs.Collections.{held}
use Rattle.tv_formats.specs.Files.{Reads, Rose, KeepsOthers, Same}
use Rattle.tv_formats.specs.Names.{has, list_name}
use Rattle.tv_base.specs.Causes.{OpenWriteCause}
use Rattle.tv_base.specs.declared.open_errors.OpenWriteError.{OpenWriteError}
use Rattle.tv_base.specs.declared.open_errors.OpenWriteError.TheVariants as write
use Rattle.tv_device.specs.Calls.{Makes, MayMake, OpenFaults}
use Rattle.tv_device.specs.Images.{KeepsDisk}
use Rattle.tv_device.specs.View.{OnlyReads}
use Rattle.tv_device.specs.declared.directory.Directory.{Ghosts}
use Rattle.tv_managed.specs.Frames.{KeepsNames, MakeFaults, OnlyAsks}
use Rattle.tv_managed.specs.Managed.{CreateCause, CreateFaults, Creates}
use Rattle.tv_managed.specs.Names.{ManagedNames}
use Rattle.tv_managed.proofs.Making.{others_of_refused}

isnt_there : {A : Type 0} {o : Option A} → o ≡ None → IsSome o → ⊥
isnt_there none some = both_ways _ (ap is_some none) some

-- ---- a step that only asks

pub none_of : {A : Type 0} (o : Option A) → is_some o ≡ false → o ≡ None
none_of None h = cc
none_of (Some x) h = absurd (true≢false h)

pub asks_for : {P Q D W C : Type 0} (g : Ghosts D W C) {old new : D × ManagedNames} → OnlyAsks g old new P → Q → OnlyAsks g old new Q
asks_for g asks cause = record { frame = asks.frame; images = asks.images; faults = cause }

-- a call of the directory that only reads, begun with the struct taken apart
pub asks_below : {Q D W C : Type 0} (g : Ghosts D W C) {inside old new : D × ManagedNames} → inside ≡ old → KeepsNames (OnlyReads g.told) g.view inside new → (g.tells_images → KeepsDisk (g.disk inside.0) (g.disk new.0)) → Q → OnlyAsks g old new Q
asks_below g {new = new} same keeps images cause = record {
  frame = subst (λ v. KeepsNames (OnlyReads g.told) g.view v new) same keeps;
  images = λ tells. subst (λ v. KeepsDisk (g.disk v.0) (g.disk new.0)) same (images tells);
  faults = cause;
}

-- ---- why no file is made

-- a step that doesn't find that the name is taken
cause_made : (there held refused quiet more still : Type 0) (name : List ℕ) (e : OpenWriteError) → (refused → more) → (quiet → still) → OpenWriteCause name ⊥ refused quiet e → CreateCause name there held more still e
cause_made there held refused quiet more still name (write.FileAlreadyExists path) up same h = absurd h.1
cause_made there held refused quiet more still name (write.Leaving path) up same h = absurd h
cause_made there held refused quiet more still name (write.IoError fault path) up same h = (h.0, h.1, up h.2)
cause_made there held refused quiet more still name write.Memory up same h = same h

pub faults_made : {A B D W C : Type 0} (g : Ghosts D W C) (asked : D × ManagedNames) {old new : D × ManagedNames} {name : List ℕ} {e : OpenWriteError} → (g.view asked.0).faults ≡ (g.view old.0).faults → MakeFaults {A = A} (g.view asked.0) (g.view new.0) name (Err e) → CreateFaults {A = B} g old new name (Err e)
faults_made g asked {new = new} {name} {e} quiet faults = record {
  quiet = tt;
  free = tt;
  cause = cause_made _ _ _ _ _ _ name e (λ rose. subst (λ n. Rose n (g.view new.0).faults) quiet rose) (λ same. same ∙ quiet) faults.cause;
}

-- the directory's own call
cause_opened : (there found held refused quiet more still : Type 0) (name : List ℕ) (e : OpenWriteError) → (there → found) → (refused → more) → (quiet → still) → OpenWriteCause name there refused quiet e → CreateCause name found held more still e
cause_opened there found held refused quiet more still name (write.FileAlreadyExists path) at up same h = (h.0, at h.1)
cause_opened there found held refused quiet more still name (write.Leaving path) at up same h = absurd h
cause_opened there found held refused quiet more still name (write.IoError fault path) at up same h = (h.0, h.1, up h.2)
cause_opened there found held refused quiet more still name write.Memory at up same h = same h

-- ---- what is made

-- A file was asked for, which isn't there, and no unfinished collection has the name. Since then the list alone was changed.
pub record StaysAbsent {D W C : Type 0} (g : Ghosts D W C) (old mid : D × ManagedNames) (name : List ℕ) : Type 0 where
  pub absent : g.told.content → (g.view old.0).reads name ≡ None
  pub free : has (held old.1.collections) name ≡ false
  pub others : g.told.content → KeepsOthers (g.view old.0).reads (g.view mid.0).reads list_name

pub is_free : {A D W C : Type 0} (g : Ghosts D W C) {old asked mid : D × ManagedNames} {name : List ℕ} {x : A} → (g.told.content → (g.view old.0).reads name ≡ None) → OnlyAsks g old asked (CreateFaults g old asked name (Ok x)) → (g.told.content → KeepsOthers (g.view asked.0).reads (g.view mid.0).reads list_name)
    → StaysAbsent g old mid name
is_free g absent asks others = record { absent = absent; free = asks.faults.free; others = λ tells n ne. others tells n ne ∙ asks.frame.below.content tells n }

-- the name reads what it read
cause_same : (there held refused quiet made same : Type 0) (name : List ℕ) (e : OpenWriteError) → CreateCause name there held refused quiet e → same → CreateCause name (Unit {0}) (Unit {0}) (made ⊎ same) same e
cause_same there held refused quiet made same name (write.FileAlreadyExists path) h s = (h.0, tt)
cause_same there held refused quiet made same name (write.Leaving path) h s = (h.0, tt)
cause_same there held refused quiet made same name (write.IoError fault path) h s = (h.0, h.1, inr s)
cause_same there held refused quiet made same name write.Memory h s = s

-- it was only asked for
pub creates_asked : {A D W C : Type 0} (g : Ghosts D W C) {old new : D × ManagedNames} {name : List ℕ} {e : OpenWriteError} → KeepsNames (OnlyReads g.told) g.view old new → CreateFaults {A = A} g old new name (Err e) → Creates {A = A} g old new name (Err e)
creates_asked g {name = name} {e} keeps faults = record {
  ok = λ tells. tt;
  there = λ tells some. (keeps.below.content tells, keeps.names);
  held = λ h. keeps;
  err = λ tells. cause_same _ _ _ _ _ _ name e faults.cause (keeps.below.content tells name);
  others = λ tells n ne other. keeps.below.content tells n;
}

-- it was listed, or was to be
pub creates_listed : {A D W C : Type 0} (g : Ghosts D W C) {old new : D × ManagedNames} {name : List ℕ} {e : OpenWriteError} → name ≢ list_name → StaysAbsent g old new name → CreateFaults {A = A} g old new name (Err e) → Creates {A = A} g old new name (Err e)
creates_listed g {name = name} {e} other free faults = record {
  ok = λ tells. tt;
  there = λ tells some. absurd (isnt_there (free.absent tells) some);
  held = λ h. absurd (true≢false (sym h ∙ free.free));
  err = λ tells. cause_same _ _ _ _ _ _ name e faults.cause (free.others tells name other);
  others = λ tells n ne isnt. free.others tells n isnt;
}

-- the directory didn't make it, or may have
cause_refused : (there held refused quiet : Type 0) {was : Option (List ℕ)} (name : List ℕ) (old new : Reads) (e : OpenWriteError) → old name ≡ was → CreateCause name there held refused quiet e → OpenWriteCause name (Same old new) (MayMake old new name) (Same old new) e
    → CreateCause name (Unit {0}) (Unit {0}) ((new name ≡ Some []) ⊎ (new name ≡ was)) (new name ≡ was) e
cause_refused there held refused quiet name old new (write.FileAlreadyExists path) was h made = (h.0, tt)
cause_refused there held refused quiet name old new (write.Leaving path) was h made = (h.0, tt)
cause_refused there held refused quiet name old new (write.IoError fault path) was h made = (h.0, h.1, ⊎_elim (λ same. inr (same name ∙ was)) (λ it. inl it.1.changed) made.2)
cause_refused there held refused quiet name old new write.Memory was h made = made name ∙ was

pub creates_refused : {A B D W C : Type 0} (g : Ghosts D W C) {old mid inside new : D × ManagedNames} {name : List ℕ} {e : OpenWriteError} → name ≢ list_name → StaysAbsent g old mid name → inside ≡ mid → Makes {A = A} g.told (g.view inside.0) (g.view new.0) name (Err e) → CreateFaults {A = B} g old new name (Err e)
    → Creates {A = B} g old new name (Err e)
creates_refused {A} g {mid = mid} {new = new} {name} {e} other free same made faults =
    let makes = subst (λ v. Makes {A = A} g.told (g.view v.0) (g.view new.0) name (Err e)) same made in
    record {
      ok = λ tells. tt;
      there = λ tells some. absurd (isnt_there (free.absent tells) some);
      held = λ h. absurd (true≢false (sym h ∙ free.free));
      err = λ tells. cause_refused _ _ _ _ name (g.view mid.0).reads (g.view new.0).reads e (free.others tells name other) faults.cause (makes.err tells);
      others = λ tells n ne isnt. others_of_refused (g.view mid.0).reads (g.view new.0).reads name e (makes.err tells) n ne ∙ free.others tells n isnt;
    }

pub creates_made : {A B D W C : Type 0} (g : Ghosts D W C) {old mid inside new : D × ManagedNames} {name : List ℕ} {x : A} (y : B) → StaysAbsent g old mid name → inside ≡ mid → Makes g.told (g.view inside.0) (g.view new.0) name (Ok x) → Creates g old new name (Ok y)
creates_made g {new = new} {name} {x} y free same made =
    let makes = subst (λ v. Makes g.told (g.view v.0) (g.view new.0) name (Ok x)) same made in
    record {
      ok = λ tells. record { absent = free.absent tells; empty = (makes.ok tells).1.changed; others = λ n ne isnt. (makes.ok tells).1.others n ne ∙ free.others tells n isnt };
      there = λ tells some. absurd (isnt_there (free.absent tells) some);
      held = λ h. absurd (true≢false (sym h ∙ free.free));
      err = λ tells. tt;
      others = λ tells n ne isnt. (makes.ok tells).1.others n ne ∙ free.others tells n isnt;
    }

-- why the directory didn't make it
pub faults_opened : {A B D W C : Type 0} (g : Ghosts D W C) {old mid inside new : D × ManagedNames} {name : List ℕ} {e : OpenWriteError} → name ≢ list_name → StaysAbsent g old mid name → inside ≡ mid → (g.view mid.0).faults ≡ (g.view old.0).faults
    → OpenFaults {A = A} g.told (g.view inside.0) (g.view new.0) name (Err e) → CreateFaults {A = B} g old new name (Err e)
faults_opened {A} g {mid = mid} {new = new} {name} {e} other free same quiet faults =
    let opens = subst (λ v. OpenFaults {A = A} g.told (g.view v.0) (g.view new.0) name (Err e)) same faults in
    record {
      quiet = tt;
      free = tt;
      cause = cause_opened _ _ _ _ _ _ _ name e
          (λ found. (λ tells. subst IsSome (free.others tells name other) (found.0 tells), found.1 ∙ quiet))
          (λ rose. subst (λ n. Rose n (g.view new.0).faults) quiet rose) (λ still. still ∙ quiet) opens.cause;
    }
