-- How the lock of the writer is taken, or isn't.
use Rattle.std.proofs.Common.{◌≡◌, ◌⊎◌, inl, inr, ℕ, true, List, None, Err, refl, sym, subst, ◌∙◌, arith}
use Rattle.tv_base.specs.Errors.{of_lock}
use Rattle.tv_base.specs.Causes.{IsDevice}
use Rattle.tv_base.specs.declared.error.TantivyError.{TantivyError}
use Rattle.tv_base.specs.declared.error.TantivyError.TheVariants as errors
use Rattle.tv_base.specs.declared.io.IoFault.{IoFault}
use Rattle.tv_base.specs.declared.open_errors.LockError.{LockError}
use Rattle.tv_base.specs.declared.open_errors.LockError.TheVariants as lock
use Rattle.tv_device.specs.Images.{KeepsDisk}
use Rattle.tv_device.specs.Locks.{LockCause, SameLocks}
use Rattle.tv_device.specs.View.{OnlyLocks, OnlyReads}
use Rattle.tv_device.specs.ViewLaws.{reads_then}
use Rattle.tv_device.specs.declared.directory.Directory.{Ghosts}
use Rattle.tv_index.specs.CrashLaws.{looks_kept, looks_then}
use Rattle.tv_index.specs.Crashes.{OnlyLooks}
use Rattle.tv_index.specs.Openable.{FindsOpenable, IsOpenable, NotOpenable}
use Rattle.tv_index.specs.Opening.{OpenCause}
use Rattle.tv_formats.specs.Files.{Reads, Rose, RoseBy, Same}
use Rattle.tv_formats.specs.Sound.{FindsCommit}
use Rattle.tv_machine.specs.Index.{FoundIndex}
use Rattle.tv_formats.specs.Names.{meta_name}
use Rattle.tv_formats.specs.Schemas.{IsSchema}
use Rattle.tv_store.specs.Opening.{OpensOrRefuses}
use Rattle.tv_store.specs.OpeningCauses.{IsLockedOut, OpeningCause, opening_facts}
use Rattle.tv_store.specs.StoreCauses.{QuietBehind, RefusedBehind, writer_lock_name}
use Rattle.tv_store.specs.UnderLock.{LockedOut, LockedOutCause, RefusesLock}
use Rattle.tv_store.proofs.Unfound.{found_cause, only_read, open_cause_at}
use Rattle.tv_store.proofs.Listings.{listing_kept}

-- ---- counts, where the call of the lock may be counted as refused

-- a count that rose twice
rose_twice : (before mid now : ℕ) → Rose before mid → Rose mid now → RoseBy 1 before now
rose_twice before mid now (inl first) (inl second) = inl (omega (arith, first, second))
rose_twice before mid now (inl first) (inr end) = inr (omega (arith, end))
rose_twice before mid now (inr end) (inl second) = inr (omega (arith, end, second))
rose_twice before mid now (inr end) (inr last) = inr (omega (arith, last))

refused_behind : (held tells : Type 0) (before mid now : ℕ) → held → (tells × (mid ≡ before)) ⊎ Rose before mid → Rose mid now → RefusedBehind held before now
refused_behind held tells before mid now h (inl still) rose = inl (subst (λ (n : ℕ). Rose n now) still.1 rose)
refused_behind held tells before mid now h (inr first) rose = inr (h, rose_twice before mid now first rose)

quiet_behind : (held tells : Type 0) (before mid now : ℕ) → held → (tells × (mid ≡ before)) ⊎ Rose before mid → now ≡ mid → QuietBehind held before now
quiet_behind held tells before mid now h (inl still) quiet = inl (quiet ∙ still.1)
quiet_behind held tells before mid now h (inr first) quiet = inr (h, subst (λ (n : ℕ). Rose before n) (sym quiet) first)

-- ---- an index that can be opened is found

found_openable : (schema text : List ℕ) (reads : Reads) → IsSchema schema text → IsOpenable reads text → FoundIndex schema reads
found_openable schema text reads is o = record {
  form = o.form;
  commit = o.commit;
  listed = o.finds.listed;
  spelled = subst (IsSchema schema) (sym o.schema_is) is;
  listing = o.finds.listing;
  found = o.finds.found;
}

found_before : (schema : List ℕ) (now before : Reads) → Same before now → FoundIndex schema now → FoundIndex schema before
found_before schema now before same f = record {
  form = f.form;
  commit = f.commit;
  listed = f.listed;
  spelled = f.spelled;
  listing = listing_kept now before f.listed (λ n is. sym (same n)) f.listing;
  found = subst (λ read. FindsCommit f.form.schema read f.form.settings f.commit) (same meta_name) f.found;
}

-- ---- behind the sync

module _ {O W C : Type 0} (g : Ghosts O W C) (outside synced : O) (quiet : (g.view synced).faults ≡ (g.view outside).faults) (read : OnlyReads g.told (g.view outside) (g.view synced)) (look : g.tells_images → OnlyLooks g outside synced) where
  -- it isn't given
  module _ (mid : O) (err : g.told.locks → SameLocks (g.view synced).locks (g.view mid).locks) (only : OnlyLocks g.told (g.view synced) (g.view mid)) (keeps : g.tells_images → KeepsDisk (g.disk synced) (g.disk mid)) (schema text : List ℕ) (spelled : IsSchema schema text) where
    read_only : OnlyReads g.told (g.view outside) (g.view mid)
    read_only = reads_then read (record {
      kept = record { frame = record { tells_none = only.tells_none; locks = err }; watched = only.watched };
      content = only.content;
    })

    looked : g.tells_images → OnlyLooks g outside mid
    looked t = looks_then g (look t) (looks_kept g (keeps t))

    -- since it is held
    module _ (busy : g.told.locks → (g.view synced).locks writer_lock_name ≡ true) (counts : (g.told.locks × ((g.view mid).faults ≡ (g.view synced).faults)) ⊎ Rose (g.view synced).faults (g.view mid).faults)
        (now : O) (error : TantivyError) (out : LockedOut g mid text now error) where
      held : g.told.locks → (g.view outside).locks writer_lock_name ≡ true
      held t = sym (read.kept.frame.locks t writer_lock_name) ∙ busy t

      locked_out : IsLockedOut g outside now
      locked_out = (held, reads_then read_only out.frame)

      abbrev Counts : ℕ → Type 0
      Counts start = (g.told.locks × ((g.view mid).faults ≡ start)) ⊎ Rose start (g.view mid).faults

      counted : Counts (g.view outside).faults
      counted = subst Counts quiet counts

      cause : (e : TantivyError) → LockedOutCause g.told.content text (g.view mid).reads (Rose (g.view mid).faults (g.view now).faults) ((g.view now).faults ≡ (g.view mid).faults) e
          → OpeningCause (opening_facts g outside now) schema (g.view outside).reads e
      cause (errors.LockFailure lock.LockBusy named) k = (
        (text, spelled),
        (λ t. found_before schema (g.view mid).reads (g.view outside).reads (read_only.content t) (found_openable schema text (g.view mid).reads spelled (k.1 t))),
        record { told = held; untold = told_or_rose counted },
        k.2,
      ) where
        told_or_rose : Counts (g.view outside).faults → g.told.locks ⊎ Rose (g.view outside).faults (g.view now).faults
        told_or_rose (inl still) = inl still.0
        told_or_rose (inr rose) = inr (subst (λ (n : ℕ). Rose (g.view outside).faults n) (sym k.0) rose)
      cause (errors.LockFailure (lock.IoError fault) named) k = absurd k
      cause (errors.LockFailure lock.Memory named) k = absurd k
      cause other k =
          found_cause (opening_facts g outside now) schema text (g.view outside).reads other spelled
          (open_cause_at g.told.content text (g.view mid).reads (g.view outside).reads _ _ _ _ other read_only.content
          (refused_behind (IsLockedOut g outside now) g.told.locks (g.view outside).faults (g.view mid).faults (g.view now).faults locked_out counted)
          (quiet_behind (IsLockedOut g outside now) g.told.locks (g.view outside).faults (g.view mid).faults (g.view now).faults locked_out counted) k)

      not_free : OpensOrRefuses g outside schema (Err (record { error = error; directory = now }))
      not_free = only_read g outside schema now error (reads_then read_only out.frame) (λ t. looks_then g (looked t) (out.looks t)) (cause error out.cause)

    -- for whatever reason
    pub not_given : (why : LockError) (now : O) (error : TantivyError) → (g.told.locks → LockCause ((g.view synced).locks writer_lock_name ≡ true) (Unit {0}) (Unit {0}) why)
        → LockCause ((g.told.locks × ((g.view mid).faults ≡ (g.view synced).faults)) ⊎ Rose (g.view synced).faults (g.view mid).faults) (Rose (g.view synced).faults (g.view mid).faults) ((g.view mid).faults ≡ (g.view synced).faults) why
        → RefusesLock g mid text why now error → OpensOrRefuses g outside schema (Err (record { error = error; directory = now }))
    not_given lock.LockBusy now error busy counts r = not_free busy counts now error r
    not_given (lock.IoError fault) now error busy h r =
        subst (λ (d : O). OpensOrRefuses g outside schema (Err (record { error = error; directory = d }))) (sym r.0)
        (only_read g outside schema mid error read_only looked
        (subst (OpeningCause (opening_facts g outside mid) schema (g.view outside).reads) (sym r.1) ((text, spelled), h.0, subst (λ (n : ℕ). Rose n (g.view mid).faults) quiet h.1, refl)))
    not_given lock.Memory now error busy h r =
        subst (λ (d : O). OpensOrRefuses g outside schema (Err (record { error = error; directory = d }))) (sym r.0)
        (only_read g outside schema mid error read_only looked (subst (OpeningCause (opening_facts g outside mid) schema (g.view outside).reads) (sym r.1) (inl (h ∙ quiet))))

-- the sync was refused
pub not_synced : {O W C : Type 0} (g : Ghosts O W C) (outside now : O) (schema text : List ℕ) (fault : IoFault) (error : TantivyError) → IsSchema schema text → error ≡ errors.IoError fault → IsDevice fault × Rose (g.view outside).faults (g.view now).faults
    → OnlyReads g.told (g.view outside) (g.view now) → (g.tells_images → OnlyLooks g outside now) → OpensOrRefuses g outside schema (Err (record { error = error; directory = now }))
not_synced g outside now schema text fault error spelled is h frame looks =
    only_read g outside schema now error frame looks (subst (OpeningCause (opening_facts g outside now) schema (g.view outside).reads) (sym is) (text, spelled, (h.0, inl h.1)))

-- it isn't that it is held
pub refuses_lock : {O W C : Type 0} (g : Ghosts O W C) (outside : O) (text : List ℕ) (why : LockError) (error : TantivyError) → (why ≡ lock.LockBusy → ⊥) → error ≡ of_lock why → RefusesLock g outside text why outside error
refuses_lock g outside text lock.LockBusy error other is = absurd (other refl)
refuses_lock g outside text (lock.IoError fault) error other is = (refl, is)
refuses_lock g outside text lock.Memory error other is = (refl, is)

-- what was refused, told behind the lock, and the lock itself
module _ {O W C : Type 0} (g : Ghosts O W C) (outside : O) (text : List ℕ) (now : O) where
  pub out_openable : (error : TantivyError) → error ≡ errors.LockFailure lock.LockBusy None → FindsOpenable g outside text now → (g.tells_images → OnlyLooks g outside now) → LockedOut g outside text now error
  out_openable error is found looks = record {
    cause = subst (LockedOutCause g.told.content text (g.view outside).reads (Rose (g.view outside).faults (g.view now).faults) ((g.view now).faults ≡ (g.view outside).faults)) (sym is) (found.quiet, found.openable, refl);
    frame = found.frame;
    looks = looks;
  }

  pub out_refused : (error : TantivyError) → NotOpenable g outside text now error → (g.tells_images → OnlyLooks g outside now) → LockedOut g outside text now error
  out_refused error refused looks = record { cause = cause error refused.cause; frame = refused.frame; looks = looks } where
    cause : (e : TantivyError) → OpenCause g.told.content text (g.view outside).reads (Rose (g.view outside).faults (g.view now).faults) ((g.view now).faults ≡ (g.view outside).faults) e
        → LockedOutCause g.told.content text (g.view outside).reads (Rose (g.view outside).faults (g.view now).faults) ((g.view now).faults ≡ (g.view outside).faults) e
    cause (errors.LockFailure lock.LockBusy named) k = absurd k
    cause (errors.LockFailure (lock.IoError fault) named) k = absurd k
    cause (errors.LockFailure lock.Memory named) k = absurd k
    cause other k = k
