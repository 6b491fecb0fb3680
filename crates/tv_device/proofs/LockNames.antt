-- Locks whose names a map keeps.
use Rattle.std.proofs.Common.{◌≡◌, ℕ, false, List, Some, None, ap, is_some}
use Rattle.std.specs.BTreeMap.{is_at}
use Rattle.tv_formats.specs.Names.{byte_cmp, at}
use Rattle.tv_device.specs.Locks.{TakesLock, FreesLock, held_in}
use Rattle.tv_device.proofs.StoredFiles.{isnt_at}

pub takes : {X : Type 0} (old new : List (List ℕ × X)) (name : List ℕ) (x : X) → is_some (at old name) ≡ false → at new name ≡ Some x → ((n : List ℕ) → is_at (byte_cmp name) n ≡ false → at new n ≡ at old n) → TakesLock (held_in old) (held_in new) name
takes old new name x free held others = record {
  was_free = free;
  is_held = ap is_some held;
  others = λ n other. ap is_some (others n (isnt_at name n other));
}

pub frees : {X : Type 0} (old new : List (List ℕ × X)) (name : List ℕ) → at new name ≡ None → ((n : List ℕ) → is_at (byte_cmp name) n ≡ false → at new n ≡ at old n) → FreesLock (held_in old) (held_in new) name
frees old new name free others = record {
  is_free = ap is_some free;
  others = λ n other. ap is_some (others n (isnt_at name n other));
}
