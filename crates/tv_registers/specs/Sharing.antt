-- Shares of segments, given back and taken.
use Rattle.std.specs.Prelude.{ℕ, ◌≡◌, Bool, false, if◌then◌else◌, List, [], ◌∷◌, Option, Some, None, find, Result, IfErr, OnErr, OnOk}
use Rattle.tv_base.specs.declared.error.TantivyError.{TantivyError}
use Rattle.tv_base.specs.declared.error.TantivyError.TheVariants as errors
use Rattle.tv_base.specs.declared.inventory.Entry.{Entry}
use Rattle.tv_base.specs.Entries.{is_full, is_numbered, one_more, released}
use Rattle.tv_base.specs.Places.{change_at}
use Rattle.tv_metas.specs.Tracked.{KeptMetas}

-- the inventory after shares of these numbers were given back, one after the other
abbrev pub releases : List ℕ → KeptMetas → KeptMetas
releases [] kept = kept
releases (number ∷ numbers) kept = releases numbers (released number kept)

-- whether a segment was found of which as many shares are out as can be counted
abbrev pub is_spent : {T : Type 0} → Option (Entry T) → Bool
is_spent None = false
is_spent (Some e) = is_full e

-- the inventory after one more share of each of these numbers was taken, one after the other; nothing where,
-- at its turn, one has as many as can be counted
abbrev pub shared : List ℕ → KeptMetas → Option KeptMetas
shared [] kept = Some kept
shared (number ∷ numbers) kept =
    if is_spent (find (is_numbered number) kept) then None
    else shared numbers (change_at (is_numbered number) one_more kept)

-- the inventory after shares of these numbers were given back, the last one first
abbrev pub taken_back : List ℕ → KeptMetas → KeptMetas
taken_back [] kept = kept
taken_back (number ∷ numbers) kept = released number (taken_back numbers kept)

-- Shares of these numbers, given back the last one first, leave what there was.
abbrev pub Undoes : List ℕ → (old new : KeptMetas) → Type 0
Undoes numbers old new = taken_back numbers new ≡ old

-- Why shares of these numbers weren't taken: one has as many as can be counted, or memory was wanted.
abbrev pub ShareCause : List ℕ → KeptMetas → TantivyError → Type 0
ShareCause numbers kept errors.Exhausted = shared numbers kept ≡ None
ShareCause numbers kept errors.Memory = Unit {0}
ShareCause numbers kept other = ⊥

-- One more share of each of these numbers is out, and given back, the last one first, they leave what there
-- was. At an error none is out, and that comes where one has as many as can be counted, or memory was wanted.
pub record SharesEach {A : Type 0} (numbers : List ℕ) (old new : KeptMetas)
    (result : Result A TantivyError) : Type 0 where
  pub ok : OnOk result (shared numbers old ≡ Some new)
  pub undone : OnOk result (Undoes numbers old new)
  pub err : OnErr result (new ≡ old)
  pub cause : IfErr result (ShareCause numbers old)
