-- A bounded tree has no float, and does not nest deep.
use Rattle.std.proofs.Common.{◌≡◌, ℕ, zero, suc, ◌≤◌, true, false, refl, arith}
use Rattle.std.proofs.lemmas.Bool.{and_parts}
use Rattle.json.specs.Tree as json
use Rattle.serde_json.specs.Data.{Data, Num, unsigned, negative, float, null, boolean, number, string, array, object, Items, no_items, item, Members, no_members, member, depth, items_depth, members_depth}
use Rattle.serde_json.specs.Find.{is_float}
use Rattle.serde_json.specs.Written.{has_float, items_have_float, members_have_float, outline, items_outline, members_outline}
use Rattle.tv_formats.specs.Schemas.{is_bounded, are_bounded, have_bounded, is_integer}

-- what is known of a tree that nests at most so deep
pub record IsShallow (n : ℕ) (d : Data) : Type 0 where
  pub no_float : has_float d ≡ false
  pub depth : depth d ≤ n
  pub outline_depth : json.depth (outline d) ≤ n

pub record AreShallow (n : ℕ) (ds : Items) : Type 0 where
  pub no_float : items_have_float ds ≡ false
  pub depth : items_depth ds ≤ n
  pub outline_depth : json.items_depth (items_outline ds) ≤ n

pub record HaveShallow (n : ℕ) (ms : Members) : Type 0 where
  pub no_float : members_have_float ms ≡ false
  pub depth : members_depth ms ≤ n
  pub outline_depth : json.members_depth (members_outline ms) ≤ n

integer : (x : Num) → is_integer x ≡ true → is_float x ≡ false
integer (unsigned n) h = refl
integer (negative z) h = refl
integer (float x) h = cc

mutual
  pub shallow : (n : ℕ) (d : Data) → is_bounded n d ≡ true → IsShallow n d
  shallow n null h = record { no_float = refl; depth = omega arith; outline_depth = omega arith }
  shallow n (boolean b) h = record { no_float = refl; depth = omega arith; outline_depth = omega arith }
  shallow n (number x) h = record { no_float = integer x h; depth = omega arith; outline_depth = omega arith }
  shallow n (string s) h = record { no_float = refl; depth = omega arith; outline_depth = omega arith }
  shallow zero (array ds) h = cc
  shallow (suc n) (array ds) h =
      let s = items_shallow n ds h in record { no_float = s.no_float; depth = omega (arith, s.depth); outline_depth = omega (arith, s.outline_depth) }
  shallow zero (object ms) h = cc
  shallow (suc n) (object ms) h =
      let s = members_shallow n ms h in record { no_float = s.no_float; depth = omega (arith, s.depth); outline_depth = omega (arith, s.outline_depth) }

  items_shallow : (n : ℕ) (ds : Items) → are_bounded n ds ≡ true → AreShallow n ds
  items_shallow n no_items h = record { no_float = refl; depth = omega arith; outline_depth = omega arith }
  items_shallow n (item d ds) h =
      let p = and_parts (is_bounded n d) (are_bounded n ds) h in
      let a = shallow n d p.0 in
      let b = items_shallow n ds p.1 in
      record { no_float = rw a.no_float b.no_float; depth = omega (arith, a.depth, b.depth); outline_depth = omega (arith, a.outline_depth, b.outline_depth) }

  members_shallow : (n : ℕ) (ms : Members) → have_bounded n ms ≡ true → HaveShallow n ms
  members_shallow n no_members h = record { no_float = refl; depth = omega arith; outline_depth = omega arith }
  members_shallow n (member k d ms) h =
      let p = and_parts (is_bounded n d) (have_bounded n ms) h in
      let a = shallow n d p.0 in
      let b = members_shallow n ms p.1 in
      record { no_float = rw a.no_float b.no_float; depth = omega (arith, a.depth, b.depth); outline_depth = omega (arith, a.outline_depth, b.outline_depth) }
