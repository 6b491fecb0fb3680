-- What is known of an option that is something.
use Rattle.std.proofs.Common.{◌≡◌, Bool, true, false, cond, Option, Some, None, option_map, option_and_then, refl, ap, ◌∙◌}

pub map_some : {A B : Type 0} (f : A → B) (o : Option A) (y : B) → option_map f o ≡ Some y → (x : A) × (o ≡ Some x) × (f x ≡ y)
map_some f None y h = cc
map_some f (Some x) y h = (x, refl, cc)

pub and_then_is : {A B : Type 0} (f : A → Option B) (o : Option A) (x : A) (y : Option B) → o ≡ Some x → f x ≡ y → option_and_then f o ≡ y
and_then_is f o x y e h = ap (option_and_then f) e ∙ h

pub none_some : {A P : Type 0} (x : A) → None ≡ Some x → P
none_some x e = cc

pub unless_some : {A : Type 0} (b : Bool) (o : Option A) (y : A) → cond b None o ≡ Some y → (b ≡ false) × (o ≡ Some y)
unless_some true o y h = cc
unless_some false o y h = (refl, h)
