-- How warmers are called.
use Rattle.std.specs.Prelude.{◌≡◌, ◌⊎◌, ◌++◌, ℕ, zero, suc, Bool, false, true, not, eqb, IsTrue, List, [], ◌∷◌, Option, Some, None, is_some, option_map, Result, Ok, Err, map, slice_index_or, slice_set}
use Rattle.std.specs.List.{AllZip, list_any}
use Rattle.tv_base.specs.declared.error.TantivyError.{TantivyError}
use Rattle.tv_base.specs.declared.error.TantivyError.TheVariants.{Memory}
use Rattle.tv_formats.specs.Files.{Rose}
use Rattle.tv_reader.specs.Searchers.{CommitShown, Generation}

-- a call of a warmer: it was to warm what a searcher shows, or it was told these generations as the live ones
pub data WarmerCall : Type 0 where
  Warmed : CommitShown → WarmerCall
  WasTold : List Generation → WarmerCall

-- the calls of a warmer that keeps them, and this one behind them
abbrev pub one_more_call : WarmerCall → Option (List WarmerCall) → Option (List WarmerCall)
one_more_call call calls = option_map (λ cs. cs ++ call ∷ []) calls

module _ {W E : Type 0} (errors : W → ℕ) (test : W → E → Bool) (called_for : W → Option (List WarmerCall)) where
  -- a warmer, where it is left, was called once, by this call, and answered no error
  abbrev pub Called : WarmerCall → Option W → Option W → Type 0
  Called call None b = b ≡ None
  Called call (Some a) None = ⊥
  Called call (Some a) (Some b) =
      (called_for b ≡ one_more_call call (called_for a)) × (errors b ≡ errors a) × ((e : E) → test b e ≡ test a e)

  -- a warmer was called once, by this call, and answered this error: the count of its errors rose, and the
  -- error is one of its own
  abbrev pub Stopped : WarmerCall → E → Option W → Option W → Type 0
  Stopped call e None b = ⊥
  Stopped call e (Some a) None = ⊥
  Stopped call e (Some a) (Some b) =
      (called_for b ≡ one_more_call call (called_for a)) × Rose (errors a) (errors b) × IsTrue (test b e)
      × ((f : E) → test b f ≡ test a f)

-- Calls in order, up to the first error: what each was before and after, and what came of it. Those behind the
-- error weren't called.
abbrev pub InOrder : {S E : Type 0} → (Good : S → S → Type 0) → (Bad : E → S → S → Type 0)
    → (before now : List S) → Result (Unit {0}) E → Type 0
InOrder Good Bad [] bs r = (bs ≡ []) × (r ≡ Ok tt)
InOrder Good Bad (a ∷ rest) [] r = ⊥
InOrder {E = E} Good Bad (a ∷ rest) (b ∷ bs) r =
    (Good a b × InOrder Good Bad rest bs r) ⊎ ((e : E) × (r ≡ Err e) × Bad e a b × (bs ≡ rest))

-- where the count of a warmer's errors isn't what it was, those behind it are as they were
abbrev pub EndsAtError : {W : Type 0} → (errors : W → ℕ) → (before now : List (Option W)) → Type 0
EndsAtError errors [] now = now ≡ []
EndsAtError errors (a ∷ rest) [] = ⊥
EndsAtError errors (None ∷ rest) (b ∷ now) = (b ≡ None) × EndsAtError errors rest now
EndsAtError errors (Some a ∷ rest) (None ∷ now) = ⊥
EndsAtError errors (Some a ∷ rest) (Some b ∷ now) =
    ((errors b ≡ errors a) × EndsAtError errors rest now) ⊎ (now ≡ rest)

-- the count of the errors of one of these warmers rose, and it answers this error
abbrev pub HasAnswered : {W E : Type 0} → (errors : W → ℕ) → (test : W → E → Bool) → (error : E)
    → (before now : List (Option W)) → Type 0
HasAnswered errors test error (None ∷ rest) (b ∷ now) = HasAnswered errors test error rest now
HasAnswered errors test error (Some a ∷ rest) (Some b ∷ now) =
    (Rose (errors a) (errors b) × IsTrue (test b error)) ⊎ HasAnswered errors test error rest now
HasAnswered errors test error before now = ⊥

-- the element at a place is changed so, and no other
pub record Changes {S : Type 0} (R : S → S → Type 0) (before now : List S) (i : ℕ) : Type 0 where
  pub from : S
  pub to : S
  pub at : from ≡ slice_index_or before i from
  pub changed : R from to
  pub written : now ≡ slice_set before i to

-- the first elements are changed so, and the others are as before
abbrev pub UpTo : {S : Type 0} → (S → S → Type 0) → ℕ → List S → List S → Type 0
UpTo R zero xs ys = ys ≡ xs
UpTo R (suc n) [] ys = ys ≡ []
UpTo R (suc n) (x ∷ xs) [] = ⊥
UpTo R (suc n) (x ∷ xs) (y ∷ ys) = R x y × UpTo R n xs ys

-- one of the generations that were warmed isn't live any more
abbrev pub has_ended : (warmed live : List ℕ) → Bool
has_ended warmed live = list_any (λ id. not (list_any (λ other. eqb other id) live)) warmed

-- what a reader has of its warmers: the generations that were warmed, by their numbers, and each warmer at its
-- place, where it is left
pub record WarmersState (W : Type 0) : Type 0 where
  pub warmed : List ℕ
  pub left : List (Option W)

-- these warmers, none of which warmed anything
abbrev pub new_warmers : {W : Type 0} → List W → WarmersState W
new_warmers warmers = record { warmed = []; left = map Some warmers }

-- the warmers without the one of this number
abbrev pub without_warmer : {W : Type 0} → ℕ → WarmersState W → WarmersState W
without_warmer number s = record s { left = slice_set s.left number None }

module _ {W : Type 0} (errors : W → ℕ) (test : W → TantivyError → Bool)
    (called_for : W → Option (List WarmerCall)) where
  -- What a searcher shows was warmed by each warmer that is left, once each, in order, up to the first error,
  -- and its generation was recorded; or nothing was done, since no warmer is left, or for want of memory.
  abbrev pub Warms : CommitShown → (old new : WarmersState W) → Result (Unit {0}) TantivyError → Type 0
  Warms shown old new r =
      ((new ≡ old) × (((list_any is_some old.left ≡ false) × (r ≡ Ok tt)) ⊎ (r ≡ Err Memory)))
      ⊎ ((list_any is_some old.left ≡ true) × (new.warmed ≡ old.warmed ++ shown.generation.id ∷ [])
      × InOrder (Called errors test called_for (Warmed shown)) (Stopped errors test called_for (Warmed shown))
      old.left new.left r)

  -- Whether a generation that was warmed isn't live any more. If so, each warmer that is left was told the
  -- live ones, once, and these are taken as warmed; else nothing was done.
  abbrev pub Collects : List Generation → (old new : WarmersState W) → Bool → Type 0
  Collects live old new true =
      (has_ended old.warmed (map (λ g. g.id) live) ≡ true) × (new.warmed ≡ map (λ g. g.id) live)
      × AllZip (Called errors test called_for (WasTold live)) old.left new.left
  Collects live old new false =
      (has_ended old.warmed (map (λ g. g.id) live) ≡ false) × (new ≡ old)
