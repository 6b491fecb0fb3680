-- The list of all publications, as the one who publishes and each handle know it.
use Rattle.std.specs.Prelude.{◌≡◌, ◌⊎◌, ℕ, List, [], ◌∷◌, ◌++◌, length, drop, Bool, true, false, Some}
use mathlib.Core.Option.{some}
use lib.ListN.{get_elem?}
use Rattle.tv_machine.specs.State.{Snapshot}
use Rattle.tv_publishing.specs.declared.latest.Latest.{Latest}
use Rattle.tv_publishing.specs.declared.one_list.Known.{Known}
use Rattle.tv_publishing.specs.Lists.{IsPrefix, EndsIn}

-- this is known at a place
abbrev pub IsKnownAt : List Known → ℕ → Known → Type 0
IsKnownAt views i v = get_elem? views i ≡ some v

-- There is one list, whose last entry is what is found, and which is as long as the number says. Each knows a
-- first part of it. At most one publishes, and knows all of it; and nobody does where nothing is published.
pub record IsOneList (x : Latest) (views : List Known) : Type 0 where
  pub all : List Snapshot
  pub ends : EndsIn all x.last
  pub counted : length all ≡ x.number
  pub each : (i : ℕ) (v : Known) → IsKnownAt views i v → IsPrefix v.list all
  pub whole : (i : ℕ) (v : Known) → IsKnownAt views i v → v.publishes ≡ true → v.list ≡ all
  pub one : (i j : ℕ) (v w : Known) → IsKnownAt views i v → IsKnownAt views j w
      → v.publishes ≡ true → w.publishes ≡ true → i ≡ j
  pub fresh : x.number ≡ 0 → (i : ℕ) (v : Known) → IsKnownAt views i v → v.publishes ≡ false

-- what a new handle knows
abbrev pub nothing_known : Known
nothing_known = record { publishes = false; list = [] }

-- one snapshot more is published
abbrev pub PublishesOne : Known → Latest → Latest → Known → Type 0
PublishesOne v x y w =
    (z : Snapshot) × (y.last ≡ Some z) × (w.publishes ≡ true) × (w.list ≡ v.list ++ z ∷ [])
    × (length w.list ≡ y.number)

-- a handle learns of all that was published
abbrev pub LearnsAll : Known → Latest → Latest → Known → Type 0
LearnsAll v x y w =
    (w.publishes ≡ false) × IsPrefix v.list w.list × EndsIn w.list x.last × (length w.list ≡ x.number)

-- The one who publishes may publish one more: nothing is pending, unless a publication failed; it is the one
-- who publishes, or nothing is published; and the number is that of its list.
pub record Publishable (has_failed : Bool) (v : Known) (x : Latest) (behind : ℕ) (log : List Snapshot)
    : Type 0 where
  pub idle : has_failed ≡ false → drop behind log ≡ []
  pub alone : (v.publishes ≡ true) ⊎ (x.number ≡ 0)
  pub counted : x.number ≡ length v.list
