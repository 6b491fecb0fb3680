-- Entries of registered callbacks: their numbers, and what is seen of them.
use Rattle.std.proofs.Common.{◌≡◌, ℕ, ◌-◌, Bool, true, false, cond, List, [], ◌∷◌, ◌++◌, Option, Some, None, find, map, refl, sym, ap, ◌∙◌, eqb, arith}
use Rattle.std.specs.Prelude.{option_map}
use Rattle.std.specs.List.{AllByRecursion, AllZip, IsDistinct}
use Rattle.std.proofs.lemmas.Bool.{cond_both}
use Rattle.std.proofs.lemmas.List.{map-append}
use Rattle.tv_base.specs.declared.inventory.Entry.{Entry}
use Rattle.tv_base.specs.Entries.{is_numbered, is_last, one_fewer, one_more, released}
use Rattle.tv_base.specs.Places.{change_at, take_out}
use Rattle.tv_base.specs.PlaceLaws.{passed}
use Rattle.tv_base.specs.Visits.{IsVisited}
use Rattle.tv_device.specs.declared.watch_list.Watcher.{Watcher}
use Rattle.tv_device.specs.declared.watch_list.Watchers.{Watchers}
use Rattle.tv_device.specs.Watch.{called, called_once, has_number, is_last_of, subscribed, unsubscribed, without_handle}
use Rattle.tv_device.specs.WatchList.{AreApart, released_by, seen, watch_state_of}

-- what is done to a list, and what is then seen of it

found_in : {X Y : Type 0} (p : Y → Bool) (g : X → Y) (xs : List X) → find p (map g xs) ≡ option_map g (find (λ x. p (g x)) xs)
found_in p g [] = refl
found_in p g (x ∷ xs) = grind (arith, found_in p g xs)

changed_in : {X Y : Type 0} (p : Y → Bool) (g : X → Y) (f : X → X) (h : Y → Y) → ((x : X) → h (g x) ≡ g (f x)) → (xs : List X) → change_at p h (map g xs) ≡ map g (change_at (λ x. p (g x)) f xs)
changed_in p g f h same [] = refl
changed_in p g f h same (x ∷ xs) = grind (arith, same x, changed_in p g f h same xs)

taken_in : {X Y : Type 0} (p : Y → Bool) (g : X → Y) (xs : List X) → take_out p (map g xs) ≡ map g (take_out (λ x. p (g x)) xs)
taken_in p g [] = refl
taken_in p g (x ∷ xs) = grind (arith, taken_in p g xs)

last_of_some : {C : Type 0} (calls_of : C → ℕ) (o : Option (Entry (Watcher C))) → is_last_of (option_map (seen calls_of) o) ≡ is_last o
last_of_some calls_of None = refl
last_of_some calls_of (Some e) = refl

last_seen : {C : Type 0} (calls_of : C → ℕ) (n : ℕ) (es : List (Entry (Watcher C))) → is_last_of (find (has_number n) (map (seen calls_of) es)) ≡ is_last (find (is_numbered n) es)
last_seen calls_of n es = ap is_last_of (found_in (has_number n) (seen calls_of) es) ∙ last_of_some calls_of (find (is_numbered n) es)

less_seen : {C : Type 0} (calls_of : C → ℕ) (n : ℕ) (es : List (Entry (Watcher C))) → change_at (has_number n) (λ r. record r { count = r.count - 1 }) (map (seen calls_of) es) ≡ map (seen calls_of) (change_at (is_numbered n) one_fewer es)
less_seen calls_of n es = changed_in (has_number n) (seen calls_of) one_fewer (λ r. record r { count = r.count - 1 }) (λ e. refl) es

-- a handle that was given back
released_seen : {C : Type 0} (calls_of : C → ℕ) (n : ℕ) (es : List (Entry (Watcher C))) → map (seen calls_of) (released n es) ≡ without_handle n (map (seen calls_of) es)
released_seen calls_of n es =
    rw (last_seen calls_of n es, taken_in (has_number n) (seen calls_of) es, less_seen calls_of n es)
    (cond_both (is_last (find (is_numbered n) es)) _ _ (λ l. map (seen calls_of) (released n es) ≡ l) (λ b. rw b refl) (λ b. rw b refl))

pub unwatched : {C : Type 0} (calls_of : C → ℕ) (w v : Watchers C) (handle : Option ℕ) → v.list.entries ≡ released_by handle w.list.entries → v.notice ≡ w.notice → watch_state_of calls_of v ≡ unsubscribed handle (watch_state_of calls_of w)
unwatched calls_of w v None list notice = rw (list, notice) refl
unwatched calls_of w v (Some n) list notice = rw (list, notice, released_seen calls_of n w.list.entries) refl

-- one more who registered
pub watched : {C : Type 0} (calls_of : C → ℕ) (w v : Watchers C) (n : ℕ) (callback : C) → v.list.entries ≡ w.list.entries ++ record { number = n; count = 1; value = record { callback = callback } } ∷ [] → v.notice ≡ w.notice → watch_state_of calls_of v ≡ subscribed n (calls_of callback) (watch_state_of calls_of w)
watched calls_of w v n callback list notice =
    rw (list, notice, map-append (seen calls_of) w.list.entries (record { number = n; count = 1; value = record { callback = callback } } ∷ [])) refl

pub none_seen : {C : Type 0} (calls_of : C → ℕ) (n : ℕ) (es : List (Entry (Watcher C))) → find (is_numbered n) es ≡ None → find (has_number n) (map (seen calls_of) es) ≡ None
none_seen calls_of n es none = found_in (has_number n) (seen calls_of) es ∙ ap (option_map (seen calls_of)) none

-- visits that call are seen as calls
pub seen_after : {C : Type 0} (calls_of : C → ℕ) (es fs : List (Entry (Watcher C))) → AllZip (IsVisited (λ a b. calls_of b.callback ≡ called (calls_of a.callback))) es fs → map (seen calls_of) fs ≡ map called_once (map (seen calls_of) es)
seen_after calls_of [] [] so = refl
seen_after calls_of [] (f ∷ fs) so = absurd so
seen_after calls_of (e ∷ es) [] so = absurd so
seen_after calls_of (e ∷ es) (f ∷ fs) so =
    rw (so.0.same_number, so.0.same_count, so.0.value)
    (ap (λ rs. called_once (seen calls_of e) ∷ rs) (seen_after calls_of es fs so.1))

-- numbers, of which no two are the same

not_first : {X : Type 0} (p : X → Bool) (x : X) (xs : List X) (b : Bool) → p x ≡ b → find p (x ∷ xs) ≡ None → p x ≡ false
not_first p x xs true is none = cc
not_first p x xs false is none = is

others_more : {T : Type 0} (m : ℕ) (es : List (Entry T)) (e : Entry T) → eqb m e.number ≡ false → AllByRecursion (λ y. eqb m y ≡ false) (map (λ d. d.number) es) → AllByRecursion (λ y. eqb m y ≡ false) (map (λ d. d.number) (es ++ e ∷ []))
others_more m [] e differs others = (differs, tt)
others_more m (d ∷ es) e differs others = (others.0, others_more m es e differs others.1)

others_fewer : {T : Type 0} (m : ℕ) (p : Entry T → Bool) (es : List (Entry T)) → AllByRecursion (λ y. eqb m y ≡ false) (map (λ d. d.number) es) → AllByRecursion (λ y. eqb m y ≡ false) (map (λ d. d.number) (take_out p es))
others_fewer m p [] others = tt
others_fewer m p (d ∷ es) others =
    cond_both (p d) es (d ∷ take_out p es) (λ l. AllByRecursion (λ y. eqb m y ≡ false) (map (λ d. d.number) l)) (λ b. others.1) (λ b. (others.0, others_fewer m p es others.1))

none_of : {T : Type 0} (n : ℕ) (es : List (Entry T)) → AllByRecursion (λ y. eqb n y ≡ false) (map (λ d. d.number) es) → find (is_numbered n) es ≡ None
none_of n [] others = refl
none_of n (d ∷ es) others =
    let differs : eqb d.number n ≡ false = grind (arith, others.0) in
    rw differs (none_of n es others.1)

-- nobody
pub apart_none : {T : Type 0} (es : List (Entry T)) → es ≡ [] → AreApart es
unfolding IsDistinct
apart_none es is = rw is tt

-- one more, with a number that nobody has
pub apart_more : {T : Type 0} (n : ℕ) (es : List (Entry T)) (e : Entry T) → e.number ≡ n → find (is_numbered n) es ≡ None → AreApart es → AreApart (es ++ e ∷ [])
unfolding IsDistinct
apart_more n [] e is none apart = (tt, tt)
apart_more n (d ∷ es) e is none apart =
    let differs : eqb d.number n ≡ false = not_first (is_numbered n) d es (eqb d.number n) refl none in
    (others_more d.number es e (rw is differs) apart.0, apart_more n es e is (passed (is_numbered n) d es differs none) apart.1)

-- one fewer
apart_fewer : {T : Type 0} (p : Entry T → Bool) (es : List (Entry T)) → AreApart es → AreApart (take_out p es)
unfolding IsDistinct
apart_fewer p [] apart = tt
apart_fewer p (d ∷ es) apart =
    cond_both (p d) es (d ∷ take_out p es) AreApart (λ b. apart.1) (λ b. (others_fewer d.number p es apart.0, apart_fewer p es apart.1))

same_numbers : {T : Type 0} (p : Entry T → Bool) (f : Entry T → Entry T) → ((e : Entry T) → (f e).number ≡ e.number) → (es : List (Entry T)) → map (λ d. d.number) (change_at p f es) ≡ map (λ d. d.number) es
same_numbers p f same [] = refl
same_numbers p f same (d ∷ es) = grind (arith, same d, same_numbers p f same es)

visited_numbers : {T : Type 0} (R : T → T → Type 0) (es fs : List (Entry T)) → AllZip (IsVisited R) es fs → map (λ d. d.number) fs ≡ map (λ d. d.number) es
visited_numbers R [] [] so = refl
visited_numbers R [] (f ∷ fs) so = absurd so
visited_numbers R (e ∷ es) [] so = absurd so
visited_numbers R (e ∷ es) (f ∷ fs) so = rw so.0.same_number (ap (λ ns. e.number ∷ ns) (visited_numbers R es fs so.1))

pub apart_visited : {T : Type 0} (R : T → T → Type 0) (es fs : List (Entry T)) → AllZip (IsVisited R) es fs → AreApart es → AreApart fs
apart_visited R es fs so apart = rw (visited_numbers R es fs so) apart

pub apart_shared : {T : Type 0} (n : ℕ) (es : List (Entry T)) → AreApart es → AreApart (change_at (is_numbered n) one_more es)
apart_shared n es apart = rw (same_numbers (is_numbered n) one_more (λ e. refl) es) apart

pub apart_released : {T : Type 0} (n : ℕ) (es : List (Entry T)) → AreApart es → AreApart (released n es)
apart_released n es apart =
    cond_both (is_last (find (is_numbered n) es)) (take_out (is_numbered n) es) (change_at (is_numbered n) one_fewer es) AreApart (λ b. apart_fewer (is_numbered n) es apart) (λ b. rw (same_numbers (is_numbered n) one_fewer (λ e. refl) es) apart)

-- where the first of a number goes, none is left
gone_by : {T : Type 0} (n : ℕ) (d : Entry T) (es : List (Entry T)) (b : Bool) → eqb d.number n ≡ b → AreApart (d ∷ es) → find (is_numbered n) (take_out (is_numbered n) es) ≡ None → find (is_numbered n) (cond b es (d ∷ take_out (is_numbered n) es)) ≡ None
unfolding IsDistinct
gone_by n d es true is apart rest =
    let same : n ≡ d.number = grind (arith, is) in
    rw same (none_of d.number es apart.0)
gone_by n d es false is apart rest = rw is rest

gone : {T : Type 0} (n : ℕ) (es : List (Entry T)) → AreApart es → find (is_numbered n) (take_out (is_numbered n) es) ≡ None
unfolding IsDistinct
gone n [] apart = refl
gone n (d ∷ es) apart = gone_by n d es (eqb d.number n) refl apart (gone n es apart.1)

pub last_gone : {T : Type 0} (n : ℕ) (es : List (Entry T)) → AreApart es → is_last (find (is_numbered n) es) ≡ true → find (is_numbered n) (released n es) ≡ None
last_gone n es apart last = rw last (gone n es apart)

-- who is gone isn't visited
pub none_visited : {T : Type 0} (R : T → T → Type 0) (n : ℕ) (es fs : List (Entry T)) → AllZip (IsVisited R) es fs → find (is_numbered n) es ≡ None → find (is_numbered n) fs ≡ None
none_visited {T} R n es fs so none =
    let find_number : (xs : List (Entry T)) → find (λ m. eqb m n) (map (λ e. e.number) xs) ≡ option_map (λ e. e.number) (find (is_numbered n) xs) = found_in (λ m. eqb m n) (λ e. e.number) in
    nothing_of (find (is_numbered n) fs) (sym (find_number fs) ∙ ap (find (λ m. eqb m n)) (visited_numbers R es fs so) ∙ find_number es ∙ ap (option_map (λ e. e.number)) none)
  where
    nothing_of : (o : Option (Entry T)) → option_map (λ e. e.number) o ≡ None → o ≡ None
    nothing_of None is = refl
    nothing_of (Some e) is = absurd cc
