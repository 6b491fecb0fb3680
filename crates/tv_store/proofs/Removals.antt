-- Entries and names that are taken out: of maps, of sets, and of the open files.
use Rattle.std.proofs.Common.{◌≡◌, true≢false, ℕ, suc, ◌≤◌, inl, inr, Bool, true, false, cond, not, ◌&&◌, ◌||◌, List, [], ◌∷◌, ◌++◌, map, length, Option, Some, None, option_map, is_some, Result, Ok, refl, sym, ap, subst, ◌∙◌, arith}
use Rattle.std.specs.Prelude.{Contains}
use Rattle.std.specs.List.{AllByRecursion, filter, list_all, list_any}
use Rattle.std.proofs.lemmas.Bool.{and_right, or_right}
use Rattle.std.proofs.lemmas.List.Elements.{All-filter}
use Rattle.std.proofs.lemmas.List.Sums.{AllPass-from_list_all, list_all-from_AllPass}
use Rattle.std.specs.Map.{remove_entry}
use Rattle.std.specs.BTreeMap.{is_at}
use Rattle.std.specs.BTreeSet.{insert_key}
use Rattle.tv_formats.specs.Files.{Reads}
use Rattle.tv_formats.specs.Listing.{IsListFile}
use Rattle.tv_formats.specs.Names.{byte_cmp, is, has, is_plain, is_undotted, at}
use Rattle.tv_formats.specs.Collections.{Collections, done_of, failed_of, held, without}
use Rattle.tv_formats.proofs.Entries.{same_at, text_at, at_itself, is_text, is_by_order, has_put}
use Rattle.tv_formats.proofs.PlainNames.{both, plain_is_undotted}
use Rattle.tv_formats.proofs.CollectedNames.{has_append, has_without}
use Rattle.tv_device.specs.View.{GoesOn}
use Rattle.tv_device.specs.declared.directory.Directory.{Ghosts}
use Rattle.tv_managed.specs.Collecting.{Among, Leaves, Tries, SparesWriters, names_of, taken_by}
use Rattle.tv_managed.specs.Crashes.{CollectsNames}
use Rattle.tv_managed.specs.Names.{ManagedNames}
use Rattle.tv_managed.specs.declared.collection.GarbageCollectionResult.{GarbageCollectionResult}
use Rattle.tv_formats.specs.Commits.{IndexForm}
use Rattle.tv_store.specs.Kept.{FilesState, names_below}
use Rattle.tv_store.specs.FileCalls.{TriesNames}
use Rattle.tv_store.specs.declared.files.OpenFile.{OpenFile}
use Rattle.tv_store.specs.OpenFiles.{AreThere, IsOpenFile}
use Rattle.tv_store.proofs.KnownFiles.{left_there}
use Rattle.tv_catalog.proofs.SharedLaws.{all_left}
use Rattle.tv_store.proofs.OpenFiles.{AreFiles, AreOpen, bodies, at_seen, with_known}
use Rattle.tv_store.proofs.CommitEvents.{all_at}

-- ---- entries

-- what is true of each entry of a list is true of one that it contains
all_contained : {X : Type 0} (P : X → Type 0) (xs : List X) (x : X) → AllByRecursion P xs → Contains xs x → P x
all_contained P xs x h c = all_at P xs c.0 x h c.1 (sym c.2)

further : {X : Type 0} (x : X) (xs : List X) (y : X) → Contains xs y → Contains (x ∷ xs) y
further x xs y c = (suc c.0, omega (arith, c.1), c.2)

all_further : {X : Type 0} (x : X) (xs ys : List X) → AllByRecursion (Contains xs) ys → AllByRecursion (Contains (x ∷ xs)) ys
all_further x xs [] h = tt
all_further x xs (y ∷ ys) h = (further x xs y h.0, all_further x xs ys h.1)

-- a list contains what it contains
pub contains_itself : {X : Type 0} (xs : List X) → AllByRecursion (Contains xs) xs
contains_itself [] = tt
contains_itself (x ∷ xs) = ((0, omega arith, refl), all_further x xs xs (contains_itself xs))

-- what is true of each entry is true of those that are left
all_still : {X : Type 0} (P : X → Type 0) (xs ys : List X) → AllByRecursion P xs → AllByRecursion (Contains xs) ys → AllByRecursion P ys
all_still P xs [] h k = tt
all_still P xs (y ∷ ys) h k = (all_contained P xs y h k.0, all_still P xs ys h k.1)

-- what is true of each entry is true of those that are left of them
pub removed_still : {X : Type 0} (first es new : List (List ℕ × X)) (test : List ℕ → Bool) → new ≡ remove_entry test es → AllByRecursion (Contains first) es → AllByRecursion (Contains first) new
removed_still first es new test cut h = subst (AllByRecursion (Contains first)) (sym cut) (all_left (Contains first) es test h)

-- entries but one that was taken out
pub at_removed : {X : Type 0} (es : List (List ℕ × X)) (k q : List ℕ) → is_at (byte_cmp k) q ≡ false → at (remove_entry (is_at (byte_cmp k)) es) q ≡ at es q
at_removed [] k q other = refl
at_removed {X} (e ∷ es) k q other =
    elim (is_at (byte_cmp k) e.0) as (λ b. is_at (byte_cmp k) e.0 ≡ b → at (cond b es (e ∷ remove_entry (is_at (byte_cmp k)) es)) q ≡ at (e ∷ es) q) [
      | true ↦ λ here.
          let missed : is_at (byte_cmp q) e.0 ≡ false = subst (λ (n : List ℕ). is_at (byte_cmp q) n ≡ false) (text_at k e.0 here) (same_at q k ∙ other) in
          sym (ap (λ (b : Bool). cond b (Some e.1) (at es q)) missed)
      | false ↦ λ there. ap (λ (o : Option X). cond (is_at (byte_cmp q) e.0) (Some e.1) o) (at_removed es k q other)
    ] refl

-- two texts that are the same compare alike
test_is : (x n : List ℕ) → is_at (byte_cmp x) n ≡ is x n
test_is x n = same_at x n ∙ sym (is_by_order n x)

-- the test of a name alone
pub one_is : (x n : List ℕ) → is_at (byte_cmp x) n ≡ has (x ∷ []) n
one_is x n = test_is x n ∙ elim (is x n) as (λ b. b ≡ (b || false)) [ true ↦ refl | false ↦ refl ]

-- what stands at a name after one was taken out
pub at_closed : {X : Type 0} (es new : List (List ℕ × X)) (x n : List ℕ) → new ≡ remove_entry (is_at (byte_cmp x)) es → at new x ≡ None → at new n ≡ cond (is x n) None (at es n)
at_closed {X} es new x n cut closed =
    elim (is x n) as (λ b. is x n ≡ b → at new n ≡ cond b None (at es n)) [
      | true ↦ λ e. ap (at new) (sym (is_text x n e)) ∙ closed
      | false ↦ λ e. ap (λ (fs : List (List ℕ × X)). at fs n) cut ∙ at_removed es x n (test_is x n ∙ e)
    ] refl

gone_twice : {X : Type 0} (b r : Bool) (o : Option X) → cond r None (cond b None o) ≡ cond (b || r) None o
gone_twice true true o = refl
gone_twice true false o = refl
gone_twice false r o = refl

-- one more name was taken out
pub one_gone : {X : Type 0} (es new : List (List ℕ × X)) (x : List ℕ) (names rest : List (List ℕ)) (n : List ℕ) (all : Option X) → names ≡ x ∷ rest → at new n ≡ cond (is_at (byte_cmp x) n) None (at es n)
    → cond (has names n) None (at es n) ≡ all → cond (has rest n) None (at new n) ≡ all
one_gone {X} es new x names rest n all split cut h =
    ap (λ (o : Option X). cond (has rest n) None o) (cut ∙ ap (λ (b : Bool). cond b None (at es n)) (test_is x n))
    ∙ gone_twice (is x n) (has rest n) (at es n) ∙ ap (λ (ns : List (List ℕ)). cond (has ns n) None (at es n)) (sym split) ∙ h

-- whether a list has a name, by the test of a set
pub had : (names : List (List ℕ)) (n : List ℕ) → list_any (is_at (byte_cmp n)) names ≡ has names n
had [] n = refl
had (x ∷ names) n = rw (is_by_order n x, had names n) refl

out_twice : (b r o : Bool) → (not r && (cond b false o)) ≡ (not (b || r) && o)
out_twice true true o = refl
out_twice true false o = refl
out_twice false r o = refl

-- the same of a set of names
pub one_out : (keys new : List (List ℕ)) (x : List ℕ) (names rest : List (List ℕ)) (n : List ℕ) (all : Bool) → names ≡ x ∷ rest
    → list_any (is_at (byte_cmp n)) new ≡ cond (is_at (byte_cmp x) n) false (list_any (is_at (byte_cmp n)) keys)
    → (not (has names n) && has keys n) ≡ all → (not (has rest n) && has new n) ≡ all
one_out keys new x names rest n all split cut h =
    let now : has new n ≡ cond (is x n) false (has keys n) =
    sym (had new n) ∙ cut ∙ ap (λ (b : Bool). cond b false (list_any (is_at (byte_cmp n)) keys)) (test_is x n) ∙ ap (λ (o : Bool). cond (is x n) false o) (had keys n) in
    ap (λ (b : Bool). not (has rest n) && b) now ∙ out_twice (is x n) (has rest n) (has keys n) ∙ ap (λ (ns : List (List ℕ)). not (has ns n) && has keys n) (sym split) ∙ h

-- files that are known are there when one is known no more
pub forgotten : (reads : Reads) (known new : List (List ℕ)) (name : List ℕ) → ((n : List ℕ) → list_any (is_at (byte_cmp n)) new ≡ cond (is_at (byte_cmp name) n) false (list_any (is_at (byte_cmp n)) known))
    → AreThere reads known → AreThere reads new
forgotten reads known new name cut h = left_there reads reads known new (name ∷ []) (λ n. one_out known new name (name ∷ []) [] n _ refl (cut n) refl) (λ n file other. refl) h

-- the first entry stands at its key
key_at : {X : Type 0} (e : List ℕ × X) (es : List (List ℕ × X)) → at (e ∷ es) e.0 ≡ Some e.1
key_at e es = rw (at_itself e.0) refl

-- where nothing stands at some names, no entry has one of them
keys_away : {X : Type 0} (gone : List (List ℕ)) (es : List (List ℕ × X)) → ((n : List ℕ) → has gone n ≡ true → at es n ≡ None) → AllByRecursion (λ e. has gone e.0 ≡ false) es
keys_away gone [] h = tt
keys_away {X} gone (e ∷ es) h = (
  elim (has gone e.0) as (λ b. has gone e.0 ≡ b → b ≡ false) [
    | true ↦ λ g. let k : Some e.1 ≡ None = sym (key_at e es) ∙ h e.0 g in absurd cc
    | false ↦ λ g. refl
  ] refl,
  keys_away gone es (λ n g. rest n (h n g)),
)
  where
    rest : (n : List ℕ) → at (e ∷ es) n ≡ None → at es n ≡ None
    rest n k = elim (is_at (byte_cmp n) e.0) as (λ b. cond b (Some e.1) (at es n) ≡ None → at es n ≡ None) [ true ↦ λ m. absurd cc | false ↦ λ m. m ] k

-- so are the entries that are left
others_away : {X : Type 0} (gone : List (List ℕ)) (es new : List (List ℕ × X)) → ((n : List ℕ) → at new n ≡ cond (has gone n) None (at es n)) → AllByRecursion (λ e. has gone e.0 ≡ false) new
others_away {X} gone es new h = keys_away gone new (λ n g. h n ∙ ap (λ (b : Bool). cond b None (at es n)) g)

-- nothing more is said of the files of a directory when one is known no more
pub one_forgotten : {D W C : Type 0} (g : Ghosts D W C) (directory now : D × ManagedNames) (es : List (List ℕ × OpenFile D W C)) (known new : List (List ℕ)) (name : List ℕ) → now ≡ directory
    → ((n : List ℕ) → list_any (is_at (byte_cmp n)) new ≡ cond (is_at (byte_cmp name) n) false (list_any (is_at (byte_cmp n)) known)) → AreFiles g directory es known → AreFiles g now es new
one_forgotten g directory now es known new name same cut h =
    subst (λ d. AreFiles g d es new) (sym same) (with_known g directory es known new (λ tells. forgotten (g.view directory.0).reads known new name cut (h.2 tells)) h)

-- ---- open files after a collection

all_after : {D W C : Type 0} (g : Ghosts D W C) (old new : D) (deleted : List (List ℕ)) (es : List (List ℕ × OpenFile D W C))
    → GoesOn g.told (g.view old) (g.view new) → (g.told.content → SparesWriters deleted g.state_of (g.view old).lives (g.view new).lives) → AllByRecursion (λ e. has deleted e.0 ≡ false) es
    → AreOpen g old es → AreOpen g new es
all_after g old new deleted [] goes_on spared away h = tt
all_after g old new deleted (e ∷ es) goes_on spared away h = (
  record {
    opened_is = goes_on.writers e.1.writer.writer h.0.opened_is;
    lives_is = λ tells. spared tells e.1.writer.writer (ap (has deleted) h.0.name_is ∙ away.0) (h.0.lives_is tells);
    name_is = h.0.name_is;
    len_is = h.0.len_is;
    summed_is = h.0.summed_is;
  },
  all_after g old new deleted es goes_on spared away.1 h.1,
)

-- files that were open, and whose names weren't deleted, are open
pub collected_open : {D W C : Type 0} (g : Ghosts D W C) (old new : D) (deleted : List (List ℕ)) (es es2 : List (List ℕ × OpenFile D W C))
    → GoesOn g.told (g.view old) (g.view new) → (g.told.content → SparesWriters deleted g.state_of (g.view old).lives (g.view new).lives)
    → ((n : List ℕ) → at es2 n ≡ cond (has deleted n) None (at es n)) → AllByRecursion (Contains es) es2
    → AreOpen g old es → AreOpen g new es2
collected_open g old new deleted es es2 goes_on spared gone left h =
    all_after g old new deleted es2 goes_on spared (others_away deleted es es2 gone)
    (all_still (λ e. IsOpenFile g old e.0 e.1.writer e.1.len) es es2 h left)

gone_seen : {X Y : Type 0} (f : X → Y) (b : Bool) (o : Option X) → option_map f (cond b None o) ≡ cond b None (option_map f o)
gone_seen f true o = refl
gone_seen f false o = refl

-- what was written to them, name by name
pub bodies_gone : {D W C : Type 0} (written : W → List ℕ) (es es2 : List (List ℕ × OpenFile D W C)) (old : List (List ℕ × List ℕ)) (deleted : List (List ℕ)) (n : List ℕ)
    → bodies written es ≡ old → at es2 n ≡ cond (has deleted n) None (at es n) → at (bodies written es2) n ≡ cond (has deleted n) None (at old n)
bodies_gone {D} {W} {C} written es es2 old deleted n is gone =
    at_seen (λ (file : OpenFile D W C). written file.writer.writer) es2 n
    ∙ ap (option_map (λ (file : OpenFile D W C). written file.writer.writer)) gone
    ∙ gone_seen (λ (file : OpenFile D W C). written file.writer.writer) (has deleted n) (at es n)
    ∙ ap (λ (o : Option (List ℕ)). cond (has deleted n) None o) (sym (at_seen (λ (file : OpenFile D W C). written file.writer.writer) es n) ∙ ap (λ (bs : List (List ℕ × List ℕ)). at bs n) is)

all_of_map : {X Y : Type 0} (P : Y → Type 0) (f : X → Y) (xs : List X) → AllByRecursion P (map f xs) → AllByRecursion (λ x. P (f x)) xs
all_of_map P f [] h = tt
all_of_map P f (x ∷ xs) h = (h.0, all_of_map P f xs h.1)

map_of_all : {X Y : Type 0} (P : Y → Type 0) (f : X → Y) (xs : List X) → AllByRecursion (λ x. P (f x)) xs → AllByRecursion P (map f xs)
map_of_all P f [] h = tt
map_of_all P f (x ∷ xs) h = (h.0, map_of_all P f xs h.1)

-- and how long that is
pub lens_left : {D W C : Type 0} (written : W → List ℕ) (es es2 : List (List ℕ × OpenFile D W C)) (old : List (List ℕ × List ℕ)) (bound : ℕ)
    → bodies written es ≡ old → AllByRecursion (Contains es) es2 → AllByRecursion (λ e. length e.1 ≤ bound) old → AllByRecursion (λ e. length e.1 ≤ bound) (bodies written es2)
lens_left {D} {W} {C} written es es2 old bound is left h =
    map_of_all (λ e. length e.1 ≤ bound) (λ (e : List ℕ × OpenFile D W C). (e.0, written e.1.writer.writer)) es2
    (all_still (λ (e : List ℕ × OpenFile D W C). length (written e.1.writer.writer) ≤ bound) es es2
    (all_of_map (λ e. length e.1 ≤ bound) (λ (e : List ℕ × OpenFile D W C). (e.0, written e.1.writer.writer)) es (subst (AllByRecursion (λ e. length e.1 ≤ bound)) (sym is) h)) left)

-- ---- names

-- the names that were done or failed are plain where those that were tried are
done_plain : (test : List ℕ → Bool) (names : List (List ℕ)) (outcomes : List Bool) → list_all test names ≡ true → list_all test (done_of names outcomes) ≡ true
done_plain test [] outcomes h = refl
done_plain test (n ∷ names) [] h = h
done_plain test (n ∷ names) (true ∷ outcomes) h = let t = both (test n) (list_all test names) h in rw t.0 (done_plain test names outcomes t.1)
done_plain test (n ∷ names) (false ∷ outcomes) h = done_plain test names outcomes (both (test n) (list_all test names) h).1

failed_plain : (test : List ℕ → Bool) (names : List (List ℕ)) (outcomes : List Bool) → list_all test names ≡ true → list_all test (failed_of names outcomes) ≡ true
failed_plain test [] outcomes h = refl
failed_plain test (n ∷ names) [] h = refl
failed_plain test (n ∷ names) (true ∷ outcomes) h = failed_plain test names outcomes (both (test n) (list_all test names) h).1
failed_plain test (n ∷ names) (false ∷ outcomes) h = let t = both (test n) (list_all test names) h in rw t.0 (failed_plain test names outcomes t.1)

-- and those of some that are taken
all_filtered : (p test : List ℕ → Bool) (names : List (List ℕ)) → list_all test names ≡ true → list_all test (filter p names) ≡ true
all_filtered p test names h = list_all-from_AllPass test (filter p names) (All-filter p (λ name. test name ≡ true) names (AllPass-from_list_all test names h))

-- at Ok exactly what the living names leave was tried
pub tried_of : {S E D W C : Type 0} (g : Ghosts D W C) (answered : S → Type 0) (sets : S → List (List ℕ)) (living : List (List ℕ)) {names : List (List ℕ)} {old new : D × ManagedNames} {result : GarbageCollectionResult}
    → ((set : S) → answered set → sets set ≡ living) → CollectsNames {E = E} g names old new (Ok result) → Among {E = E} answered sets old.1 new.1 names (Ok result) → Tries g (taken_by living old.1) old new result
tried_of g answered sets living {old = old} {new = new} {result = result} is collects (inl none) = absurd (true≢false (sym none.0))
tried_of g answered sets living {old = old} {new = new} {result = result} is collects (inr set) =
    subst (λ (ns : List (List ℕ)). Tries g ns old new result) (set.2 ∙ ap (λ (ns : List (List ℕ)). taken_by ns old.1) (is set.0 set.1)) collects.tries

-- so are those that a collection told
pub told_plain : {D W C : Type 0} (g : Ghosts D W C) (living : List (List ℕ)) (old new : D × ManagedNames) (result : GarbageCollectionResult) → Tries g (taken_by living old.1) old new result → list_all is_plain old.1.managed ≡ true
    → (list_all is_plain (names_of result.deleted_files.items) ≡ true) × (list_all is_plain (names_of result.failed_to_delete_files.items) ≡ true)
told_plain g living old new result told h =
    let tried : list_all is_plain (taken_by living old.1) ≡ true = all_filtered (λ name. not (has (living ++ held old.1.collections) name)) is_plain old.1.managed h in
    (ap (list_all is_plain) told.deleted ∙ done_plain is_plain (taken_by living old.1) told.outcomes tried, ap (list_all is_plain) told.failed ∙ failed_plain is_plain (taken_by living old.1) told.outcomes tried)

-- what a collection told, of the names that it gave
pub tried_as : {D W C : Type 0} (g : Ghosts D W C) (living others : List (List ℕ)) (old new : D × ManagedNames) (first last : FilesState D) (result : GarbageCollectionResult) (deleted failed : List (List ℕ))
    → old ≡ names_below first → new ≡ names_below last → living ≡ others → deleted ≡ names_of result.deleted_files.items → failed ≡ names_of result.failed_to_delete_files.items
    → Tries g (taken_by living old.1) old new result → TriesNames g (taken_by others (names_below first).1) first last deleted failed
tried_as g living others old new first last result deleted failed same later answered done not_done tries =
    as_told (subst (λ (ns : List (List ℕ)). Tries g (taken_by ns (names_below first).1) (names_below first) (names_below last) result) answered
    (subst (λ n. Tries g (taken_by living (names_below first).1) (names_below first) n result) later (subst (λ f. Tries g (taken_by living f.1) f new result) same tries))) where
      as_told : Tries g (taken_by others (names_below first).1) (names_below first) (names_below last) result → TriesNames g (taken_by others (names_below first).1) first last deleted failed
      as_told told = record {
        outcomes = told.outcomes;
        each = told.each;
        deleted_is = done ∙ told.deleted;
        failed_is = not_done ∙ told.failed;
        managed = ap (λ names. names.managed) told.managed ∙ ap (λ (ns : List (List ℕ)). without ns first.managed) (sym done);
        gone = λ t n h. told.gone t n (subst (λ (ns : List (List ℕ)). has ns n ≡ true) done h);
        others = λ t n h. told.others t n (subst (λ (ns : List (List ℕ)). has ns n ≡ false) done h);
      }

-- a collection takes no living name
pub living_spared : (living : List (List ℕ)) (names : ManagedNames) (n : List ℕ) → has living n ≡ true → has (taken_by living names) n ≡ false
living_spared living names n h =
    has_without (living ++ held names.collections) names.managed n
    ∙ ap (λ (b : Bool). not b && has names.managed n) (has_append living (held names.collections) n)
    ∙ ap (λ (b : Bool). not (b || has (held names.collections) n) && has names.managed n) h

-- what is living isn't taken, whichever names are tried
pub among_spares : {S A E : Type 0} (answered : S → Type 0) (sets : S → List (List ℕ)) (living names : List (List ℕ)) (managed now : ManagedNames) (result : Result A E) (n : List ℕ)
    → ((set : S) → answered set → sets set ≡ living) → Among answered sets managed now names result → has living n ≡ true → has names n ≡ false
among_spares answered sets living names managed now result n is (inl none) h = ap (λ (ns : List (List ℕ)). has ns n) none.1
among_spares answered sets living names managed now result n is (inr set) h = ap (λ (ns : List (List ℕ)). has ns n) (set.2 ∙ ap (λ (ns : List (List ℕ)). taken_by ns managed) (is set.0 set.1)) ∙ living_spared living managed n h

-- so it reads what it read
pub living_stands : {S A E D W C : Type 0} (g : Ghosts D W C) (answered : S → Type 0) (sets : S → List (List ℕ)) (living names : List (List ℕ)) (old new : D × ManagedNames) (result : Result A E) (n : List ℕ)
    → ((set : S) → answered set → sets set ≡ living) → Among answered sets old.1 new.1 names result → Leaves g names old new result
    → g.told.content → has living n ≡ true → (IsListFile n → ⊥) → (g.view new.0).reads n ≡ (g.view old.0).reads n
living_stands g answered sets living names old new result n is among l t h other = l.spared t n (among_spares answered sets living names old.1 new.1 result n is among h) other

pub isnt_plain : (x n : List ℕ) → is_plain x ≡ true → is_undotted n ≡ false → is x n ≡ false
isnt_plain x n plain dot =
    elim (is x n) as (λ b. is x n ≡ b → b ≡ false) [
      | true ↦ λ e.
          let same : x ≡ n = is_text x n e in
          absurd (true≢false (sym (plain_is_undotted x plain) ∙ ap is_undotted same ∙ dot))
      | false ↦ λ e. refl
    ] refl

-- none of some plain names has a dot in front
plain_hasnt : (names : List (List ℕ)) (n : List ℕ) → list_all is_plain names ≡ true → is_undotted n ≡ false → has names n ≡ false
plain_hasnt [] n h dot = refl
plain_hasnt (x ∷ names) n h dot =
    let t = both (is_plain x) (list_all is_plain names) h in
    rw (isnt_plain x n t.0 dot) (plain_hasnt names n t.1 dot)

-- nor is a name with a dot in front, since managed names have none
pub dotted_stands : {S A E D W C : Type 0} (g : Ghosts D W C) (answered : S → Type 0) (sets : S → List (List ℕ)) (names : List (List ℕ)) (old new : D × ManagedNames) (result : Result A E) (n : List ℕ)
    → list_all is_plain old.1.managed ≡ true → Among answered sets old.1 new.1 names result → Leaves g names old new result
    → g.told.content → is_undotted n ≡ false → (IsListFile n → ⊥) → (g.view new.0).reads n ≡ (g.view old.0).reads n
dotted_stands g answered sets names old new result n plain (inl none) l t dot other = l.spared t n (ap (λ (ns : List (List ℕ)). has ns n) none.1) other
dotted_stands g answered sets names old new result n plain (inr set) l t dot other =
    let taken : list_all is_plain (taken_by (sets set.0) old.1) ≡ true = all_filtered (λ name. not (has (sets set.0 ++ held old.1.collections) name)) is_plain old.1.managed plain in
    l.spared t n (ap (λ (ns : List (List ℕ)). has ns n) set.2 ∙ plain_hasnt (taken_by (sets set.0) old.1) n taken dot) other

-- ---- open files that are left

moved : {X : Type 0} (i k r : Bool) (o : Option X) → (i ≡ true → is_some o ≡ true) → ((i || k) || (r && is_some (cond i None o))) ≡ (k || ((i || r) && is_some o))
moved true k r o h = sym (ap (λ (b : Bool). k || b) (h refl) ∙ or_right k true refl)
moved false k r o h = refl

missed : {X : Type 0} (i k r : Bool) (o : Option X) → (i ≡ true → is_some o ≡ false) → (k || (r && is_some (cond i None o))) ≡ (k || ((i || r) && is_some o))
missed true k r o h = ap (λ (b : Bool). k || b) (and_right r false refl ∙ sym (h refl))
missed false k r o h = refl

-- one more open file was left
pub one_left : {X : Type 0} (keys new : List (List ℕ)) (es es2 : List (List ℕ × X)) (x : List ℕ) (names rest : List (List ℕ)) (n : List ℕ) (answer all : Bool) → names ≡ x ∷ rest
    → answer ≡ is_some (at es x) → answer ≡ true → new ≡ insert_key byte_cmp keys x → es2 ≡ remove_entry (is_at (byte_cmp x)) es → at es2 x ≡ None
    → (has keys n || (has names n && is_some (at es n))) ≡ all → (has new n || (has rest n && is_some (at es2 n))) ≡ all
one_left {X} keys new es es2 x names rest n answer all split asked found put cut closed h =
    let now : has new n ≡ (is x n || has keys n) = ap (λ (ks : List (List ℕ)). has ks n) put ∙ has_put keys x n in
    ap (λ (b : Bool). b || (has rest n && is_some (at es2 n))) now
    ∙ ap (λ (o : Option X). (is x n || has keys n) || (has rest n && is_some o)) (at_closed es es2 x n cut closed)
    ∙ moved (is x n) (has keys n) (has rest n) (at es n) (λ e. ap (λ (m : List ℕ). is_some (at es m)) (sym (is_text x n e)) ∙ sym asked ∙ found)
    ∙ ap (λ (ns : List (List ℕ)). has keys n || (has ns n && is_some (at es n))) (sym split) ∙ h

-- and a name of which none is open changes nothing
pub none_left : {X : Type 0} (keys : List (List ℕ)) (es es2 : List (List ℕ × X)) (x : List ℕ) (names rest : List (List ℕ)) (n : List ℕ) (answer all : Bool) → names ≡ x ∷ rest
    → answer ≡ is_some (at es x) → answer ≡ false → es2 ≡ remove_entry (is_at (byte_cmp x)) es → at es2 x ≡ None
    → (has keys n || (has names n && is_some (at es n))) ≡ all → (has keys n || (has rest n && is_some (at es2 n))) ≡ all
none_left {X} keys es es2 x names rest n answer all split asked none cut closed h =
    ap (λ (o : Option X). has keys n || (has rest n && is_some o)) (at_closed es es2 x n cut closed)
    ∙ missed (is x n) (has keys n) (has rest n) (at es n) (λ e. ap (λ (m : List ℕ). is_some (at es m)) (sym (is_text x n e)) ∙ sym asked ∙ none)
    ∙ ap (λ (ns : List (List ℕ)). has keys n || (has ns n && is_some (at es n))) (sym split) ∙ h

-- one more name is open no more
pub one_closed : {X : Type 0} (es new : List (List ℕ × X)) (x : List ℕ) (names rest : List (List ℕ)) (n : List ℕ) (all : Option X) → names ≡ x ∷ rest → new ≡ remove_entry (is_at (byte_cmp x)) es → at new x ≡ None
    → cond (has names n) None (at es n) ≡ all → cond (has rest n) None (at new n) ≡ all
one_closed {X} es new x names rest n all split cut closed h =
    one_gone es new x names rest n all split (at_closed es new x n cut closed ∙ ap (λ (b : Bool). cond b None (at es n)) (sym (test_is x n))) h

-- and those that are left are as long
pub lens_cut : (bound : ℕ) (es new : List (List ℕ × List ℕ)) (test : List ℕ → Bool) → new ≡ remove_entry test es → AllByRecursion (λ e. length e.1 ≤ bound) es → AllByRecursion (λ e. length e.1 ≤ bound) new
lens_cut bound es new test cut h = subst (AllByRecursion (λ e. length e.1 ≤ bound)) (sym cut) (all_left (λ e. length e.1 ≤ bound) es test h)

-- where all else stays, only these parts are others
pub others_stay : {O : Type 0} (new old : FilesState O) → new.outside ≡ old.outside → new.form ≡ old.form → new.managed ≡ old.managed → new.collections ≡ old.collections → new.locked ≡ old.locked
    → new ≡ record old { open_files = new.open_files; left = new.left }
others_stay {O} new old outside form managed collections locked =
    ap (λ (o : O). files o new.form new.managed new.collections new.locked) outside
    ∙ ap (λ (f : IndexForm). files old.outside f new.managed new.collections new.locked) form
    ∙ ap (λ (names : List (List ℕ)). files old.outside old.form names new.collections new.locked) managed
    ∙ ap (λ (c : Collections). files old.outside old.form old.managed c new.locked) collections
    ∙ ap (λ (b : Bool). files old.outside old.form old.managed old.collections b) locked where
      files : O → IndexForm → List (List ℕ) → Collections → Bool → FilesState O
      files o f names c b = record { outside = o; form = f; managed = names; collections = c; open_files = new.open_files; left = new.left; locked = b }

some_or : {X : Type 0} (b : Bool) (x : X) (rest : Option X) → is_some (cond b (Some x) rest) ≡ (b || is_some rest)
some_or true x rest = refl
some_or false x rest = refl

-- the names of entries are those at which something stands
pub has_keys : {X : Type 0} (es : List (List ℕ × X)) (n : List ℕ) → has (map (λ e. e.0) es) n ≡ is_some (at es n)
has_keys [] n = refl
has_keys (e ∷ es) n = rw (is_by_order n e.0, has_keys es n) (sym (some_or (is_at (byte_cmp n) e.0) e.1 (at es n)))
