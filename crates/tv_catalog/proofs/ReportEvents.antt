-- The event that reports on files: whether a file is intact, by what the directory answers and by what is held, and which files are looked at.
use Rattle.std.proofs.Common.{◌≡◌, ℕ, Bool, true, false, cond, List, [], ◌∷◌, filter, refl, ap, subst}
use Rattle.std.specs.List.{flat_map, AllByRecursion}
use Rattle.tv_formats.specs.declared.segment.LiveSegment.{LiveSegment}
use Rattle.tv_formats.specs.Commits.{IsSegment}
use Rattle.tv_machine.specs.Index.{IsFileOf}
use Rattle.tv_formats.specs.Segments.{segment_names, components}
use Rattle.tv_formats.specs.Names.{has, is}
use Rattle.tv_formats.proofs.Entries.{is_text}
use Rattle.tv_formats.proofs.Required.{by_one}
use Rattle.tv_snapshots.proofs.ListLaws.{all_joined}
use Rattle.tv_catalog.proofs.SharedLaws.{files_named}

-- ---- the files that are looked at

-- tests that agree pass the same names
pub filter_same : (p q : List ℕ → Bool) (names : List (List ℕ)) → ((n : List ℕ) → p n ≡ q n) → filter p names ≡ filter q names
filter_same p q [] h = refl
filter_same p q (x ∷ names) h =
    rw (h x) (ap (λ (rest : List (List ℕ)). cond (q x) (x ∷ rest) rest) (filter_same p q names h))

pub all_had : (P : List ℕ → Type 0) (names : List (List ℕ)) (n : List ℕ) → AllByRecursion P names → has names n ≡ true → P n
all_had P [] n h e = absurd cc
all_had P (x ∷ names) n h e = by_one (is x n) (has names n) e (λ t. subst P (is_text x n t) h.0) (λ t. all_had P names n h.1 t)

passed : (P : List ℕ → Type 0) (b : Bool) (x : List ℕ) (xs : List (List ℕ)) → (b ≡ true → P x) → AllByRecursion P xs → AllByRecursion P (cond b (x ∷ xs) xs)
passed P true x xs here h = (here refl, h)
passed P false x xs here h = h

pub all_passed : (P : List ℕ → Type 0) (test : List ℕ → Bool) (names : List (List ℕ)) → ((n : List ℕ) → test n ≡ true → P n) → AllByRecursion P (filter test names)
all_passed P test [] h = tt
all_passed P test (x ∷ names) h = passed P (test x) x (filter test names) (h x) (all_passed P test names h)

pub names_are_files : (segments : List (List ℕ × LiveSegment)) → AllByRecursion IsSegment segments → AllByRecursion IsFileOf (flat_map segment_names segments)
names_are_files [] h = tt
names_are_files (e ∷ segments) h = all_joined IsFileOf (segment_names e) (flat_map segment_names segments) (files_named e.0 e.1.deletes components h.0.id) (names_are_files segments h.1)
