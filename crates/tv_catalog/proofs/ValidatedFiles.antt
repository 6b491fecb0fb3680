-- A validation, one file further.
use Rattle.std.proofs.Common.{◌≡◌, ◌≤◌, ◌+◌, ◌<◌, ◌⊎◌, inl, inr, ℕ, true, List, [], ◌∷◌, ◌++◌, length, filter, get_or, take, codes, Option, Some, None, refl, sym, ap, ◌∙◌, arith}
use Rattle.std.specs.List.{flat_map, AllByRecursion}
use Rattle.std.proofs.lemmas.List.{take_more}
use Rattle.tv_formats.specs.Commits.{IsSegment}
use Rattle.tv_formats.specs.Names.{has}
use Rattle.tv_formats.specs.Segments.{segment_names}
use Rattle.tv_formats.specs.declared.segment.LiveSegment.{LiveSegment}
use Rattle.tv_machine.specs.Index.{IsFileOf}
use Rattle.tv_events.specs.AnswerLines.{line}
use Rattle.tv_machine.specs.ReportEvents.{damaged_files, first_unreadable, validated}
use Rattle.tv_machine.specs.State.{State}
use Rattle.tv_catalog.proofs.SharedLaws.{line_len, words_len, words_append}
use Rattle.tv_catalog.proofs.AnswerRoom.{one_less}
use Rattle.tv_catalog.proofs.ReportEvents.{all_had, all_passed, names_are_files}
use Rattle.tv_catalog.specs.Actions.{line_of, unless_unread}
use Rattle.tv_catalog.specs.declared.action.Reply.{Reply}
use Rattle.tv_catalog.specs.declared.action.Reply.TheVariants as replies

-- ---- room

-- names, one further
pub words_further : (names : List (List ℕ)) (i : ℕ) (name : List ℕ) → i < length names → name ≡ get_or names i name → words_len (take (i + 1) names) ≡ words_len (take i names) + (length name + 1)
words_further names i name within is =
    omega (arith, ap words_len (take_more names i name within ∙ ap (λ (n : List ℕ). take i names ++ n ∷ []) (sym is)), words_append (take i names) (name ∷ []))

-- all of them
pub words_all : (names : List (List ℕ)) (i n : ℕ) → take i names ≡ names → n ≡ words_len (take i names) → n ≡ length (line [] names)
words_all names i n all is = omega (arith, is, ap words_len all, line_len [] names)

-- the line of what a validation may give fits, where there is room for all names behind the longer words
pub validated_fits : (names : List (List ℕ)) (reply : Reply) (room : ℕ) → length (line [] names) + 18 ≤ room
    → ((damaged : List (List ℕ)) × (length (line [] damaged) ≤ length (line [] names)) × (reply ≡ replies.Damaged damaged)) ⊎ ((name : List ℕ) × (has names name ≡ true) × (reply ≡ replies.Unreadable name))
    → length (line_of (codes "damaged") reply) ≤ room
validated_fits names reply room fits (inl (damaged, short, e)) =
    let word : length (codes "damaged") ≡ 7 = refl in
    omega (arith, ap (λ (r : Reply). length (line_of (codes "damaged") r)) e, word, short, fits, line_len (codes "damaged") damaged, line_len [] damaged)
validated_fits names reply room fits (inr (name, among, e)) =
    let words : length (codes "refused") ≡ 7 = refl in
    let word : length (codes "unreadable") ≡ 10 = refl in
    omega (arith, ap (λ (r : Reply). length (line_of (codes "damaged") r)) e, words, word, fits, line_len (codes "refused") (codes "unreadable" ∷ name ∷ []), line_len [] names, one_less name names among)

-- ---- the plan

-- the step says what is found
pub planned_validate : (s : State) (names : List (List ℕ)) (told : List ℕ) → told ≡ codes "damaged" → validated s names ≡ (line_of told (unless_unread (first_unreadable s names) (damaged_files s names)), s)
planned_validate s names told is = by_found (first_unreadable s names) refl where
  by_found : (found : Option (List ℕ)) → first_unreadable s names ≡ found → validated s names ≡ (line_of told (unless_unread (first_unreadable s names) (damaged_files s names)), s)
  by_found None e = rw (e, is) refl
  by_found (Some name) e = rw e refl

-- what is looked at are files of segments
pub files_committed : (segments : List (List ℕ × LiveSegment)) (managed : List (List ℕ)) → AllByRecursion IsSegment segments → AllByRecursion IsFileOf (filter (λ name. has (flat_map segment_names segments) name) managed)
files_committed segments managed sound =
    all_passed IsFileOf (λ name. has (flat_map segment_names segments) name) managed (λ n e. all_had IsFileOf (flat_map segment_names segments) n (names_are_files segments sound) e)
