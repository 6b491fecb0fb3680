-- A validation, one file further.
use Rattle.std.proofs.Common.{◌≡◌, ◌≤◌, ◌+◌, ℕ, false, List, [], ◌∷◌, ◌++◌, length, Option, Some, None, sym, ap, ◌∙◌, arith, append_assoc}
use Rattle.tv_formats.specs.Commits.{Commit}
use Rattle.tv_events.specs.AnswerLines.{line}
use Rattle.tv_machine.specs.ReportEvents.{damaged_files, first_unreadable, intact_at}
use Rattle.tv_machine.specs.State.{State, file_at}
use Rattle.tv_catalog.proofs.SharedLaws.{line_len, words_len, words_append}
use Rattle.tv_catalog.specs.Actions.{unless_unread}
use Rattle.tv_catalog.specs.declared.action.Reply.{Reply}
use Rattle.tv_catalog.specs.declared.action.Reply.TheVariants as replies

-- what a validation gives that found these to be damaged and has these names left
abbrev pub report : State → (damaged names : List (List ℕ)) → Reply
report s damaged names = unless_unread (first_unreadable s names) (damaged ++ damaged_files s names)

pub report_damaged : (s : State) (damaged rest : List (List ℕ)) (name : List ℕ) → intact_at (file_at s name) ≡ Some false → report s damaged (name ∷ rest) ≡ report s (damaged ++ name ∷ []) rest
report_damaged s damaged rest name e = rw e (ap (unless_unread (first_unreadable s rest)) (sym (append_assoc damaged (name ∷ []) (damaged_files s rest))))

-- ---- room

-- one name more, out of those that are left
pub shorter : (damaged rest names : List (List ℕ)) (name : List ℕ) → words_len damaged + words_len (name ∷ rest) ≤ words_len names → words_len (damaged ++ name ∷ []) + words_len rest ≤ words_len names
shorter damaged rest names name h = omega (arith, words_append damaged (name ∷ []), h)

-- no line of damaged files is longer than that of all
pub short_line : (damaged names : List (List ℕ)) → words_len damaged + words_len [] ≤ words_len names → length (line [] damaged) ≤ length (line [] names)
short_line damaged names h = omega (arith, line_len [] damaged, line_len [] names, h)

-- it saves no commit
pub unsaved_report : (s : State) (names : List (List ℕ)) (commit : Commit) (reply : Reply) → reply ≡ unless_unread (first_unreadable s names) (damaged_files s names) → reply ≡ replies.Saved commit → ⊥
unsaved_report s names commit reply is e = none (first_unreadable s names) (sym is ∙ e) where
  none : (found : Option (List ℕ)) → unless_unread found (damaged_files s names) ≡ replies.Saved commit → ⊥
  none None h = absurd cc
  none (Some name) h = absurd cc
