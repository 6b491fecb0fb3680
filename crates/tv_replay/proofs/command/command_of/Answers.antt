use Rattle.std.proofs.Common.{List, ℕ, [], ◌∷◌, codes, string_bytes, sym, ap, ◌∙◌, arith, subst}
use Rattle.tv_replay.specs.Commands.{IsCommandOf}
use Rattle.tv_replay.proofs.CommandWords.{are_generate, no_command, three_words}
use Rattle.tv_script.proofs.Numbers.{number_found}
use Rattle.tv_replay.proofs.command.command_of.Goals as goal

pub returns-in_err-commits_of-in-len2 : goal.returns-in_err-commits_of-in-len2
returns-in_err-commits_of-in-len2 c =
    let are = are_generate string_bytes c.args.words.now c.command-item.result c.number-item.result c.as_str.result.now c.as_str-in-len2.result.now c.in-len2.len_at_least c.in-len2.len_below c.command-item.is c.number-item.is
    c.as_str.ensures.value c.as_str-in-len2.ensures.value c.if-eq.ensures in
    rw c.from_residual.ensures (no_command _ c.as_str-in-len2.result.now are (sym c.commits_of.ensures ∙ c.in_err-commits_of-in-len2.was))

pub returns-in_ok-commits_of-in-len2 : goal.returns-in_ok-commits_of-in-len2
returns-in_ok-commits_of-in-len2 c =
    let are = are_generate string_bytes c.args.words.now c.command-item.result c.number-item.result c.as_str.result.now c.as_str-in-len2.result.now c.in-len2.len_at_least c.in-len2.len_below c.command-item.is c.number-item.is
    c.as_str.ensures.value c.as_str-in-len2.ensures.value c.if-eq.ensures in
    let found = number_found 1001 c.in_ok-commits_of-in-len2.field-0 c.as_str-in-len2.result.now (sym c.commits_of.ensures ∙ c.in_ok-commits_of-in-len2.was) in
    (are ∙ ap (λ (w : List ℕ). codes "generate" ∷ w ∷ []) found.0, omega (arith, found.1))

pub returns-in-len3 : goal.returns-in-len3
returns-in-len3 c =
    subst (λ (words : List (List ℕ)). IsCommandOf words c.on_folder.result) (three_words string_bytes c.args.words.now c.command-item-then-words-lt4.result c.folder-item.result c.path-item.result c.as_str-in-len3.result.now c.as_str-in-len3-2.result.now c.as_str-in-len3-3.result.now c.in-len3.len_at_least
    c.in-len3.len_below c.command-item-then-words-lt4.is c.folder-item.is c.path-item.is c.as_str-in-len3.ensures.value c.as_str-in-len3-2.ensures.value c.as_str-in-len3-3.ensures.value) c.on_folder.ensures
