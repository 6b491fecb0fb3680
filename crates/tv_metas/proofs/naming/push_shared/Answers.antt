use Rattle.std.proofs.Common.{◌∙◌, ◌++◌, ℕ, List, true, false, map, string_bytes, sym, ap, append-nil}
use Rattle.tv_metas.proofs.SharedNames.{is_shared, ok_as}
use Rattle.tv_metas.proofs.naming.push_shared.Goals as goal

pub returns-then-has_name : goal.returns-then-has_name
returns-then-has_name c =
    ok_as c.push_text.result _ _ (λ is. is ∙ ap (λ (more : List (List ℕ)). c.args.names.now.items ++ more)
    (is_shared (map string_bytes c.args.others.now.keys) (string_bytes c.args.text.now) c.as_str.result.now true c.if-has_name.ensures c.as_str.ensures.value)) c.push_text.ensures

pub returns : goal.returns
returns c =
    sym (append-nil c.args.names.now.items) ∙ ap (λ (more : List (List ℕ)). c.args.names.now.items ++ more)
    (is_shared (map string_bytes c.args.others.now.keys) (string_bytes c.args.text.now) c.as_str.result.now false c.if-has_name.ensures c.as_str.ensures.value)
