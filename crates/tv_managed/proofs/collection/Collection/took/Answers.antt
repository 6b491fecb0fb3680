use Rattle.std.proofs.Common.{rules, ◌∙◌, string_bytes}
use Rattle.std.proofs.lemmas.Fn.{always_returns_same}
use Rattle.tv_formats.specs.Names.{byte_cmp}
use Rattle.tv_managed.proofs.SetsOfTexts.{searched_texts}
use Rattle.tv_managed.proofs.collection.Collection.took.Goals as goal

pub returns : goal.returns
returns c =
    c.is_ok.ensures.value
    ∙ searched_texts c.names.result.now c.args.name.now c.binary_search_by.result c.names.ensures.managed.ordered c.binary_search_by.ensures.bound
    (c.binary_search_by.ensures.position (λ y. byte_cmp (string_bytes y) c.args.name.now) (always_returns_same _ _ _ (λ a r q k. search rules)))
    ∙ c.names.ensures.taken c.args.name.now
