use Rattle.std.proofs.Common.{rules, tests, sym, ap, ◌∙◌}
use Rattle.std.proofs.lemmas.Iterator.Consumers.{YieldsList-from_rest}
use Rattle.std.proofs.lemmas.Iterator.Search.{any_from_yields_List}
use Rattle.tv_formats.specs.Names.{has}
use Rattle.tv_formats.specs.Collections.{held, taken}
use Rattle.tv_managed.proofs.Collections.{held_by}
use Rattle.tv_managed.proofs.collection.Collections.holds.Goals as goal

pub returns : goal.returns
returns c =
    any_from_yields_List (λ d. has (taken d) c.args.name.now) _ _ c.any.result c.any.ensures.ran (YieldsList-from_rest _ c.values.ensures.rest) (λ x b q k. search (rules, tests))
    ∙ sym (held_by c.self.inside.unfinished.entries c.args.name.now)
    ∙ ap (λ v. has (held v) c.args.name.now) c.self.view_is
