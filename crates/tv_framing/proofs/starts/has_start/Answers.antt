use Rattle.std.proofs.Common.{rules, tests, ◌∙◌, sym}
use Rattle.std.proofs.lemmas.Iterator.{YieldsList-from_slice}
use Rattle.std.proofs.lemmas.Iterator.Search.{any_from_yields_List}
use Rattle.tv_framing.specs.Composite.{is_at}
use Rattle.tv_framing.proofs.Parts.{any_start}
use Rattle.tv_framing.proofs.starts.has_start.Goals as goal

pub returns : goal.returns
returns c =
    any_from_yields_List (λ start. is_at c.args.addr.now start.addr) _ _ c.any.result c.any.ensures.ran (YieldsList-from_slice c.args.starts.now cc) (λ x b q k. search (rules, tests))
    ∙ sym (any_start (is_at c.args.addr.now) c.args.starts.now)
