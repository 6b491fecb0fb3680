use Rattle.std.proofs.Common.{rules, tests, ◌∙◌, sym, nat_lt}
use Rattle.std.proofs.lemmas.Iterator.{YieldsList-from_slice}
use Rattle.std.proofs.lemmas.Iterator.Search.{all_from_yields_List}
use Rattle.std.proofs.lemmas.List.Folds.{list_all-map}
use Rattle.tv_framing.specs.declared.address.FileAddr.{FileAddr}
use Rattle.tv_framing.specs.declared.starts.Start.{Start}
use Rattle.tv_framing.proofs.starts.are_below.Goals as goal

pub returns : goal.returns
returns c =
    all_from_yields_List (λ start. nat_lt start.addr.field c.args.n) _ _ c.all.result c.all.ensures.ran (YieldsList-from_slice c.args.starts.now cc) (λ x b q k. search (rules, tests))
    ∙ sym (list_all-map (λ (addr : FileAddr). nat_lt addr.field c.args.n) (λ (start : Start). start.addr) c.args.starts.now)
