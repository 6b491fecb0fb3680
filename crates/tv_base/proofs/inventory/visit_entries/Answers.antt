use Rattle.std.proofs.Common.{rules}
use Rattle.tv_base.proofs.KeyedLaws.{visited_each}
use Rattle.tv_base.proofs.inventory.visit_entries.Goals as goal

pub returns-clause-keyed : goal.returns-clause-keyed
returns-clause-keyed g c =
    (visited_each g.T.Visit.visited _ (λ f k v b w f' t. search rules) _ _ _ c.retain.ensures.filtered c.requires).0

pub returns-clause-visited : goal.returns-clause-visited
returns-clause-visited g c =
    (visited_each g.T.Visit.visited _ (λ f k v b w f' t. search rules) _ _ _ c.retain.ensures.filtered c.requires).1
