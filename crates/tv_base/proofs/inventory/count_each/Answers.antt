use Rattle.std.proofs.Common.{rules}
use Rattle.std.proofs.lemmas.Map.Made.{map_same_pairs}
use Rattle.tv_base.specs.Keyed.{counted}
use Rattle.tv_base.proofs.inventory.count_each.Goals as goal

pub returns : goal.returns
returns g c = map_same_pairs _ counted _ (λ k v b w f' t. search rules) _ _ c.retain.ensures.filtered
