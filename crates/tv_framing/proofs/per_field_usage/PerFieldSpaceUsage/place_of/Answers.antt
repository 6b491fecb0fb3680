use Rattle.std.proofs.Common.{rules}
use Rattle.std.proofs.lemmas.Fn.{always_returns_same}
use Rattle.tv_formats.specs.Names.{byte_cmp}
use Rattle.tv_framing.proofs.Gathered.{found_by}
use Rattle.tv_framing.proofs.per_field_usage.PerFieldSpaceUsage.place_of.Goals as goal

pub returns : goal.returns
returns c =
    let found = c.binary_search_by.ensures in
    let result = found.position (λ field. byte_cmp field.name c.args.name.now) (always_returns_same _ _ _ (λ a r f called. search rules)) in
    rw (← c.self.view_is, ← c.deref.ensures.value) (found_by c.args.name.now _ _ (rw c.deref.ensures.value c.self.invariant) found.bound result)
