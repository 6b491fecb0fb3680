use Rattle.std.proofs.Common.{ap, ◌∙◌, arith}
use Rattle.tv_reader.specs.StoreBodies.{store_space}
use Rattle.tv_reader.proofs.StoreBodies.{space_is}
use Rattle.tv_reader.proofs.store_reader.StoreReader.space_usage.Goals as goal

pub returns : goal.returns
returns c = record {
  usage = space_is c.self.inside.body c.self.inside.places.items _ _ _ c.self.invariant c.len-len.ensures.length (omega (arith, c.self.inside.places.ok.0)) c.new.ensures.usage
      ∙ ap store_space c.self.view_is;
}
