use Rattle.std.proofs.Common.{List, ℕ, Option, subst, sym}
use Rattle.tv_index.specs.Building.{Builder, BuildsSafely}
use Rattle.tv_index.proofs.index_builder.IndexBuilder.create.Goals as goal

pub returns-in-Some-clause-safe : goal.returns-in-Some-clause-safe
returns-in-Some-clause-safe g c t =
    subst (λ (builder : Builder). BuildsSafely g.D.Directory (Unit {0}) builder c.args.directory c.create.result) c.self.view_is
    (subst (λ (schema : Option (List ℕ)). BuildsSafely g.D.Directory (Unit {0}) (record { settings = c.self.inside.settings; schema = schema }) c.args.directory c.create.result) (sym c.in-Some.is) (c.create.ensures.safe t))
