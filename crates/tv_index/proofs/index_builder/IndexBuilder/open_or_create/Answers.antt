use Rattle.std.proofs.Common.{List, ℕ, Option, subst, sym}
use Rattle.tv_index.specs.Building.{Builder, BuildsSafely}
use Rattle.tv_index.specs.Crashes.{LacksMeta}
use Rattle.tv_index.proofs.index_builder.IndexBuilder.open_or_create.Goals as goal

pub returns-in-Some-clause-safe : goal.returns-in-Some-clause-safe
returns-in-Some-clause-safe g c t =
    subst (λ (builder : Builder). BuildsSafely g.D.Directory (LacksMeta g.D.Directory c.args.directory) builder c.args.directory c.open_or_create_with.result) c.self.view_is
    (subst (λ (schema : Option (List ℕ)). BuildsSafely g.D.Directory (LacksMeta g.D.Directory c.args.directory) (record { settings = c.self.inside.settings; schema = schema }) c.args.directory c.open_or_create_with.result) (sym c.in-Some.is) (c.open_or_create_with.ensures.safe t))
