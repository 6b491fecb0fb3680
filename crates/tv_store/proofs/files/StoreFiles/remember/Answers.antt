use Rattle.std.proofs.Common.{ap, sym, subst}
use Rattle.std.specs.Prelude.{IsSome}
use Rattle.tv_machine.specs.Index.{IsFileOf}
use Rattle.tv_store.proofs.KnownFiles.{may_know}
use Rattle.tv_store.proofs.files.StoreFiles.remember.Goals as goal

pub invariant_of-self : goal.invariant_of-self
invariant_of-self g c =
    let D = g.O.Directory in (
      c.self.invariant.0,
      c.self.invariant.1,
      λ tells.
          may_know (D.view c.self.inside.index.directory.0).reads c.self.inside.known.keys _ c.args.name c.insert-added.result c.insert-added.ensures.keys c.insert-added.ensures.err
          (subst (λ o. IsFileOf c.args.name × IsSome ((D.view o).reads c.args.name)) (sym (ap (λ v. v.outside) c.self.view_is)) (c.requires tells)) (c.self.invariant.2 tells),
    )
