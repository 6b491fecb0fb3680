use Rattle.std.proofs.Common.{◌++◌, sym, ap, subst, ◌∙◌}
use Rattle.tv_formats.specs.Collections.{held}
use Rattle.tv_managed.specs.Collecting.{names_of, taken_by, texts_of}
use Rattle.tv_managed.specs.Names.{AreManaged}
use Rattle.tv_managed.proofs.Removals.{still_managed}
use Rattle.tv_managed.proofs.managed_directory.ManagedDirectory.collection_of.Goals as goal

pub new-requires : goal.new-requires
new-requires g c =
    let living = names_of c.args.living.now.keys in
    subst AreManaged (sym (ap texts_of c.as_slice.ensures.value ∙ c.in_ok-names.ensures)) (subst (λ v. AreManaged (taken_by living v.1)) c.self.view_is (still_managed _ (living ++ held c.self.inside.collections) c.self.invariant))
