use Rattle.tv_index.specs.NewForms.{form_with}
use Rattle.std.proofs.Common.{refl, sym, ap, is_some, ◌∙◌}
use Rattle.tv_store.proofs.OpenFiles.{left_files, is_open, isnt_open, one_less}
use Rattle.tv_store.proofs.files.StoreFiles.abandon.Goals as goal

pub invariant_of-self : goal.invariant_of-self
invariant_of-self g c = left_files g.O.Directory c.self.inside.index.directory c.self.inside.files.entries c.remove.new.self.entries c.self.inside.known.keys _ c.remove.ensures.entries c.self.invariant

pub returns-clause-found : goal.returns-clause-found
returns-clause-found g c =
    sym (is_open (λ w. (g.O.Directory.state_of w).written) c.self.inside.files.entries c.args.self.now.open_files c.args.name.now c.is_some.result (ap (λ v. v.open_files) c.self.view_is) (c.is_some.ensures ∙ ap is_some c.remove.ensures.value))

pub returns-clause-abandoned : goal.returns-clause-abandoned
returns-clause-abandoned g c =
    one_less (λ w. (g.O.Directory.state_of w).written) c.self.inside.index.directory.0 (form_with c.self.inside.index.settings c.self.inside.index.schema) c.self.inside.index.directory.1.managed c.self.inside.index.directory.1.collections c.self.inside.files.entries c.remove.new.self.entries c.self.inside.left.keys c.args.self.now _ c.remove.ensures.entries c.self.view_is

pub returns-clause-closed : goal.returns-clause-closed
returns-clause-closed g c = isnt_open (λ w. (g.O.Directory.state_of w).written) c.remove.new.self.entries _ c.args.name.now refl (sym c.remove.ensures.updates.1)
