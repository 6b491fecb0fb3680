use Rattle.std.proofs.Common.{sym, ap, subst, ◌∙◌}
use Rattle.tv_formats.specs.Collections.{held}
use Rattle.tv_formats.specs.Names.{has, meta_name}
use Rattle.tv_store.proofs.CollectingFiles.{begun_spares}
use Rattle.tv_store.specs.OpenFiles.{AreThere}
use Rattle.tv_store.proofs.KnownFiles.{same_there, still_there}
use Rattle.tv_store.proofs.OpenFiles.{still_open, AreOpen}
use Rattle.tv_managed.specs.Crashes.{LeavesSafely, SettlesStates}
use Rattle.tv_store.specs.Kept.{names_below}
use Rattle.tv_store.proofs.files.StoreFiles.collect_begin.Goals as goal

pub invariant_of-self : goal.invariant_of-self
invariant_of-self g c = (
  still_open g.O.Directory c.directory_mut.result.now.0 c.collect_begin.new.self.0 c.self.inside.files.entries c.collect_begin.ensures.frame.kept.frame.tells_none.deletes_none (subst (λ d. AreOpen g.O.Directory d.0 c.self.inside.files.entries) (sym c.directory_mut.ensures.value) c.self.invariant.0),
  begun_spares _ c.directory_mut.result.now.1 c.collect_begin.new.self.1 c.collect_begin.result c.collect_begin.ensures.begins c.collect_begin.ensures.err c.requires (ap (λ d. has (held d.1.collections) meta_name) c.directory_mut.ensures.value ∙ c.self.invariant.1),
  λ tells. still_there _ _ c.self.inside.known.keys (same_there _ _ (c.collect_begin.ensures.frame.content tells)) (subst (λ d. AreThere (g.O.Directory.view d.0).reads c.self.inside.known.keys) (sym c.directory_mut.ensures.value) (c.self.invariant.2 tells)),
)

pub returns-clause-safe : goal.returns-clause-safe
returns-clause-safe g c tells = subst (λ d. LeavesSafely g.O.Directory (SettlesStates (g.O.Directory.disk d.0) (g.O.Directory.disk c.collect_begin.new.self.0) c.collect_begin.result) d c.collect_begin.new.self) (c.directory_mut.ensures.value ∙ ap names_below c.self.view_is) (c.collect_begin.ensures.safe tells)
