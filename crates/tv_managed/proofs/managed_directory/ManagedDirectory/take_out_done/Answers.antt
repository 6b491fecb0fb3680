use Rattle.std.proofs.Common.{◌≡◌, ap, sym, subst, ◌∙◌, Ok}
use Rattle.tv_formats.specs.Collections.{collection_at, without}
use Rattle.tv_formats.proofs.Options.{some_value}
use Rattle.tv_managed.specs.Collecting.{names_of}
use Rattle.tv_managed.specs.Crashes.{CutsList}
use Rattle.tv_managed.specs.Names.{AreManaged}
use Rattle.tv_managed.proofs.Cutting.{cuts_none}
use Rattle.tv_managed.proofs.Shortening.{cloned, shortens_as, shortens_none}
use Rattle.tv_managed.proofs.managed_directory.ManagedDirectory.take_out_done.Goals as goal

pub without_done-left-requires-clause-managed : goal.without_done-left-requires-clause-managed
without_done-left-requires-clause-managed g c = subst AreManaged (sym (cloned _ _ c.in_ok-managed.ensures.cases)) c.self.invariant

pub returns-then-not-has_done-clause-shortens : goal.returns-then-not-has_done-clause-shortens
returns-then-not-has_done-clause-shortens g c d at =
    shortens_none g.D.Directory d.done c.args.self.now (tt {0}) (c.has_done.ensures.none d (ap (λ v. collection_at v.1.collections c.args.id) c.self.view_is ∙ at) c.if-not-has_done.true)

pub returns-then-not-has_done-clause-safe : goal.returns-then-not-has_done-clause-safe
returns-then-not-has_done-clause-safe g c = λ tells d at. cuts_none g.D.Directory _ c.args.self.now (Ok (tt {0}))

pub returns-in_err-managed-clause-safe : goal.returns-in_err-managed-clause-safe
returns-in_err-managed-clause-safe g c = λ tells d at. cuts_none g.D.Directory _ c.args.self.now c.from_residual.result

pub save_shorter-requires : goal.save_shorter-requires
save_shorter-requires g c =
    let some = some_value _ c.requires in
    let d = some.0 in
    (d.done, c.without_done-left.ensures d (ap (λ v. collection_at v.1.collections c.args.id) c.self.view_is ∙ some.1) ∙ ap (without d.done) (cloned _ _ c.in_ok-managed.ensures.cases ∙ ap (λ v. v.1.managed) c.self.view_is))

pub returns-clause-shortens : goal.returns-clause-shortens
returns-clause-shortens g c d at =
    let same : names_of c.without_done-left.result.keys ≡ without d.done c.args.self.now.1.managed = c.without_done-left.ensures d (ap (λ v. collection_at v.1.collections c.args.id) c.self.view_is ∙ at) ∙ ap (without d.done) (cloned _ _ c.in_ok-managed.ensures.cases ∙ ap (λ v. v.1.managed) c.self.view_is) in
    shortens_as g.D.Directory c.save_shorter.result same c.save_shorter.ensures.shortens

pub returns-clause-safe : goal.returns-clause-safe
returns-clause-safe g c = λ tells d at.
    let same : names_of c.without_done-left.result.keys ≡ without d.done c.args.self.now.1.managed = c.without_done-left.ensures d (ap (λ v. collection_at v.1.collections c.args.id) c.self.view_is ∙ at) ∙ ap (without d.done) (cloned _ _ c.in_ok-managed.ensures.cases ∙ ap (λ v. v.1.managed) c.self.view_is) in
    subst (λ l. CutsList g.D.Directory l c.args.self.now c.save_shorter.new.self c.save_shorter.result) same (c.save_shorter.ensures.safe tells)
