use Rattle.std.proofs.Common.{List, ℕ, refl, sym, ap, subst, ◌∙◌, map, string_bytes, Ok, Err}
use Rattle.tv_managed.specs.Collecting.{names_of}
use Rattle.tv_base.specs.declared.io.IoError.{IoError}
use Rattle.tv_managed.specs.Crashes.{ShortensSafely, ShortensStates}
use Rattle.tv_managed.specs.Names.{AreManaged, ManagedNames}
use Rattle.tv_managed.proofs.Cutting.{cuts, cuts_refused, may_cut}
use Rattle.tv_managed.proofs.Removals.{still_managed}
use Rattle.tv_managed.proofs.SetsOfTexts.{list_of}
use Rattle.tv_managed.proofs.Shortening.{saves_from, shortens}
use Rattle.tv_managed.proofs.managed_directory.ManagedDirectory.save_shorter.Goals as goal

with_managed : List (List ℕ) → ManagedNames → ManagedNames
with_managed left names = record names { managed = left }

pub invariant_of-self : goal.invariant_of-self
invariant_of-self g c =
    subst AreManaged (sym c.requires.1) (still_managed _ c.requires.0 (subst AreManaged (ap (λ v. v.1.managed) c.self.view_is ∙ ap (λ v. v.managed) c.in_ok-sync_directory.ensures.frame.names) c.self.invariant))

pub returns-in_err-sync_directory-clause-safe : goal.returns-in_err-sync_directory-clause-safe
returns-in_err-sync_directory-clause-safe g c = λ tells. cuts_refused g.D.Directory (names_of c.args.left.keys) c.args.self.now c.sync_directory.new.self c.from_residual.result c.in_err-sync_directory.ensures.frame.names (c.in_err-sync_directory.ensures.safe tells).states

pub returns-in-Ok-clause-shortens : goal.returns-in-Ok-clause-shortens
unfolding with_managed
returns-in-Ok-clause-shortens g c =
    let sync = c.in_ok-sync_directory.ensures in
    let names = ap (λ v. v.1) c.self.view_is ∙ sync.frame.names in
    let managed : AreManaged (names_of c.args.left.keys) = subst AreManaged (sym c.requires.1) (still_managed _ c.requires.0 (subst AreManaged (ap (λ v. v.managed) names) c.self.invariant)) in
    shortens g.D.Directory (names_of c.args.left.keys) c.args.self.now c.sync_directory.new.self (c.save_managed_paths.new.directory, record { managed = names_of c.args.left.keys; collections = c.self.inside.collections }) c.self.inside.directory _ sync.frame sync.faults.quiet
    (ap (λ v. v.0) c.self.view_is) c.in-Ok.ensures.saves (list_of c.args.left.keys _ refl managed) (ap (with_managed (names_of c.args.left.keys)) names) tt

pub returns-in-Err-clause-shortens : goal.returns-in-Err-clause-shortens
returns-in-Err-clause-shortens g c =
    let sync = c.in_ok-sync_directory.ensures in
    let names = ap (λ v. v.1) c.self.view_is ∙ sync.frame.names in
    let managed : AreManaged (names_of c.args.left.keys) = subst AreManaged (sym c.requires.1) (still_managed _ c.requires.0 (subst AreManaged (ap (λ v. v.managed) names) c.self.invariant)) in
    shortens g.D.Directory (names_of c.args.left.keys) c.args.self.now c.sync_directory.new.self (c.save_managed_paths.new.directory, record { managed = map string_bytes c.self.inside.managed.keys; collections = c.self.inside.collections }) c.self.inside.directory _ sync.frame sync.faults.quiet
    (ap (λ v. v.0) c.self.view_is) c.in-Err.ensures.saves (list_of c.args.left.keys _ refl managed) tt names

pub returns-in-Ok-clause-safe : goal.returns-in-Ok-clause-safe
unfolding with_managed
returns-in-Ok-clause-safe g c = λ tells lacks.
    let D = g.D.Directory in
    let left = names_of c.args.left.keys in
    let names = ap (λ v. v.1) c.self.view_is ∙ c.in_ok-sync_directory.ensures.frame.names in
    let was = subst AreManaged (ap (λ v. v.managed) names) c.self.invariant in
    let managed : AreManaged left = subst AreManaged (sym c.requires.1) (still_managed _ c.requires.0 was) in
    let saves = saves_from D _ c.self.view_is (c.in-Ok.ensures.images tells) in
    subst (λ v. ShortensSafely {E = IoError} D (ShortensStates D left c.args.self.now (c.save_managed_paths.new.directory, v)) c.args.self.now (c.save_managed_paths.new.directory, v) (Ok (tt {0}))) (sym (ap (with_managed left) names))
    (cuts D c.args.self.now c.sync_directory.new.self.0 c.save_managed_paths.new.directory left _ _ (c.in_ok-sync_directory.ensures.safe tells).states saves (list_of c.args.left.keys _ refl managed) lacks was.plain (tt {0}) saves.ok)

pub returns-in-Err-clause-safe : goal.returns-in-Err-clause-safe
returns-in-Err-clause-safe g c = λ tells lacks.
    let D = g.D.Directory in
    let left = names_of c.args.left.keys in
    let names = ap (λ v. v.1) c.self.view_is ∙ c.in_ok-sync_directory.ensures.frame.names in
    let was = subst AreManaged (ap (λ v. v.managed) names) c.self.invariant in
    let managed : AreManaged left = subst AreManaged (sym c.requires.1) (still_managed _ c.requires.0 was) in
    let saves = saves_from D _ c.self.view_is (c.in-Err.ensures.images tells) in
    subst (λ v. ShortensSafely {A = Unit {0}} D (ShortensStates D left c.args.self.now (c.save_managed_paths.new.directory, v)) c.args.self.now (c.save_managed_paths.new.directory, v) (Err c.in-Err.error)) (sym names)
    (may_cut D c.args.self.now c.sync_directory.new.self.0 c.save_managed_paths.new.directory left _ _ (c.in_ok-sync_directory.ensures.safe tells).states saves (list_of c.args.left.keys _ refl managed) lacks was.plain c.in-Err.error)
