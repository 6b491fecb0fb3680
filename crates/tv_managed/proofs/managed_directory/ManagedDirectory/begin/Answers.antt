use Rattle.std.proofs.Common.{subst, sym, refl, rules, ℕ, Ok}
use Rattle.tv_device.specs.View.{OnlyReads}
use Rattle.tv_device.specs.ViewLaws.{kept_itself}
use Rattle.tv_base.specs.declared.error.TantivyError.{TantivyError}
use Rattle.tv_managed.specs.Crashes.{SettlesStates}
use Rattle.tv_managed.proofs.Giving.{settled_so, settles_none}
use Rattle.tv_managed.proofs.Touching.{keeps_same}
use Rattle.tv_managed.proofs.managed_directory.ManagedDirectory.begin.Goals as goal

pub returns-then-is_spent-clause-frame : goal.returns-then-is_spent-clause-frame
returns-then-is_spent-clause-frame g c = record { kept = kept_itself _ _; content = λ t n. refl }

pub returns-then-is_spent-clause-images : goal.returns-then-is_spent-clause-images
returns-then-is_spent-clause-images g c = λ tells. settles_none (keeps_same _) tt

pub returns-in_err-sync_directory-clause-frame : goal.returns-in_err-sync_directory-clause-frame
returns-in_err-sync_directory-clause-frame g c = c.sync_directory.ensures.frame.below

pub returns-in_err-sync_directory-clause-images : goal.returns-in_err-sync_directory-clause-images
returns-in_err-sync_directory-clause-images g c = λ tells. settled_so (c.sync_directory.ensures.safe tells).states (search rules)

pub returns-in_err-begin-clause-frame : goal.returns-in_err-begin-clause-frame
returns-in_err-begin-clause-frame g c =
    subst (λ v. OnlyReads g.D.Directory.told (g.D.Directory.view c.args.self.now.0) (g.D.Directory.view v.0)) (sym c.self-2.view_is) c.sync_directory.ensures.frame.below

pub returns-in_err-begin-clause-images : goal.returns-in_err-begin-clause-images
returns-in_err-begin-clause-images g c = λ tells.
    subst (λ v. SettlesStates (g.D.Directory.disk c.args.self.now.0) (g.D.Directory.disk v.0) c.from_residual-in_err-begin.result) (sym c.self-2.view_is) (settled_so (c.sync_directory.ensures.safe tells).states (search rules))

pub returns-clause-frame : goal.returns-clause-frame
returns-clause-frame g c =
    subst (λ v. OnlyReads g.D.Directory.told (g.D.Directory.view c.args.self.now.0) (g.D.Directory.view v.0)) (sym c.self-2.view_is) c.sync_directory.ensures.frame.below

pub returns-clause-images : goal.returns-clause-images
returns-clause-images g c = λ tells.
    let sync = (c.in_ok-sync_directory.ensures.safe tells).states in
    subst (λ v. SettlesStates {A = ℕ} {E = TantivyError} (g.D.Directory.disk c.args.self.now.0) (g.D.Directory.disk v.0) (Ok c.in_ok-begin.field-0)) (sym c.self-2.view_is) (settled_so sync sync.ok)
