use Rattle.std.proofs.Common.{rules, Bool, sym, ap, subst, ◌∙◌}
use Rattle.tv_formats.specs.Collections.{collection_at}
use Rattle.tv_managed.specs.Collecting.{NotesFirst, Steps, is_done}
use Rattle.std.proofs.lemmas.Result.{IfOk-from_err}
use Rattle.tv_managed.proofs.Stepping.{step_same, step_told, step_wanted}
use Rattle.tv_managed.proofs.Deleting.{changes_none, steps_wanted}
use Rattle.tv_managed.proofs.Results.{handed}
use Rattle.tv_managed.proofs.managed_directory.ManagedDirectory.collect_delete.Goals as goal

pub returns-in_err-name-clause-safe : goal.returns-in_err-name-clause-safe
returns-in_err-name-clause-safe g c = λ tells next. step_same is_done g.D.Directory next.name c.args.self.now c.from_residual.result (IfOk-from_err c.from_residual.result _ c.from_residual.ensures.0)

pub returns-in_err-is_done-clause-safe : goal.returns-in_err-is_done-clause-safe
returns-in_err-is_done-clause-safe g c = λ tells next.
    step_wanted g.D.Directory next.name c.in_err-is_done.field-0.0 c.from_residual-in_err-is_done.result (search rules) (c.in_err-is_done.ensures.safe tells next)

pub returns-clause-steps : goal.returns-clause-steps
returns-clause-steps g c =
    let D = g.D.Directory in
    let old = c.args.self.now in
    let new = c.try_next.new.self in
    record {
      ok = λ next. record {
        told = c.new.ensures.told ∙ c.in_ok-name.ensures.first next.collection next.name next.left (ap (λ v. collection_at v.1.collections c.args.id) c.self.view_is ∙ next.there) next.first;
        noted = subst (λ (gone : Bool). NotesFirst D old new next gone) (sym c.new.ensures.done) (c.in_ok-is_done.ensures.notes next);
      };
      memory = tt;
      err = tt;
    }

pub returns-clause-safe : goal.returns-clause-safe
returns-clause-safe g c = λ tells next.
    step_told g.D.Directory next.name c.in_ok-is_done.is_done c.new.result c.new.ensures.done (c.in_ok-is_done.ensures.safe tells next)

pub returns-in_err-name-clause-steps : goal.returns-in_err-name-clause-steps
returns-in_err-name-clause-steps g c =
    handed (Steps g.D.Directory c.args.id c.args.self.now c.args.self.now) c.from_residual.result _ c.from_residual.ensures.1 (steps_wanted g.D.Directory c.args.id (changes_none g.D.Directory c.args.self.now))

pub returns-in_err-is_done-clause-steps : goal.returns-in_err-is_done-clause-steps
returns-in_err-is_done-clause-steps g c =
    handed (Steps g.D.Directory c.args.id c.args.self.now c.try_next.new.self) c.from_residual-in_err-is_done.result _ c.from_residual-in_err-is_done.ensures.1 (steps_wanted g.D.Directory c.args.id c.in_err-is_done.ensures.err)
