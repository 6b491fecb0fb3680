use Rattle.std.proofs.Common.{true≢false, sym, ap, ◌∙◌, subst}
use Rattle.tv_formats.specs.Names.{has}
use Rattle.tv_managed.specs.Crashes.{IsTracked}
use Rattle.tv_managed.specs.Names.{done_names}
use Rattle.tv_managed.proofs.managed_directory.ManagedDirectory.forget_collections.Goals as goal

pub returns-clause-tracked : goal.returns-clause-tracked
returns-clause-tracked g c listed was =
    subst (λ v. IsTracked g.D.Directory (v.0, record { managed = v.1.managed; collections = c.new.result })) (sym c.self.view_is) (record {
      forgets_none = was.forgets_none;
      covers = was.covers;
      listed = λ n h free. listed n h;
      gone = λ n undotted h. absurd (true≢false (sym h ∙ ap (λ v. has (done_names v) n) c.new.ensures));
    })
