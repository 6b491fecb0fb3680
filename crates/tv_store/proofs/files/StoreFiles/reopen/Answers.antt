use Rattle.std.proofs.Common.{◌||◌, is_some, refl, sym, ap, ◌∙◌}
use Rattle.tv_formats.specs.Names.{has, at}
use Rattle.tv_store.proofs.OpenFiles.{bodies, is_open}
use Rattle.std.proofs.lemmas.Result.{on_ok_weaker}
use Rattle.tv_store.proofs.files.StoreFiles.reopen.Goals as goal

pub returns-clause-reopened : goal.returns-clause-reopened
returns-clause-reopened g c =
    on_ok_weaker c.leave_all.result (λ names. record {
      open_files = ap (λ m. bodies (λ w. (g.O.Directory.state_of w).written) m.entries) c.replace-files.ensures.after ∙ ap (λ es. bodies (λ w. (g.O.Directory.state_of w).written) es) c.new.ensures.empty;
      left = λ n.
          names n
          ∙ ap (λ v. has v.left n || is_some (at c.replace-files.result.entries n)) c.self.view_is
          ∙ ap (λ b. has c.args.self.now.left n || b)
          (sym (is_open (λ w. (g.O.Directory.state_of w).written) c.replace-files.result.entries c.args.self.now.open_files n _
          (ap (λ m. bodies (λ w. (g.O.Directory.state_of w).written) m.entries) c.replace-files.ensures.value ∙ ap (λ v. v.open_files) c.self.view_is) refl));
      collections = ap (λ n. n.collections) c.forget_collections.ensures.forgets;
    }) c.leave_all.ensures
