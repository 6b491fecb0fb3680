use Rattle.std.proofs.Common.{◌≡◌, rules, sym, ap, subst, ◌∙◌, Ok}
use Rattle.tv_formats.specs.Collections.{held}
use Rattle.tv_formats.specs.Files.{Rose}
use Rattle.tv_formats.specs.Names.{has, meta_name}
use Rattle.tv_formats.proofs.Results.{handed_on, no_ok}
use Rattle.tv_store.specs.StoreCauses.{EventCause}
use Rattle.tv_store.specs.Kept.{names_below}
use Rattle.tv_store.proofs.CollectingFiles.{end_cause, end_spares, ends_so}
use Rattle.tv_store.specs.OpenFiles.{AreThere}
use Rattle.tv_store.proofs.KnownFiles.{beside_list, still_there}
use Rattle.tv_store.proofs.OpenFiles.{still_open, AreOpen}
use Rattle.tv_store.proofs.FileStates.{ended_below}
use Rattle.tv_store.proofs.files.StoreFiles.collect_end.Goals as goal

pub returns-in_err-_result-clause-faults : goal.returns-in_err-_result-clause-faults
returns-in_err-_result-clause-faults g c =
    let D = g.O.Directory in
    let after = (D.view c.collect_end.new.self.0).faults in
    let error = c.in_err-_result.field-0.0 in
    record {
      quiet = search rules;
      fits = search rules;
      cause =
          handed_on c.from_residual.result error (EventCause (Rose (D.view c.args.self.now.outside).faults after) (after ≡ (D.view c.args.self.now.outside).faults) ⊥) c.from_residual.ensures.1
          (subst (λ o. EventCause (Rose (D.view o).faults after) (after ≡ (D.view o).faults) ⊥ error) (ap (λ d. d.0) c.directory_mut.ensures.value ∙ ap (λ v. v.outside) c.self.view_is)
          (end_cause _ _ error c.in_err-_result.ensures.faults.cause c.in_err-_result.ensures.faults.unlocked));
    }

pub invariant_of-self-2 : goal.invariant_of-self-2
invariant_of-self-2 g c = (
  still_open g.O.Directory c.directory_mut.result.now.0 c.collect_end.new.self.0 c.self.inside.files.entries c.collect_end.ensures.frame.frame.tells_none.deletes_none (subst (λ d. AreOpen g.O.Directory d.0 c.self.inside.files.entries) (sym c.directory_mut.ensures.value) c.self.invariant.0),
  end_spares g.O.Directory c.args.number c.args.self.now c.directory_mut.result.now (c.directory_mut.ensures.value ∙ ap names_below c.self.view_is) c.requires (sym (ap (λ v. has (held v.collections) meta_name) c.self.view_is) ∙ c.self.invariant.1) c.collect_end.new.self _ c.in_ok-_result.ensures.ends,
  λ tells. still_there _ _ c.self.inside.known.keys (beside_list _ _ (c.collect_end.ensures.ends.others tells)) (subst (λ d. AreThere (g.O.Directory.view d.0).reads c.self.inside.known.keys) (sym c.directory_mut.ensures.value) (c.self.invariant.2 tells)),
)

pub returns-clause-ends : goal.returns-clause-ends
returns-clause-ends g c =
    ends_so g.O.Directory c.args.number c.args.self.now c.directory_mut.result.now (c.directory_mut.ensures.value ∙ ap names_below c.self.view_is) c.requires (sym (ap (λ v. has (held v.collections) meta_name) c.self.view_is) ∙ c.self.invariant.1) _ _ c.in_ok-_result.ensures.ends

pub returns-in_err-_result-clause-safe : goal.returns-in_err-_result-clause-safe
returns-in_err-_result-clause-safe g c tells = ended_below g.O.Directory (c.directory_mut.ensures.value ∙ ap names_below c.self.view_is) c.args.number c.collect_end.result c.from_residual.result (λ P _. no_ok P c.from_residual.result c.from_residual.ensures.0) (c.collect_end.ensures.safe tells)

pub returns-clause-safe : goal.returns-clause-safe
returns-clause-safe g c tells = ended_below g.O.Directory (c.directory_mut.ensures.value ∙ ap names_below c.self.view_is) c.args.number _ (Ok tt) (λ P h. h) (c.in_ok-_result.ensures.safe tells)
