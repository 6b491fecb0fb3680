use Rattle.std.proofs.Common.{[], ◌∷◌, not, ◌&&◌, refl, sym, ap, subst, ◌∙◌, true, false}
use Rattle.tv_formats.specs.Collections.{held}
use Rattle.tv_formats.specs.Names.{has, meta_name, at}
use Rattle.tv_formats.proofs.PlainNames.{plain_is_file_name}
use Rattle.tv_managed.specs.Collecting.{tried_name, is_done}
use Rattle.tv_managed.specs.declared.collection.CollectStep.TheVariants as steps
use Rattle.tv_catalog.specs.Kept.{HasUntried}
use Rattle.tv_store.specs.Kept.{names_below}
use Rattle.tv_store.proofs.CollectingFiles.{next_keeps_dotted, next_others, next_spares, next_writers, tried_next, tries_so}
use Rattle.tv_store.specs.OpenFiles.{AreThere}
use Rattle.tv_store.proofs.KnownFiles.{left_there, same_there, still_there}
use Rattle.tv_store.proofs.OpenFiles.{AreOpen}
use Rattle.tv_store.proofs.Removals.{bodies_gone, collected_open, contains_itself, lens_left, one_out}
use Rattle.tv_store.proofs.FileStates.{tried_below, untried_below}
use Rattle.tv_store.proofs.files.StoreFiles.collect_delete.Goals as goal

pub new-name-requires : goal.new-name-requires
new-name-requires g c =
    let next = tried_next g.O.Directory c.args.number _ (steps.Done c.in-Done.text) (tried_name (steps.Done c.in-Done.text)) c.directory_mut.result.now c.collect_delete.new.self (names_below c.args.self.now) (c.directory_mut.ensures.value ∙ ap names_below c.self.view_is) c.in-Done.is refl c.requires c.in_ok-text.ensures.steps in
    plain_is_file_name (tried_name (steps.Done c.in-Done.text)) next.plain

pub new-requires : goal.new-requires
new-requires g c =
    let next = tried_next g.O.Directory c.args.number _ (steps.Failed c.in-Failed.text) (tried_name (steps.Failed c.in-Failed.text)) c.directory_mut.result.now c.collect_delete.new.self (names_below c.args.self.now) (c.directory_mut.ensures.value ∙ ap names_below c.self.view_is) c.in-Failed.is refl c.requires c.in_ok-text.ensures.steps in
    plain_is_file_name (tried_name (steps.Failed c.in-Failed.text)) next.plain

pub invariant_of-self-in-Done : goal.invariant_of-self-in-Done
invariant_of-self-in-Done g c =
    let D = g.O.Directory in
    let old = c.directory_mut.result.now in
    let name = c.new-name.result in
    let next = tried_next g.O.Directory c.args.number _ (steps.Done c.in-Done.text) name c.directory_mut.result.now c.collect_delete.new.self c.directory_mut.result.now refl c.in-Done.is c.new-name.ensures (subst (λ d. HasUntried d.1.collections c.args.number) (sym (c.directory_mut.ensures.value ∙ ap names_below c.self.view_is)) c.requires) c.in_ok-text.ensures.steps in (
      collected_open D old.0 c.collect_delete.new.self.0 (name ∷ []) c.self.inside.files.entries c.remove_one.new.map.entries c.collect_delete.ensures.only.frame.goes_on
          (next_writers D c.args.number name true old c.collect_delete.new.self next) c.remove_one.ensures.name c.remove_one.ensures.left
          (subst (λ d. AreOpen D d.0 c.self.inside.files.entries) (sym c.directory_mut.ensures.value) c.self.invariant.0),
      next_spares D c.args.number name true old c.collect_delete.new.self next (ap (λ d. has (held d.1.collections) meta_name) c.directory_mut.ensures.value ∙ c.self.invariant.1),
      λ tells.
          left_there _ _ c.self.inside.known.keys c.remove-known.new.self.keys (name ∷ []) (λ n. one_out c.self.inside.known.keys c.remove-known.new.self.keys name (name ∷ []) [] n _ refl (c.remove-known.ensures.updates.0 n) refl)
          (λ n file other. next_others D c.args.number name true old c.collect_delete.new.self next tells n other)
          (subst (λ d. AreThere (D.view d.0).reads c.self.inside.known.keys) (sym c.directory_mut.ensures.value) (c.self.invariant.2 tells)),
    )

pub invariant_of-self-in-Failed : goal.invariant_of-self-in-Failed
invariant_of-self-in-Failed g c =
    let D = g.O.Directory in
    let old = c.directory_mut.result.now in
    let next = tried_next g.O.Directory c.args.number _ (steps.Failed c.in-Failed.text) (tried_name (steps.Failed c.in-Failed.text)) c.directory_mut.result.now c.collect_delete.new.self c.directory_mut.result.now refl c.in-Failed.is refl (subst (λ d. HasUntried d.1.collections c.args.number) (sym (c.directory_mut.ensures.value ∙ ap names_below c.self.view_is)) c.requires) c.in_ok-text.ensures.steps in (
      collected_open D old.0 c.collect_delete.new.self.0 [] c.self.inside.files.entries c.self.inside.files.entries c.collect_delete.ensures.only.frame.goes_on
          (next_writers D c.args.number _ false old c.collect_delete.new.self next) (λ n. refl) (contains_itself c.self.inside.files.entries)
          (subst (λ d. AreOpen D d.0 c.self.inside.files.entries) (sym c.directory_mut.ensures.value) c.self.invariant.0),
      next_spares D c.args.number _ false old c.collect_delete.new.self next (ap (λ d. has (held d.1.collections) meta_name) c.directory_mut.ensures.value ∙ c.self.invariant.1),
      λ tells.
          still_there _ _ c.self.inside.known.keys (same_there _ _ (λ n. next_others D c.args.number _ false old c.collect_delete.new.self next tells n refl))
          (subst (λ d. AreThere (D.view d.0).reads c.self.inside.known.keys) (sym c.directory_mut.ensures.value) (c.self.invariant.2 tells)),
    )

pub returns-in-Done-clause-tries : goal.returns-in-Done-clause-tries
returns-in-Done-clause-tries g c =
    let name = c.new-name.result in
    tries_so g.O.Directory c.args.number name true c.args.self.now _
    (tried_next g.O.Directory c.args.number _ (steps.Done c.in-Done.text) name c.directory_mut.result.now c.collect_delete.new.self (names_below c.args.self.now) (c.directory_mut.ensures.value ∙ ap names_below c.self.view_is) c.in-Done.is c.new-name.ensures c.requires c.in_ok-text.ensures.steps)
    (sym (ap (λ v. has (held v.collections) meta_name) c.self.view_is) ∙ c.self.invariant.1)
    (λ n. bodies_gone (λ w. (g.O.Directory.state_of w).written) c.self.inside.files.entries c.remove_one.new.map.entries c.args.self.now.open_files (name ∷ []) n (ap (λ v. v.open_files) c.self.view_is) (c.remove_one.ensures.name n))
    (λ n. one_out c.self.inside.left.keys c.remove-left.new.self.keys name (name ∷ []) [] n _ refl (c.remove-left.ensures.updates.0 n) (ap (λ v. not (has (name ∷ []) n) && has v.left n) c.self.view_is))

pub returns-in-Failed-clause-tries : goal.returns-in-Failed-clause-tries
returns-in-Failed-clause-tries g c =
    tries_so g.O.Directory c.args.number c.new.result false c.args.self.now _
    (tried_next g.O.Directory c.args.number _ (steps.Failed c.in-Failed.text) c.new.result c.directory_mut.result.now c.collect_delete.new.self (names_below c.args.self.now) (c.directory_mut.ensures.value ∙ ap names_below c.self.view_is) c.in-Failed.is c.new.ensures c.requires c.in_ok-text.ensures.steps)
    (sym (ap (λ v. has (held v.collections) meta_name) c.self.view_is) ∙ c.self.invariant.1) (λ n. ap (λ v. at v.open_files n) c.self.view_is) (λ n. ap (λ v. has v.left n) c.self.view_is)

pub returns-in-Done-clause-dotted : goal.returns-in-Done-clause-dotted
returns-in-Done-clause-dotted g c tells n dot other =
    let next = tried_next g.O.Directory c.args.number _ (steps.Done c.in-Done.text) (tried_name (steps.Done c.in-Done.text)) c.directory_mut.result.now c.collect_delete.new.self (names_below c.args.self.now) (c.directory_mut.ensures.value ∙ ap names_below c.self.view_is) c.in-Done.is refl c.requires c.in_ok-text.ensures.steps in
    next_others g.O.Directory c.args.number _ true (names_below c.args.self.now) c.collect_delete.new.self next tells n (next_keeps_dotted g.O.Directory c.args.number _ true (names_below c.args.self.now) c.collect_delete.new.self next n dot)

pub returns-in-Failed-clause-dotted : goal.returns-in-Failed-clause-dotted
returns-in-Failed-clause-dotted g c tells n dot other =
    let next = tried_next g.O.Directory c.args.number _ (steps.Failed c.in-Failed.text) (tried_name (steps.Failed c.in-Failed.text)) c.directory_mut.result.now c.collect_delete.new.self (names_below c.args.self.now) (c.directory_mut.ensures.value ∙ ap names_below c.self.view_is) c.in-Failed.is refl c.requires c.in_ok-text.ensures.steps in
    next_others g.O.Directory c.args.number _ false (names_below c.args.self.now) c.collect_delete.new.self next tells n refl

pub returns-in-Done-clause-lens : goal.returns-in-Done-clause-lens
returns-in-Done-clause-lens g c bound h = lens_left (λ w. (g.O.Directory.state_of w).written) c.self.inside.files.entries c.remove_one.new.map.entries c.args.self.now.open_files bound (ap (λ v. v.open_files) c.self.view_is) c.remove_one.ensures.left h

pub returns-in-Done-clause-safe : goal.returns-in-Done-clause-safe
returns-in-Done-clause-safe g c tells = tried_below g.O.Directory (c.directory_mut.ensures.value ∙ ap names_below c.self.view_is) c.args.number is_done _ _ _ (ap is_done c.in-Done.is) (c.in_ok-text.ensures.safe tells)

pub returns-in-Failed-clause-safe : goal.returns-in-Failed-clause-safe
returns-in-Failed-clause-safe g c tells = tried_below g.O.Directory (c.directory_mut.ensures.value ∙ ap names_below c.self.view_is) c.args.number is_done _ _ _ (ap is_done c.in-Failed.is) (c.in_ok-text.ensures.safe tells)

pub returns-in_err-text-clause-safe : goal.returns-in_err-text-clause-safe
returns-in_err-text-clause-safe g c tells = untried_below g.O.Directory (c.directory_mut.ensures.value ∙ ap names_below c.self.view_is) c.args.number is_done _ _ c.from_residual.result c.from_residual.ensures.0 (c.in_err-text.ensures.safe tells)
