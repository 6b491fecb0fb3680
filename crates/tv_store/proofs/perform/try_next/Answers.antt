use Rattle.std.proofs.Common.{rules, ◌≡◌, ◌∷◌, Ok, [], List, ℕ, Some, Option, refl, ap, sym, subst, ◌∙◌, arith}
use Rattle.tv_formats.specs.Collections.{Collection, Collections, collection_at}
use Rattle.tv_formats.specs.Names.{meta_name}
use Rattle.tv_machine.specs.CollectionEvents.{having_deleted}
use Rattle.tv_store.proofs.Changed.{tried_less}
use Rattle.tv_store.proofs.CollectingEvents.{found_there, stepped_holds}
use Rattle.tv_store.proofs.FilesHeld.{short_same}
use Rattle.tv_store.proofs.Performing.{kept_by_deletes, on_files, plain_faults}
use Rattle.tv_catalog.specs.Actions.{after_one, after_tried, tried_in, tried_of}
use Rattle.tv_store.specs.Performing.{FilesHold}
use Rattle.tv_catalog.specs.declared.action.Action.TheVariants as actions
use Rattle.tv_catalog.specs.declared.action.Reply.TheVariants as replies
use Rattle.tv_formats.proofs.Results.{no_answer}
use Rattle.tv_store.proofs.Durable.{KeepsSealed}
use Rattle.tv_store.proofs.DurableCollections.{next_name, tried_keeps, tried_stored}
use Rattle.tv_store.proofs.perform.try_next.Goals as goal

pub returns-clause-performs : goal.returns-clause-performs
returns-clause-performs g c =
    let D = g.O.Directory in
    let number = c.args.number in
    let old = c.args.files.now in
    let new = c.collect_delete.new.self in
    let name = c.in_ok-tried.tried.name in
    let done = c.in_ok-tried.tried.is_done in
    let told = c.in_ok-tried.ensures.tries in
    let frame = c.collect_delete.ensures.frame in
    let reply : replies.Tried (record { name = name; is_done = done }) ≡ tried_in (collection_at old.collections number) (done ∷ []) =
    sym (ap (λ (o : Option Collection). tried_in o (done ∷ [])) told.there ∙ ap (λ (ns : List (List ℕ)). tried_of ns (done ∷ [])) told.first) in
    on_files D (actions.Try number) old new (Ok (replies.Tried (record { name = name; is_done = done }))) (done ∷ [], reply) (
      done ∷ [],
      told.counted,
      λ tells s h whole suits.
          let there : collection_at s.collections number ≡ Some told.collection = found_there D s.catalog old new frame.form s h number told.collection told.there in
          let state : after_tried s number (collection_at s.collections number) done ≡ (having_deleted s number told.collection name told.left_names done).1 =
          ap (λ (o : Option Collection). after_tried s number o done) there ∙ ap (λ (ns : List (List ℕ)). after_one s number told.collection ns done) told.first in
          record {
            reply_is = reply ∙ ap (λ (k : Collections). tried_in (collection_at k number) (done ∷ [])) h.collections;
            held = subst (FilesHold D new) (sym state) (stepped_holds D s.catalog old new frame.form s h number name done tells told);
            same = λ some stays. absurd (tried_less s number told.collection name told.left_names done there told.first (sym state ∙ stays));
            saves = λ commit e. absurd cc;
          },
    )
    (λ tells. told.others tells meta_name told.spares) (λ tells. c.collect_delete.ensures.dotted tells)
    (λ bound short. short_same bound 0 new.open_files new.open_files refl (c.collect_delete.ensures.lens bound short)) (omega (arith, ap (λ (k : Collections). k.next) told.collections))
    (plain_faults D (actions.Try number) old new _ (search rules) (λ spent. spent) (λ takes. takes, tt)) frame.form
    (kept_by_deletes D.told (actions.Try number) (D.view old.outside) (D.view new.outside) tt frame.below.watched frame.below) (λ only. absurd only) (frame.locked, refl)

pub returns-in_err-tried-clause-performs : goal.returns-in_err-tried-clause-performs
returns-in_err-tried-clause-performs g c =
    let D = g.O.Directory in
    let old = c.args.files.now in
    let new = c.collect_delete.new.self in
    let frame = c.collect_delete.ensures.frame in
    on_files D (actions.Try c.args.number) old new c.from_residual.result (search rules) (search rules) (λ tells. c.in_err-tried.ensures.same tells meta_name) (λ tells. c.collect_delete.ensures.dotted tells)
    (λ bound short. short_same bound 0 new.open_files new.open_files refl (c.collect_delete.ensures.lens bound short)) (search rules)
    (plain_faults D (actions.Try c.args.number) old new c.from_residual.result (search rules) (λ spent. spent) (λ takes. takes, tt)) frame.form
    (kept_by_deletes D.told (actions.Try c.args.number) (D.view old.outside) (D.view new.outside) tt frame.below.watched frame.below) (λ only. absurd only) (frame.locked, refl)

pub returns-clause-images : goal.returns-clause-images
returns-clause-images g c tells s h whole suits can d =
    let D = g.O.Directory in
    let number = c.args.number in
    let told = c.in_ok-tried.ensures.tries in
    let name = c.in_ok-tried.tried.name in
    let done = c.in_ok-tried.tried.is_done in
    let there : collection_at s.collections number ≡ Some told.collection = found_there D s.catalog c.args.files.now c.collect_delete.new.self c.collect_delete.ensures.frame.form s h number told.collection told.there in
    let state : after_tried s number (collection_at s.collections number) done ≡ (having_deleted s number told.collection name told.left_names done).1 =
    ap (λ (o : Option Collection). after_tried s number o done) there ∙ ap (λ (ns : List (List ℕ)). after_one s number told.collection ns done) told.first in
    tried_stored g.O.Directory c.args.files.now s (g.met.O.Directory.stands c.args.files.now.outside tells) h d whole number c.collect_delete.new.self _ (Ok c.in_ok-tried.tried) (Ok (replies.Tried (record { name = name; is_done = done })))
    (record { collection = told.collection; name = name; left = told.left_names; there = told.there; first = told.first }) c.collect_delete.ensures.frame.form (c.in_ok-tried.ensures.safe tells)
    (subst (KeepsSealed s) (sym state) (tried_keeps s number told.collection name told.left_names done whole there told.first))

pub returns-in_err-tried-clause-images : goal.returns-in_err-tried-clause-images
returns-in_err-tried-clause-images g c tells s h whole suits can d =
    tried_stored g.O.Directory c.args.files.now s (g.met.O.Directory.stands c.args.files.now.outside tells) h d whole c.args.number c.collect_delete.new.self _ c.collect_delete.result c.from_residual.result (next_name c.args.files.now.collections c.args.number c.requires) c.collect_delete.ensures.frame.form (c.collect_delete.ensures.safe tells) (no_answer c.from_residual.result _ c.from_residual.ensures.0)
