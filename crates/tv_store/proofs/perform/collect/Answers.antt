use Rattle.std.proofs.Common.{◌≡◌, ◌++◌, Ok, List, ℕ, map, string_bytes, refl, ap, sym, subst, ◌∙◌, arith}
use Rattle.std.proofs.lemmas.Result.{err_from_is_err_and}
use Rattle.tv_formats.specs.Collections.{Collections, collectable, done_of, failed_of, held}
use Rattle.tv_formats.specs.Names.{meta_name}
use Rattle.tv_machine.specs.CollectionEvents.{garbage, without_files}
use Rattle.tv_store.proofs.LockingCauses.{locking_as}
use Rattle.tv_store.proofs.Changed.{none_done}
use Rattle.tv_store.proofs.CollectionEvents.{collected, refusals_rose, takes_garbage}
use Rattle.tv_store.proofs.FilesHeld.{short_same}
use Rattle.tv_store.proofs.Performing.{kept_by_deletes, on_files}
use Rattle.tv_store.proofs.Listings.{undotted_isnt_list}
use Rattle.tv_catalog.specs.Actions.{taken_beside}
use Rattle.tv_catalog.specs.Kept.{CollectedNames}
use Rattle.tv_store.specs.Performing.{FilesHold}
use Rattle.tv_catalog.specs.declared.action.Action.TheVariants as actions
use Rattle.tv_catalog.specs.declared.action.Reply.TheVariants as replies
use Rattle.tv_formats.proofs.Results.{no_answer, no_ok}
use Rattle.tv_store.specs.Kept.{names_below}
use Rattle.tv_store.proofs.DurableCollections.{collected_stored, deleted_keeps, done_spares}
use Rattle.tv_store.proofs.perform.collect.Goals as goal

pub returns-clause-performs : goal.returns-clause-performs
returns-clause-performs g c =
    let D = g.O.Directory in
    let old = c.args.files.now in
    let new = c.collect.new.self in
    let action = actions.Collect c.args.living in
    let needed = map string_bytes c.args.living.keys in
    let reply = c.in_ok-collected.collected in
    let told = c.in_ok-collected.ensures.collects in
    let outs = told.tried.outcomes in
    let names = collectable (needed ++ held old.collections) old.managed in
    let faults = c.in_ok-collected.ensures.faults in
    let frame = c.collect.ensures.frame in
    let is : reply ≡ record { deleted = done_of names outs; failed = failed_of names outs } = rw (← told.tried.deleted_is, ← told.tried.failed_is) refl in
    on_files D action old new (Ok (replies.Collected reply)) (outs, ap (λ (r : CollectedNames). replies.Collected r) is) (
      outs,
      refusals_rose D names old new reply.deleted reply.failed told.tried (D.view old.outside).refusals (D.view new.outside).refusals told.counted,
      λ tells s h whole suits.
          let taken : names ≡ taken_beside needed s =
          ap (λ (k : Collections). collectable (needed ++ held k) old.managed) h.collections ∙ ap (collectable (needed ++ held s.collections)) h.managed in
          let all : names ≡ garbage s = takes_garbage D s.catalog old new frame.form s needed h suits in
          let done : reply.deleted ≡ done_of (garbage s) outs = told.tried.deleted_is ∙ ap (λ (ns : List (List ℕ)). done_of ns outs) all in
          record {
            reply_is = ap (λ (r : CollectedNames). replies.Collected r) is
                ∙ ap (λ (ns : List (List ℕ)). replies.Collected (record { deleted = done_of ns outs; failed = failed_of ns outs })) taken;
            held = subst (λ (ns : List (List ℕ)). FilesHold D new (without_files s ns)) (sym done)
                (collected D s.catalog old new frame.form s needed reply.deleted reply.failed tells h suits told (c.in_ok-collected.ensures.list tells));
            same = λ some stays. record {
              reads = told.same tells (done ∙ none_done s outs (subst (λ (ns : List (List ℕ)). without_files s ns ≡ s) done stays));
              watched = frame.below.watched;
            };
            saves = λ commit e. absurd cc;
          },
    )
    (λ tells. c.collect.ensures.spared tells meta_name c.requires (undotted_isnt_list meta_name refl)) (λ tells. c.collect.ensures.dotted tells)
    (λ bound short. short_same bound 0 new.open_files new.open_files refl (c.collect.ensures.lens bound short)) (omega (arith, ap (λ (k : Collections). k.next) told.collections))
    (record { quiet = faults.quiet; free = λ locks takes. faults.free locks; fits = faults.fits; cause = tt }) frame.form
    (kept_by_deletes D.told action (D.view old.outside) (D.view new.outside) tt frame.below.watched frame.below) (λ only. absurd only) (frame.locked, refl)

pub returns-in_err-collected-clause-performs : goal.returns-in_err-collected-clause-performs
returns-in_err-collected-clause-performs g c =
    let D = g.O.Directory in
    let old = c.args.files.now in
    let new = c.collect.new.self in
    let action = actions.Collect c.args.living in
    let frame = c.collect.ensures.frame in
    let e = err_from_is_err_and c.from_residual.result c.from_residual.ensures.1 in
    rw (e.1, e.2)
    (on_files D action old new _ tt tt (λ tells. c.collect.ensures.spared tells meta_name c.requires (undotted_isnt_list meta_name refl)) (λ tells. c.collect.ensures.dotted tells)
    (λ bound short. short_same bound 0 new.open_files new.open_files refl (c.collect.ensures.lens bound short)) tt
    (record { quiet = tt; free = λ locks takes. tt; fits = tt; cause = locking_as _ _ (λ b. (tt, b)) (λ spent. spent) c.in_err-collected.field-0.0 c.in_err-collected.ensures.faults.cause }) frame.form
    (kept_by_deletes D.told action (D.view old.outside) (D.view new.outside) tt frame.below.watched frame.below) (λ only. absurd only) (frame.locked, refl))

pub returns-clause-images : goal.returns-clause-images
returns-clause-images g c tells s h whole suits can d =
    let names = map string_bytes c.args.living.keys in
    let told = c.in_ok-collected.ensures.collects in
    collected_stored g.O.Directory c.args.files.now s (g.met.O.Directory.stands c.args.files.now.outside tells) h d c.args.living names c.collect.new.self _ (Ok (replies.Collected c.in_ok-collected.collected)) suits c.collect.ensures.frame.form (c.in_ok-collected.ensures.safe tells) (λ P h. h)
    (deleted_keeps s _ (λ n needed. done_spares _ names (names_below c.args.files.now).1 told.tried.outcomes _ n refl told.tried.deleted_is (suits n ∙ needed)))

pub returns-in_err-collected-clause-images : goal.returns-in_err-collected-clause-images
returns-in_err-collected-clause-images g c tells s h whole suits can d =
    collected_stored g.O.Directory c.args.files.now s (g.met.O.Directory.stands c.args.files.now.outside tells) h d c.args.living (map string_bytes c.args.living.keys) c.collect.new.self c.collect.result c.from_residual.result suits c.collect.ensures.frame.form (c.collect.ensures.safe tells) (λ P _. no_ok P c.from_residual.result c.from_residual.ensures.0) (no_answer c.from_residual.result _ c.from_residual.ensures.0)
