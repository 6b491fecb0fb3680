use Rattle.std.proofs.Common.{◌≡◌, ◌++◌, ◌+◌, ℕ, Ok, List, map, string_bytes, refl, ap, sym, subst, ◌∙◌, arith}
use Rattle.std.proofs.lemmas.Result.{err_from_is_err_and}
use Rattle.tv_formats.specs.Collections.{Collections, collectable, held, with_begun}
use Rattle.tv_machine.specs.CollectionEvents.{garbage}
use Rattle.tv_machine.specs.State.{State}
use Rattle.tv_store.proofs.LockingCauses.{locking_as}
use Rattle.tv_store.proofs.CollectingEvents.{begun_holds}
use Rattle.tv_store.proofs.CollectionEvents.{takes_garbage}
use Rattle.tv_store.proofs.FilesHeld.{short_same}
use Rattle.tv_store.proofs.Performing.{came_undeleted, on_read}
use Rattle.tv_catalog.specs.Actions.{taken_beside}
use Rattle.tv_store.specs.Performing.{FilesHold}
use Rattle.tv_catalog.specs.declared.action.Action.TheVariants as actions
use Rattle.tv_catalog.specs.declared.action.Reply.TheVariants as replies
use Rattle.tv_formats.proofs.Results.{no_answer}
use Rattle.tv_store.proofs.DurableFiles.{begun_stored}
use Rattle.tv_store.proofs.perform.begin.Goals as goal

pub returns-clause-performs : goal.returns-clause-performs
returns-clause-performs g c =
    let D = g.O.Directory in
    let old = c.args.files.now in
    let new = c.collect_begin.new.self in
    let action = actions.Begin c.args.living in
    let needed = map string_bytes c.args.living.keys in
    let told = c.in_ok-collect_begin.ensures.begins in
    let faults = c.in_ok-collect_begin.ensures.faults in
    let frame = c.collect_begin.ensures.frame in
    let form : new.form ≡ old.form = ap (λ v. v.form) frame.rest in
    on_read D action old new (Ok replies.Done) refl
    (came_undeleted D action old new (Ok replies.Done) frame.below.kept (λ tells s h whole suits.
    let taken : collectable (needed ++ held old.collections) old.managed ≡ taken_beside needed s =
    ap (λ (k : Collections). collectable (needed ++ held k) old.managed) h.collections ∙ ap (collectable (needed ++ held s.collections)) h.managed in
    let is : garbage s ≡ taken_beside needed s = sym (takes_garbage D s.catalog old new form s needed h suits) ∙ taken in
    record {
      reply_is = refl;
      held = subst (λ (ns : List (List ℕ)). FilesHold D new (record s { collections = with_begun s.collections ns })) is
          (begun_holds D s.catalog old new form s h c.in_ok-collect_begin.field-0 needed suits told (frame.below.content tells) frame.rest);
      same = λ some stays. let more : s.collections.next + 1 ≡ s.collections.next = ap (λ (t : State). t.collections.next) stays in absurd (omega (arith, more));
      saves = λ commit e. absurd cc;
    }))
    (λ bound short. short_same bound 0 old.open_files new.open_files (ap (λ v. v.open_files) frame.rest) short) (omega (arith, ap (λ (k : Collections). k.next) told.collections))
    (record { quiet = faults.quiet; free = λ locks takes. faults.free locks; fits = faults.fits; cause = tt }) form refl frame.below (ap (λ v. v.locked) frame.rest, refl)

pub returns-in_err-collect_begin-clause-performs : goal.returns-in_err-collect_begin-clause-performs
returns-in_err-collect_begin-clause-performs g c =
    let D = g.O.Directory in
    let old = c.args.files.now in
    let new = c.collect_begin.new.self in
    let frame = c.collect_begin.ensures.frame in
    let e = err_from_is_err_and c.from_residual.result c.from_residual.ensures.1 in
    rw (e.1, e.2)
    (on_read D (actions.Begin c.args.living) old new _ tt tt (λ bound short. short_same bound 0 old.open_files new.open_files (ap (λ v. v.open_files) frame.rest) short) tt
    (record { quiet = tt; free = λ locks takes. tt; fits = tt; cause = locking_as _ _ (λ b. (tt, b)) (λ spent. spent) c.in_err-collect_begin.field-0.0 c.in_err-collect_begin.ensures.faults.cause })
    (ap (λ v. v.form) frame.rest) refl frame.below (ap (λ v. v.locked) frame.rest, refl))

pub returns-in_err-collect_begin-clause-images : goal.returns-in_err-collect_begin-clause-images
returns-in_err-collect_begin-clause-images g c tells s h whole suits can d =
    begun_stored g.O.Directory c.args.files.now s (g.met.O.Directory.stands c.args.files.now.outside tells) h d c.args.living c.collect_begin.new.self c.collect_begin.result c.from_residual.result (ap (λ v. v.form) c.collect_begin.ensures.frame.rest) (c.collect_begin.ensures.safe tells) (no_answer c.from_residual.result _ c.from_residual.ensures.0)

pub returns-clause-images : goal.returns-clause-images
returns-clause-images g c tells s h whole suits can d =
    begun_stored g.O.Directory c.args.files.now s (g.met.O.Directory.stands c.args.files.now.outside tells) h d c.args.living c.collect_begin.new.self c.collect_begin.result (Ok replies.Done) (ap (λ v. v.form) c.collect_begin.ensures.frame.rest) (c.collect_begin.ensures.safe tells) refl
