use Rattle.std.proofs.Common.{rules, ◌≡◌, Ok, Some, Option, refl, ap, sym, subst, ◌∙◌, arith}
use Rattle.tv_formats.specs.Collections.{Collection, collection_at}
use Rattle.tv_formats.specs.Names.{meta_name}
use Rattle.tv_store.proofs.Changed.{ended_now}
use Rattle.tv_store.proofs.CollectingEvents.{ended_holds, found_there}
use Rattle.tv_store.proofs.FilesHeld.{short_same}
use Rattle.tv_store.proofs.Listings.{undotted_isnt_list}
use Rattle.tv_store.proofs.Performing.{came_undeleted, kept_by, on_files, plain_faults}
use Rattle.tv_catalog.specs.Actions.{after_end}
use Rattle.tv_store.specs.Performing.{FilesHold}
use Rattle.tv_catalog.specs.declared.action.Action.TheVariants as actions
use Rattle.tv_catalog.specs.declared.action.Reply.TheVariants as replies
use Rattle.tv_formats.proofs.Options.{some_value}
use Rattle.tv_formats.proofs.Results.{no_answer, no_ok}
use Rattle.tv_store.proofs.DurableCollections.{ended_keeps, ended_stored}
use Rattle.tv_store.proofs.perform.end.Goals as goal

pub returns-clause-performs : goal.returns-clause-performs
returns-clause-performs g c =
    let D = g.O.Directory in
    let old = c.args.files.now in
    let new = c.collect_end.new.self in
    let done = c.in_ok-collect_end.ensures in
    let told = done.ends in
    let form : new.form ≡ old.form = ap (λ v. v.form) done.frame.rest in
    on_files D (actions.End c.args.number) old new (Ok replies.Done) refl
    (came_undeleted D (actions.End c.args.number) old new (Ok replies.Done) done.frame.below (λ tells s h whole suits.
    let there : collection_at s.collections c.args.number ≡ Some told.collection = found_there D s.catalog old new form s h c.args.number told.collection told.there in
    record {
      reply_is = refl;
      held = subst (λ (o : Option Collection). FilesHold D new (after_end s c.args.number o)) (sym there) (ended_holds D s.catalog old new form s h c.args.number tells told (done.others tells) done.frame.rest);
      same = λ some stays. absurd (ended_now s c.args.number told.collection there (sym (ap (λ (o : Option Collection). after_end s c.args.number o) there) ∙ stays));
      saves = λ commit e. absurd cc;
    }))
    (λ tells. done.others tells meta_name (undotted_isnt_list meta_name refl)) (λ tells n dot other. done.others tells n other)
    (λ bound short. short_same bound 0 old.open_files new.open_files (ap (λ v. v.open_files) done.frame.rest) short) (omega (arith, ap (λ v. v.next) told.collections))
    (plain_faults D (actions.End c.args.number) old new (Ok replies.Done) (search rules) (λ spent. spent) (λ takes. takes, tt)) form
    (kept_by D.told _ (D.view old.outside) (D.view new.outside) done.frame.below.watched done.frame.below) (λ only. absurd only) (ap (λ v. v.locked) done.frame.rest, refl)

pub returns-clause-images : goal.returns-clause-images
returns-clause-images g c tells s h whole suits can d =
    let it = some_value _ c.requires in
    ended_stored g.O.Directory c.args.files.now s (g.met.O.Directory.stands c.args.files.now.outside tells) h d c.args.number it.0 c.collect_end.new.self _ (Ok replies.Done) it.1 (ap (λ v. v.form) c.collect_end.ensures.frame.rest) (c.in_ok-collect_end.ensures.safe tells) (λ P h. h) (ended_keeps s c.args.number (collection_at s.collections c.args.number))

pub returns-in_err-collect_end-clause-images : goal.returns-in_err-collect_end-clause-images
returns-in_err-collect_end-clause-images g c tells s h whole suits can d =
    let it = some_value _ c.requires in
    ended_stored g.O.Directory c.args.files.now s (g.met.O.Directory.stands c.args.files.now.outside tells) h d c.args.number it.0 c.collect_end.new.self c.collect_end.result c.from_residual.result it.1 (ap (λ v. v.form) c.collect_end.ensures.frame.rest) (c.collect_end.ensures.safe tells) (λ P _. no_ok P c.from_residual.result c.from_residual.ensures.0) (no_answer c.from_residual.result _ c.from_residual.ensures.0)
