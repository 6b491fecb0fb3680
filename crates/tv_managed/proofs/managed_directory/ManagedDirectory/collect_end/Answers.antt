use Rattle.std.proofs.Common.{rules, ◌≡◌, ℕ, Some, Ok, refl, ap, sym, subst, ◌∙◌, map, string_bytes}
use Rattle.std.specs.Prelude.{IsSome}
use Rattle.tv_formats.specs.Names.{has, list_name}
use Rattle.tv_formats.specs.Collections.{Collection, Collections, collection_at, without, without_collection}
use Rattle.tv_formats.specs.Files.{Same}
use Rattle.tv_formats.specs.Listing.{Lists}
use Rattle.tv_formats.proofs.Options.{some_value}
use Rattle.tv_base.specs.declared.error.TantivyError.{TantivyError}
use Rattle.tv_managed.specs.Collecting.{EndsCollection, Shortens, ending, names_of}
use Rattle.tv_managed.specs.Crashes.{ShortensSafely, ShortensStates}
use Rattle.tv_managed.specs.Managed.{Covers}
use Rattle.tv_managed.specs.Names.{ManagedNames}
use Rattle.tv_managed.proofs.Ending.{covers_finished, covers_unfinished, end_failed, end_safely, lacks_done}
use Rattle.tv_managed.proofs.managed_directory.ManagedDirectory.collect_end.Goals as goal

-- these names, without the collection of this number
finished : ℕ → ManagedNames → ManagedNames
finished number names = record names { collections = without_collection names.collections number }

pub returns-in_err-take_out_done-clause-ends : goal.returns-in_err-take_out_done-clause-ends
returns-in_err-take_out_done-clause-ends g c =
    let D = g.D.Directory in
    let some = some_value _ c.requires in
    let d = some.0 in
    let cut = c.take_out_done.ensures.shortens d some.1 in
    let same : c.take_out_done.new.self.1 ≡ c.args.self.now.1 = (c.in_err-take_out_done.ensures.shortens d some.1).err in
    let covers : D.told.content → Covers ((D.view c.args.self.now.0).reads list_name) c.args.self.now.1 → Covers ((D.view c.take_out_done.new.self.0).reads list_name) c.take_out_done.new.self.1 = λ tells was.
    subst (Covers ((D.view c.take_out_done.new.self.0).reads list_name)) (sym same) (covers_unfinished c.args.self.now.1 c.args.id d _ _ some.1 (cut.either tells) was) in
    record {
      ok = search rules;
      err = search (rules, same);
      saves = record { list = search rules; covers = covers };
      saves_none = search rules;
      others = cut.others;
    }

pub finish-requires : goal.finish-requires
finish-requires g c =
    let some = some_value _ c.requires in
    let ok = (c.in_ok-take_out_done.ensures.shortens some.0 some.1).ok in
    subst (λ cs. IsSome (collection_at cs c.args.id)) (sym (ap (λ v. v.1.collections) c.self.view_is ∙ ap (λ v. v.collections) ok)) c.requires

pub returns-clause-ends : goal.returns-clause-ends
unfolding finished
returns-clause-ends g c =
    let D = g.D.Directory in
    let old = c.args.self.now.1 in
    let reads = (D.view c.take_out_done.new.self.0).reads list_name in
    let some = some_value _ c.requires in
    let d = some.0 in
    let With : Collections → ManagedNames = λ cs. record { managed = map string_bytes c.self.inside.managed.keys; collections = cs } in
    let cut : (e : Collection) → collection_at old.collections c.args.id ≡ Some e → Shortens D (without e.done old.managed) c.args.self.now c.take_out_done.new.self (Ok (tt {0})) = c.in_ok-take_out_done.ensures.shortens in
    let stays : (e : Collection) → collection_at old.collections c.args.id ≡ Some e → collection_at c.self.inside.collections c.args.id ≡ Some e =
    λ e at. ap (λ v. collection_at v.1.collections c.args.id) c.self.view_is ∙ ap (λ v. collection_at v.collections c.args.id) (cut e at).ok ∙ at in
    let now : (e : Collection) → collection_at old.collections c.args.id ≡ Some e → With c.finish.new.self ≡ ending old c.args.id e =
    λ e at. ap With c.finish.ensures.names ∙ ap (finished c.args.id) (ap (λ v. v.1) c.self.view_is ∙ (cut e at).ok) in
    let told : (e : Collection) → collection_at old.collections c.args.id ≡ Some e → (names_of c.finish.result.deleted_files.items ≡ e.done) × (names_of c.finish.result.failed_to_delete_files.items ≡ e.failed) =
    λ e at. c.finish.ensures.told e (stays e at) in
    let covers : D.told.content → Covers ((D.view c.args.self.now.0).reads list_name) old → Covers reads (With c.finish.new.self) = λ tells was.
    subst (Covers reads) (sym (now d some.1)) (covers_finished old c.args.id d reads _ some.1 ((cut d some.1).either tells) was) in
    let list : D.told.content → Lists ((D.view c.args.self.now.0).reads list_name) old.managed → Lists reads (With c.finish.new.self).managed = λ tells was.
    subst (Lists reads) (sym (ap (λ v. v.managed) (now d some.1))) ((cut d some.1).lists tells was) in
    subst (λ x. EndsCollection {E = TantivyError} D c.args.id c.args.self.now (x, With c.finish.new.self) (Ok c.finish.result)) (sym (ap (λ v. v.0) c.self.view_is)) (record {
      ok = λ e at. record {
        deleted = (told e at).0;
        failed = (told e at).1;
        names = now e at;
        apart = λ n h. ap (λ l. has l n) (told e at).0 ∙ c.finish.ensures.apart e (stays e at) n (ap (λ l. has l n) (sym (told e at).1) ∙ h);
      };
      err = tt;
      saves = record { list = list; covers = covers };
      saves_none = λ tells none. subst (λ v. Same (D.view c.args.self.now.0).reads (D.view v.0).reads) (sym (c.take_out_done.ensures.saves_none d some.1 (sym (told d some.1).0 ∙ ap names_of none))) (λ n. refl);
      others = (cut d some.1).others;
    })

pub returns-in_err-take_out_done-clause-safe : goal.returns-in_err-take_out_done-clause-safe
returns-in_err-take_out_done-clause-safe g c = λ tells d at.
    end_failed g.D.Directory c.from_residual.result c.from_residual.ensures.0 (c.take_out_done.ensures.safe tells d at (lacks_done c.args.self.now.1 c.args.id d at))

pub returns-clause-safe : goal.returns-clause-safe
unfolding finished
returns-clause-safe g c = λ tells d at.
    let D = g.D.Directory in
    let left = without d.done c.args.self.now.1.managed in
    let safe = c.in_ok-take_out_done.ensures.safe tells d at (lacks_done c.args.self.now.1 c.args.id d at) in
    let ok = (c.in_ok-take_out_done.ensures.shortens d at).ok in
    let names = ap (λ v. v.1) c.self.view_is ∙ ok in
    let With : Collections → ManagedNames = λ cs. record { managed = map string_bytes c.self.inside.managed.keys; collections = cs } in
    let now : With c.finish.new.self ≡ ending c.args.self.now.1 c.args.id d = ap With c.finish.ensures.names ∙ ap (finished c.args.id) names in
    subst (λ x. ShortensSafely {E = TantivyError} D (ShortensStates D left c.args.self.now (x, With c.finish.new.self)) c.args.self.now (x, With c.finish.new.self) (Ok c.finish.result)) (sym (ap (λ v. v.0) c.self.view_is))
    (end_safely D c.finish.result c.args.id d at ok now safe)
