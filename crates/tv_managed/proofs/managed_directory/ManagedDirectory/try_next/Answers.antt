use Rattle.std.proofs.Common.{◌≡◌, refl, Bool, true, ap, subst, ◌∙◌, map, string_bytes, Ok, Err}
use Rattle.std.proofs.lemmas.Result.{IfOk-from_err}
use Rattle.tv_formats.specs.Names.{is_plain}
use Rattle.tv_formats.specs.Collections.{Collections, collection_at}
use Rattle.tv_formats.specs.declared.memory.Memory.{Memory}
use Rattle.tv_formats.proofs.Results.{on_err}
use Rattle.tv_managed.specs.Collecting.{ChangesNothing, NotesNext, OnlyDeletes, TriesName}
use Rattle.tv_managed.specs.Crashes.{LeavesSafely, TriesState, TriesStates}
use Rattle.tv_managed.specs.Names.{ManagedNames}
use Rattle.tv_managed.proofs.Stepping.{step_none, step_safely, tries_named}
use Rattle.tv_managed.proofs.managed_directory.ManagedDirectory.try_next.Goals as goal

pub delete_managed-requires : goal.delete_managed-requires
delete_managed-requires g c = c.next.ensures.plain

pub returns-in_err-is_done-clause-err : goal.returns-in_err-is_done-clause-err
returns-in_err-is_done-clause-err g c =
    let names : ManagedNames = record { managed = map string_bytes c.self.inside.managed.keys; collections = c.self.inside.collections } in
    on_err c.from_residual.result (subst (λ v. ChangesNothing g.D.Directory v (c.delete_managed.new.directory, names)) c.self.view_is (c.in_err-is_done.ensures.err names))

pub returns-in_err-is_done-clause-only : goal.returns-in_err-is_done-clause-only
returns-in_err-is_done-clause-only g c =
    let names : ManagedNames = record { managed = map string_bytes c.self.inside.managed.keys; collections = c.self.inside.collections } in
    subst (λ v. OnlyDeletes g.D.Directory v (c.delete_managed.new.directory, names)) c.self.view_is (c.delete_managed.ensures.only names)

pub returns-in_err-is_done-clause-safe : goal.returns-in_err-is_done-clause-safe
returns-in_err-is_done-clause-safe g c = λ tells next.
    let D = g.D.Directory in
    let names : ManagedNames = record { managed = map string_bytes c.self.inside.managed.keys; collections = c.self.inside.collections } in
    let same = c.next.ensures.first next.collection next.name next.left (ap (λ v. collection_at v.1.collections c.args.id) c.self.view_is ∙ next.there) next.first in
    let plain = subst (λ n. is_plain n ≡ true) same c.next.ensures.plain in
    let tries = subst (λ n. TriesState {E = Memory} (D.disk c.self.inside.directory) (D.disk c.delete_managed.new.directory) n (Err c.in_err-is_done.field-0.0)) same (c.in_err-is_done.ensures.images tells) in
    subst (λ v. LeavesSafely D (TriesStates {A = Bool} (λ it. it) (D.disk v.0) (D.disk c.delete_managed.new.directory) next.name c.from_residual.result) v (c.delete_managed.new.directory, names)) c.self.view_is
    (step_none (λ it. it) D next.name c.in_err-is_done.field-0.0 c.from_residual.result tries plain refl (IfOk-from_err c.from_residual.result _ c.from_residual.ensures.0))

pub returns-clause-notes : goal.returns-clause-notes
returns-clause-notes g c =
    let D = g.D.Directory in
    let gone = c.in_ok-is_done.is_done in
    let names : ManagedNames = record { managed = map string_bytes c.self.inside.managed.keys; collections = c.self.inside.collections } in
    let With : Collections → ManagedNames = λ cs. record { managed = map string_bytes c.self.inside.managed.keys; collections = cs } in
    subst (λ v. NotesNext D c.args.id v (c.delete_managed.new.directory, With c.mark.new.self) gone) c.self.view_is (λ next. let same = c.next.ensures.first next.collection next.name next.left next.there next.first in record {
      plain = subst (λ n. is_plain n ≡ true) same c.next.ensures.plain;
      names = ap With (c.mark.ensures next.collection next.name next.left next.there next.first);
      tried = tries_named D (With c.mark.new.self) gone refl (subst (λ n. TriesName D n (c.self.inside.directory, names) (c.delete_managed.new.directory, names) gone) same (c.in_ok-is_done.ensures.tried names));
    })

pub returns-clause-only : goal.returns-clause-only
returns-clause-only g c =
    let names : ManagedNames = record { managed = map string_bytes c.self.inside.managed.keys; collections = c.self.inside.collections } in
    let now : ManagedNames = record { managed = map string_bytes c.self.inside.managed.keys; collections = c.mark.new.self } in
    let only = c.delete_managed.ensures.only names in
    subst (λ v. OnlyDeletes g.D.Directory v (c.delete_managed.new.directory, now)) c.self.view_is (record { list = only.list; faults = only.faults; frame = only.frame })

pub returns-clause-safe : goal.returns-clause-safe
returns-clause-safe g c = λ tells next.
    let D = g.D.Directory in
    let gone = c.in_ok-is_done.is_done in
    let With : Collections → ManagedNames = λ cs. record { managed = map string_bytes c.self.inside.managed.keys; collections = cs } in
    let there = ap (λ v. collection_at v.1.collections c.args.id) c.self.view_is ∙ next.there in
    let same = c.next.ensures.first next.collection next.name next.left there next.first in
    let plain = subst (λ n. is_plain n ≡ true) same c.next.ensures.plain in
    let marked = c.mark.ensures next.collection next.name next.left there next.first in
    let tries = subst (λ n. TriesState {E = Memory} (D.disk c.self.inside.directory) (D.disk c.delete_managed.new.directory) n (Ok gone)) same (c.in_ok-is_done.ensures.images tells) in
    subst (λ v. LeavesSafely D (TriesStates {E = Memory} (λ it. it) (D.disk v.0) (D.disk c.delete_managed.new.directory) next.name (Ok gone)) v (c.delete_managed.new.directory, With c.mark.new.self)) c.self.view_is
    (step_safely D c.args.id next.collection next.name next.left gone tries plain there (ap With marked))
