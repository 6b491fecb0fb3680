use Rattle.std.proofs.Common.{◌<◌, ◌≤◌, Err, Ok, length, rules, sym, ◌∙◌, subst, arith}
use Rattle.std.proofs.lemmas.Result.{err_from_is_err_and}
use Rattle.tv_base.specs.declared.error.TantivyError.TheVariants as errors
use Rattle.tv_store.specs.Acting.{Acts}
use Rattle.tv_catalog.specs.Plans.{CanPerform}
use Rattle.tv_store.proofs.ActsPlanned.{answered, lock_after, saved_none, store_of, unperformed, unplanned, unready, unsettled}
use Rattle.tv_store.proofs.Asking.{asked_files, kept_by_files}
use Rattle.tv_store.proofs.DurableActs.{durable_after, leaves_behind, performed_acts, unplanned_acts, unready_acts}
use Rattle.tv_store.specs.Durable.{ActsSafely, IsDurable, store_files}
use Rattle.tv_store.specs.Kept.{IsHeld}
use Rattle.tv_store.proofs.index_store.IndexStore.act_by_plan.Goals as goal

pub returns-in_err-action-clause-acts : goal.returns-in_err-action-clause-acts
returns-in_err-action-clause-acts g c =
    let D = g.O.Directory in
    let e = err_from_is_err_and c.from_residual.result c.from_residual.ensures.1 in
    rw (e.1, e.2)
    (subst (λ v. Acts D v v c.args.event.now (Err c.in_err-action.field-0.0)) c.self.view_is
    (unplanned D c.self.inside.catalog (record { is_open = c.self.inside.is_open }) c.self.inside.files c.args.event.now c.in_err-action.field-0.0 c.in_err-action.ensures.cause))

pub returns-in_err-ready-clause-acts : goal.returns-in_err-ready-clause-acts
returns-in_err-ready-clause-acts g c =
    let D = g.O.Directory in
    let e = err_from_is_err_and c.from_residual-in_err-ready.result c.from_residual-in_err-ready.ensures.1 in
    rw (e.1, e.2)
    (subst (λ v. Acts D v (store_of c.self.inside.catalog c.ready.new.self (record { is_open = c.self.inside.is_open })) c.args.event.now (Err errors.Memory)) c.self.view_is
    (unready D c.self.inside.catalog (record { is_open = c.self.inside.is_open }) c.self.inside.files c.args.event.now c.in_ok-action.field-0 c.in_ok-action.ensures.plans c.ready.new.self (asked_files c.ready.ensures.room)
    c.ready.ensures.room.managed.below.faults))

pub perform-requires : goal.perform-requires
perform-requires g c = (
  c.self.inside.catalog,
  sym ((asked_files c.ready.ensures.room).managed.locked ∙ c.self.invariant.1),
  subst (λ kept. CanPerform kept c.in_ok-action.field-0.action) (sym (kept_by_files c.self.inside.catalog (asked_files c.ready.ensures.room))) c.in_ok-action.ensures.plans.ready,
)

pub returns-in_err-reply-clause-acts : goal.returns-in_err-reply-clause-acts
returns-in_err-reply-clause-acts g c =
    let D = g.O.Directory in
    let e = err_from_is_err_and c.from_residual-in_err-reply.result c.from_residual-in_err-reply.ensures.1 in
    rw (e.1, e.2)
    (subst (λ v. Acts D v (store_of c.self.inside.catalog c.perform.new.files (record { is_open = c.self.inside.is_open })) c.args.event.now (Err c.in_err-reply.field-0.0)) c.self.view_is
    (unperformed D c.self.inside.catalog (record { is_open = c.self.inside.is_open }) c.self.inside.files c.args.event.now c.in_ok-action.field-0 c.in_ok-action.ensures.plans c.ready.new.self (asked_files c.ready.ensures.room)
    c.ready.ensures.room.managed.below.faults c.perform.new.files c.in_err-reply.field-0.0 ((asked_files c.ready.ensures.room).managed.locked ∙ c.self.invariant.1) c.in_err-reply.ensures.performs))

pub returns-in_err-settle-clause-acts : goal.returns-in_err-settle-clause-acts
returns-in_err-settle-clause-acts g c =
    let D = g.O.Directory in
    let e = err_from_is_err_and c.from_residual-in_err-settle.result c.from_residual-in_err-settle.ensures.1 in
    rw (e.1, e.2)
    (subst (λ v. Acts D v (store_of c.settle.new.self c.perform.new.files (record { is_open = c.self.inside.is_open })) c.args.event.now (Err errors.Memory)) c.self.view_is
    (unsettled D c.self.inside.catalog (record { is_open = c.self.inside.is_open }) c.self.inside.files c.args.event.now c.in_ok-action.field-0 c.in_ok-action.ensures.plans c.ready.new.self (asked_files c.ready.ensures.room)
    c.ready.ensures.room.managed.below.faults c.perform.new.files c.settle.new.self c.in_ok-reply.reply ((asked_files c.ready.ensures.room).managed.locked ∙ c.self.invariant.1) c.in_err-settle.ensures.kept c.in_err-settle.ensures.sure c.in_ok-reply.ensures.performs (saved_none c.in_ok-reply.reply c.in_err-settle.ensures.saved)))

pub returns-clause-acts : goal.returns-clause-acts
returns-clause-acts g c =
    let D = g.O.Directory in
    let small : length c.line_of-answer.result ≤ c.capacity.result = search rules in
    let made : c.capacity.result < (D.view c.ready.new.self.outside).room = c.in_ok-ready.ensures.room.managed.below.made in
    let stays : (D.view c.ready.new.self.outside).room ≤ (D.view c.perform.new.files.outside).room = c.in_ok-reply.ensures.performs.frame.room in
    subst (λ v. Acts D v (store_of c.settle.new.self c.perform.new.files (record { is_open = c.self.inside.is_open })) c.args.event.now (Ok c.line_of-answer.result)) c.self.view_is
    (subst (λ k. Acts D (store_of c.self.inside.catalog c.self.inside.files (record { is_open = c.self.inside.is_open })) (store_of k c.perform.new.files (record { is_open = c.self.inside.is_open })) c.args.event.now (Ok c.line_of-answer.result)) (sym c.in_ok-settle.ensures.settled)
    (answered D c.self.inside.catalog (record { is_open = c.self.inside.is_open }) c.self.inside.files c.args.event.now c.in_ok-action.field-0 c.in_ok-action.ensures.plans c.ready.new.self (asked_files c.ready.ensures.room)
    c.ready.ensures.room.managed.below.faults c.perform.new.files c.in_ok-reply.reply c.line_of-answer.result ((asked_files c.ready.ensures.room).managed.locked ∙ c.self.invariant.1) c.in_ok-reply.ensures.performs c.line_of-answer.ensures (omega (arith, small, made, stays))))

pub returns-in_err-action-clause-images : goal.returns-in_err-action-clause-images
returns-in_err-action-clause-images g c tells s h whole durable =
    let D = g.O.Directory in
    let e = err_from_is_err_and c.from_residual.result c.from_residual.ensures.1 in
    rw (e.1, e.2)
    (subst (λ v. IsHeld D v s → IsDurable D (store_files v) s → ActsSafely D v v c.args.event.now s (Err c.in_err-action.field-0.0)) c.self.view_is
    (λ held d. unplanned_acts D c.self.inside.catalog (record { is_open = c.self.inside.is_open }) c.self.inside.files c.args.event.now s held d c.in_err-action.field-0.0) h durable)

pub returns-in_err-ready-clause-images : goal.returns-in_err-ready-clause-images
returns-in_err-ready-clause-images g c tells s h whole durable =
    let D = g.O.Directory in
    let e = err_from_is_err_and c.from_residual-in_err-ready.result c.from_residual-in_err-ready.ensures.1 in
    rw (e.1, e.2)
    (subst (λ v. IsHeld D v s → IsDurable D (store_files v) s → ActsSafely D v (store_of c.self.inside.catalog c.ready.new.self (record { is_open = c.self.inside.is_open })) c.args.event.now s (Err errors.Memory)) c.self.view_is
    (λ held d. unready_acts D c.self.inside.catalog (record { is_open = c.self.inside.is_open }) c.self.inside.files c.args.event.now s held d c.ready.new.self (asked_files c.ready.ensures.room) (c.ready.ensures.images tells) errors.Memory) h durable)

pub returns-in_err-reply-clause-images : goal.returns-in_err-reply-clause-images
returns-in_err-reply-clause-images g c tells s h whole durable =
    let D = g.O.Directory in
    let e = err_from_is_err_and c.from_residual-in_err-reply.result c.from_residual-in_err-reply.ensures.1 in
    rw (e.1, e.2)
    (subst (λ v. IsHeld D v s → IsDurable D (store_files v) s → ActsSafely D v (store_of c.self.inside.catalog c.perform.new.files (record { is_open = c.self.inside.is_open })) c.args.event.now s (Err c.in_err-reply.field-0.0)) c.self.view_is
    (λ held d.
    let leaves = leaves_behind D c.self.inside.catalog (record { is_open = c.self.inside.is_open }) c.self.inside.files c.args.event.now s held d c.ready.new.self (asked_files c.ready.ensures.room) (c.ready.ensures.images tells) c.in_ok-action.field-0 c.in_ok-action.ensures.plans c.ready.ensures.room.managed.below.faults c.perform.new.files (Err c.in_err-reply.field-0.0) tells (g.met.O.Directory.tells_more tells) whole c.in_err-reply.ensures.images in
    performed_acts D c.self.inside.catalog (record { is_open = c.self.inside.is_open }) c.self.inside.files c.args.event.now s held d c.ready.new.self (asked_files c.ready.ensures.room) (c.ready.ensures.images tells) c.in_ok-action.field-0 c.in_ok-action.ensures.plans c.ready.ensures.room.managed.below.faults c.perform.new.files (Err c.in_err-reply.field-0.0) c.self.inside.catalog (Err c.in_err-reply.field-0.0) leaves tt leaves.memory) h durable)

pub returns-in_err-settle-clause-images : goal.returns-in_err-settle-clause-images
returns-in_err-settle-clause-images g c tells s h whole durable =
    let D = g.O.Directory in
    let e = err_from_is_err_and c.from_residual-in_err-settle.result c.from_residual-in_err-settle.ensures.1 in
    rw (e.1, e.2)
    (subst (λ v. IsHeld D v s → IsDurable D (store_files v) s → ActsSafely D v (store_of c.settle.new.self c.perform.new.files (record { is_open = c.self.inside.is_open })) c.args.event.now s (Err errors.Memory)) c.self.view_is
    (λ held d.
    let leaves = leaves_behind D c.self.inside.catalog (record { is_open = c.self.inside.is_open }) c.self.inside.files c.args.event.now s held d c.ready.new.self (asked_files c.ready.ensures.room) (c.ready.ensures.images tells) c.in_ok-action.field-0 c.in_ok-action.ensures.plans c.ready.ensures.room.managed.below.faults c.perform.new.files (Ok c.in_ok-reply.reply) tells (g.met.O.Directory.tells_more tells) whole c.in_ok-reply.ensures.images in
    performed_acts D c.self.inside.catalog (record { is_open = c.self.inside.is_open }) c.self.inside.files c.args.event.now s held d c.ready.new.self (asked_files c.ready.ensures.room) (c.ready.ensures.images tells) c.in_ok-action.field-0 c.in_ok-action.ensures.plans c.ready.ensures.room.managed.below.faults c.perform.new.files (Ok c.in_ok-reply.reply) c.settle.new.self (Err errors.Memory) leaves tt (λ wanted. leaves.spared (saved_none c.in_ok-reply.reply c.in_err-settle.ensures.saved))) h durable)

pub returns-clause-images : goal.returns-clause-images
returns-clause-images g c tells s h whole durable =
    let D = g.O.Directory in
    let stands = g.met.O.Directory.stands c.perform.new.files.outside tells in
    subst (λ v. IsHeld D v s → IsDurable D (store_files v) s → ActsSafely D v (store_of c.settle.new.self c.perform.new.files (record { is_open = c.self.inside.is_open })) c.args.event.now s (Ok c.line_of-answer.result)) c.self.view_is
    (λ held d.
    let leaves = leaves_behind D c.self.inside.catalog (record { is_open = c.self.inside.is_open }) c.self.inside.files c.args.event.now s held d c.ready.new.self (asked_files c.ready.ensures.room) (c.ready.ensures.images tells) c.in_ok-action.field-0 c.in_ok-action.ensures.plans c.ready.ensures.room.managed.below.faults c.perform.new.files (Ok c.in_ok-reply.reply) tells (g.met.O.Directory.tells_more tells) whole c.in_ok-reply.ensures.images in
    performed_acts D c.self.inside.catalog (record { is_open = c.self.inside.is_open }) c.self.inside.files c.args.event.now s held d c.ready.new.self (asked_files c.ready.ensures.room) (c.ready.ensures.images tells) c.in_ok-action.field-0 c.in_ok-action.ensures.plans c.ready.ensures.room.managed.below.faults c.perform.new.files (Ok c.in_ok-reply.reply) c.settle.new.self (Ok c.line_of-answer.result) leaves
    (durable_after D c.self.inside.catalog (record { is_open = c.self.inside.is_open }) c.self.inside.files c.args.event.now s held d c.ready.new.self (asked_files c.ready.ensures.room) (c.ready.ensures.images tells) c.in_ok-action.field-0 c.in_ok-action.ensures.plans c.ready.ensures.room.managed.below.faults c.perform.new.files c.in_ok-reply.reply (g.met.O.Directory.tells_more tells) whole c.in_ok-reply.ensures.performs leaves stands c.settle.new.self c.in_ok-settle.ensures.settled) tt) h durable

pub invariant_of-self-2 : goal.invariant_of-self-2
invariant_of-self-2 g c = (
  c.self.invariant.0,
  lock_after g.O.Directory c.self.inside.catalog (record { is_open = c.self.inside.is_open }) c.self.inside.files c.args.event.now c.in_ok-action.field-0 c.in_ok-action.ensures.plans c.ready.new.self (asked_files c.ready.ensures.room)
      c.ready.ensures.room.managed.below.faults c.perform.new.files c.settle.new.self c.in_ok-reply.reply ((asked_files c.ready.ensures.room).managed.locked ∙ c.self.invariant.1) c.in_ok-reply.ensures.performs
      c.settle.result c.settle.ensures.settled c.settle.ensures.kept c.settle.ensures.sure,
)
