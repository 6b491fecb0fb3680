use Rattle.std.proofs.Common.{◌≡◌, ◌<◌, ◌-◌, [], Ok, Err, refl, inl, inr, ap, sym, subst, ◌∙◌, map, string_bytes}
use Rattle.std.specs.Prelude.{is_some}
use Rattle.tv_base.specs.declared.error.TantivyError.{TantivyError}
use Rattle.tv_formats.specs.Collections.{Collections, collection_at}
use Rattle.tv_managed.specs.Collecting.{names_of, taken_by, CollectFaults}
use Rattle.tv_managed.specs.Crashes.{CollectsNames}
use Rattle.tv_managed.specs.Names.{ManagedNames}
use Rattle.tv_managed.proofs.AtOnce.{Far, at_far, collects_all, collects_far, collects_none, collects_unended, far, given_back, may_give_back}
use Rattle.tv_managed.proofs.Tried.{tried_none}
use Rattle.tv_device.specs.View.{MayDelete}
use Rattle.tv_managed.proofs.Failing.{collect_ended, collect_on, collect_unended, collect_wanted, deletes_kept, deletes_then}
use Rattle.tv_managed.proofs.Results.{handed}
use Rattle.tv_managed.proofs.managed_directory.ManagedDirectory.garbage_collect.Goals as goal

pub returns-in_err-number-clause-collects : goal.returns-in_err-number-clause-collects
returns-in_err-number-clause-collects g c =
    let D = g.D.Directory in
    let begin = c.in_err-number.ensures in (
      [],
      collects_none D c.from_residual.result c.from_residual.ensures.0 (tried_none D c.args.self.now c.ask_and_begin.new.self begin.frame.kept (λ tell n other. begin.frame.content tell n)) begin.err (λ tells. begin.frame.content tells _) begin.safe,
      inl (c.from_residual.ensures.0, refl, begin.err),
    )

pub returns-in_err-try_each-clause-collects : goal.returns-in_err-try_each-clause-collects
returns-in_err-try_each-clause-collects g c =
    let D = g.D.Directory in
    let begin = c.in_ok-number.ensures in
    let at = begin.begins in
    let taken = taken_by (names_of at.0.keys) c.args.self.now.1 in
    let tried = c.try_each.ensures in
    let f : Far D taken c.args.self.now c.try_each.new.self = far D taken c.in_ok-number.number at.2 begin.frame begin.faults.quiet begin.safe tried.leaves tried.only in
    (taken, collects_far D taken c.from_residual-in_err-try_each.result c.from_residual-in_err-try_each.ensures.0 f, inr (at.0, at.1, refl))

pub collect_end-requires : goal.collect_end-requires
collect_end-requires g c =
    let D = g.D.Directory in
    let begin = c.in_ok-number.ensures in
    let at = begin.begins in
    let taken = taken_by (names_of at.0.keys) c.args.self.now.1 in
    let tried = c.try_each.ensures in
    let f : Far D taken c.args.self.now c.try_each.new.self = far D taken c.in_ok-number.number at.2 begin.frame begin.faults.quiet begin.safe tried.leaves tried.only in
    ap is_some (at_far D c.in_ok-number.number at.2.numbered f)

pub returns-in_err-result-clause-collects : goal.returns-in_err-result-clause-collects
returns-in_err-result-clause-collects g c =
    let D = g.D.Directory in
    let begin = c.in_ok-number.ensures in
    let at = begin.begins in
    let taken = taken_by (names_of at.0.keys) c.args.self.now.1 in
    let tried = c.try_each.ensures in
    let f : Far D taken c.args.self.now c.try_each.new.self = far D taken c.in_ok-number.number at.2 begin.frame begin.faults.quiet begin.safe tried.leaves tried.only in
    let end = c.in_err-result.ensures in
    (taken, collects_unended D taken c.in_ok-number.number {new = c.collect_end.new.self} _ c.from_residual-in_err-result.result c.from_residual-in_err-result.ensures.0 at.2.numbered f end.ends end.frame end.safe, inr (at.0, at.1, refl))

pub give_back-requires-clause-above : goal.give_back-requires-clause-above
give_back-requires-clause-above g c =
    let D = g.D.Directory in
    let begin = c.in_ok-number.ensures in
    let at = begin.begins in
    let taken = taken_by (names_of at.0.keys) c.args.self.now.1 in
    let tried = c.try_each.ensures in
    let f : Far D taken c.args.self.now c.try_each.new.self = far D taken c.in_ok-number.number at.2 begin.frame begin.faults.quiet begin.safe tried.leaves tried.only in
    let may = may_give_back D taken c.in_ok-number.number {new = c.collect_end.new.self} c.in_ok-result.result at.2.numbered f c.in_ok-result.ensures.ends in
    subst (λ v. 0 < v.1.collections.next) (sym c.self.view_is) may.0

pub give_back-requires-clause-free : goal.give_back-requires-clause-free
give_back-requires-clause-free g c =
    let D = g.D.Directory in
    let begin = c.in_ok-number.ensures in
    let at = begin.begins in
    let taken = taken_by (names_of at.0.keys) c.args.self.now.1 in
    let tried = c.try_each.ensures in
    let f : Far D taken c.args.self.now c.try_each.new.self = far D taken c.in_ok-number.number at.2 begin.frame begin.faults.quiet begin.safe tried.leaves tried.only in
    let may = may_give_back D taken c.in_ok-number.number {new = c.collect_end.new.self} c.in_ok-result.result at.2.numbered f c.in_ok-result.ensures.ends in
    ap (λ v. collection_at v.1.collections (v.1.collections.next - 1)) c.self.view_is ∙ may.1

pub returns-clause-collects : goal.returns-clause-collects
returns-clause-collects g c =
    let D = g.D.Directory in
    let begin = c.in_ok-number.ensures in
    let at = begin.begins in
    let taken = taken_by (names_of at.0.keys) c.args.self.now.1 in
    let tried = c.try_each.ensures in
    let f : Far D taken c.args.self.now c.try_each.new.self = far D taken c.in_ok-number.number at.2 begin.frame begin.faults.quiet begin.safe tried.leaves tried.only in
    let With : Collections → ManagedNames = λ cs. record { managed = map string_bytes c.self.inside.managed.keys; collections = cs } in
    let back : With c.give_back.new.self ≡ given_back c.collect_end.new.self.1 = ap With c.give_back.ensures ∙ ap given_back (ap (λ v. v.1) c.self.view_is) in
    let end = c.in_ok-result.ensures in
    let all : CollectsNames {E = TantivyError} D taken c.args.self.now (c.collect_end.new.self.0, With c.give_back.new.self) (Ok c.in_ok-result.result) =
    collects_all D taken c.in_ok-number.number c.in_ok-result.result at.2.numbered f c.in_ok-try_each.ensures.all back end.frame end.ends end.safe in
    (taken, subst (λ d. CollectsNames {E = TantivyError} D taken c.args.self.now (d, With c.give_back.new.self) (Ok c.in_ok-result.result)) (sym (ap (λ v. v.0) c.self.view_is)) all, inr (at.0, at.1, refl))

-- ---- why it was given up, and what it leaves alone

pub returns-in_err-number-clause-faults : goal.returns-in_err-number-clause-faults
returns-in_err-number-clause-faults g c =
    handed (CollectFaults g.D.Directory c.args.self.now c.ask_and_begin.new.self) c.from_residual.result _ c.from_residual.ensures.1 (collect_on g.D.Directory c.in_err-number.ensures.faults)

pub returns-in_err-number-clause-frame : goal.returns-in_err-number-clause-frame
returns-in_err-number-clause-frame g c = deletes_kept c.in_err-number.ensures.frame.kept

pub returns-in_err-try_each-clause-faults : goal.returns-in_err-try_each-clause-faults
returns-in_err-try_each-clause-faults g c =
    let D = g.D.Directory in
    let Given : TantivyError → Type 0 = λ e. CollectFaults D c.args.self.now c.try_each.new.self (Err e) in
    handed (CollectFaults D c.args.self.now c.try_each.new.self) c.from_residual-in_err-try_each.result _ c.from_residual-in_err-try_each.ensures.1
    (subst Given (sym c.in_err-try_each.ensures.memory) (collect_wanted D (c.try_each.ensures.only.faults ∙ c.in_ok-number.ensures.faults.quiet)))

pub returns-in_err-try_each-clause-frame : goal.returns-in_err-try_each-clause-frame
returns-in_err-try_each-clause-frame g c = deletes_then (deletes_kept c.in_ok-number.ensures.frame.kept) c.try_each.ensures.only.frame

pub returns-in_err-result-clause-faults : goal.returns-in_err-result-clause-faults
returns-in_err-result-clause-faults g c =
    handed (CollectFaults g.D.Directory c.args.self.now c.collect_end.new.self) c.from_residual-in_err-result.result _ c.from_residual-in_err-result.ensures.1
    (collect_unended g.D.Directory c.in_ok-number.ensures.faults c.try_each.ensures.only.faults c.in_err-result.ensures.faults)

pub returns-in_err-result-clause-frame : goal.returns-in_err-result-clause-frame
returns-in_err-result-clause-frame g c = deletes_then (deletes_then (deletes_kept c.in_ok-number.ensures.frame.kept) c.try_each.ensures.only.frame) (deletes_kept c.in_err-result.ensures.frame)

pub returns-clause-faults : goal.returns-clause-faults
returns-clause-faults g c = collect_ended g.D.Directory _ c.in_ok-number.ensures.faults c.try_each.ensures.only.faults c.in_ok-result.ensures.faults c.self.view_is refl

pub returns-clause-frame : goal.returns-clause-frame
returns-clause-frame g c =
    let D = g.D.Directory in
    subst (λ v. MayDelete D.told (D.view c.args.self.now.0) (D.view v.0)) (sym c.self.view_is)
    (deletes_then (deletes_then (deletes_kept c.in_ok-number.ensures.frame.kept) c.try_each.ensures.only.frame) (deletes_kept c.in_ok-result.ensures.frame))
