use Rattle.std.proofs.Common.{◌∙◌, refl, ap}
use Rattle.tv_device.specs.StoredFiles.{reads_of}
use Rattle.tv_directory.proofs.Crashed.{leaves_all, leaves_none, leaves_one, next_number, not_yet}
use Rattle.tv_directory.proofs.bench.Bench.left_files.Goals as goal

pub loop-name-init : goal.loop-name-init
loop-name-init g c = (
  tt,
  tt,
  leaves_none c.args.self.now c.args.moment c.args.choice.now _ c.args.names.keys _ _ c.into_iter-name-iterator.ensures.into_iter_gives.4 c.into_iter-name-iterator.ensures.into_iter_gives.0 c.iter-choices.ensures.rest (λ n. ap (λ files. reads_of files n) c.new-files.ensures.empty),
  λ n. rw c.new-files.ensures.empty refl,
  c.new-files.ensures.unmade,
)

pub leave-requires-clause-none : goal.leave-requires-clause-none
leave-requires-clause-none g c = not_yet _ _ _ _ _ _ _ _ _ c.loop-name.invariant.2 c.in-Some.ensures.steps

pub loop-name-preserved : goal.loop-name-preserved
loop-name-preserved g c =
    let (chosen, next) = next_number c.loop-name.choices c.next-in-loop-name.new.self c.next-in-loop-name.result c.copied.result c.unwrap_or-number.result c.next-in-loop-name.ensures.steps c.copied.ensures c.unwrap_or-number.ensures in
    (tt, tt, leaves_one _ _ _ _ _ _ _ _ _ c.loop-name.invariant.2 c.in-Some.ensures.steps _ _ _ chosen next c.in_ok-leave.ensures.reads, c.in_ok-leave.ensures.sealed c.loop-name.invariant.3, c.in_ok-leave.ensures.last ∙ c.loop-name.invariant.4)

pub returns-clause-left : goal.returns-clause-left
returns-clause-left g c = leaves_all _ _ _ _ _ _ _ c.loop-name.invariant.2 c.in-None.ensures.steps.0 c.requires.names
