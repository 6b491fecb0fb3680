use Rattle.tv_machine.proofs.Collects.{collects, collects_in}
use Rattle.tv_machine.proofs.CollectsInSteps.{collects_in_steps_in, collects_at_once, collects_all_else}
use Rattle.tv_machine.proofs.laws.collections_take_what_nothing_needs.Goals as goal

pub returns : goal.returns
returns c = record {
  collects = collects;
  in_runs = collects_in;
  in_steps = collects_in_steps_in;
  at_once = collects_at_once;
  all_else = collects_all_else;
}
