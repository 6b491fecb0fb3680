use Rattle.tv_registers.proofs.Shares.{one_shared}
use Rattle.tv_registers.proofs.sharing.share_meta.Goals as goal

pub returns-in-Ok-clause-shares : goal.returns-in-Ok-clause-shares
returns-in-Ok-clause-shares c = record {
  ok = one_shared c.args.meta.now.0 c.args.inventory.now c.share.new.self (λ full. let failed = c.in-Ok.ensures.full.1 full in absurd cc) c.in-Ok.ensures.ok.entries;
  undone = c.in-Ok.ensures.ok.undone;
  err = tt;
  cause = tt;
}
