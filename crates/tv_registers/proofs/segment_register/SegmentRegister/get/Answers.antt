use Rattle.std.proofs.Common.{rules, ◌≡◌, Some, map, sym, subst}
use Rattle.std.specs.Option.{option_to_list}
use Rattle.std.specs.Result.{result_err}
use Rattle.tv_formats.specs.Names.{at}
use Rattle.tv_registers.specs.Registers.{ticket_of}
use Rattle.tv_registers.specs.Sharing.{SharesEach}
use Rattle.tv_registers.proofs.Shares.{told_on}
use Rattle.tv_registers.proofs.segment_register.SegmentRegister.get.Goals as goal

pub returns-in_err-share-in-Some-clause-shares : goal.returns-in_err-share-in-Some-clause-shares
returns-in_err-share-in-Some-clause-shares c =
    let there : at c.args.self.now c.args.id.now ≡ Some c.in-Some.entry.now = search rules in
    let same : result_err c.share.result ≡ result_err c.from_residual.result = search rules in
    subst (λ o. SharesEach (map ticket_of (option_to_list o)) c.args.inventory.now c.share.new.inventory c.from_residual.result) (sym there)
    (told_on _ _ _ c.share.result c.from_residual.result same c.share.ensures.shares)
