use Rattle.std.proofs.Common.{◌∙◌}
use Rattle.tv_index.proofs.Damages.{one_put}
use Rattle.tv_index.proofs.validating.put_damaged.Goals as goal

pub returns : goal.returns
returns c n =
    one_put c.args.damaged.now.keys c.insert.new.self.keys c.in_ok-copy.copy c.args.name.now n c.args.is_right c.if-is_right.false c.in_ok-insert.ensures.keys
    (c.in_ok-copy.ensures.ok ∙ c.as_str.ensures.text)
